-- `typed::places::say` meets its contract.
-- Assumes nothing.
use Rattle.printing.proofs.PageLaws.{both}
use Rattle.typed.proofs.places.say.Goals as goal

pub returns : goal.returns
returns c = both (both c.say_line.ensures c.append.ensures) c.append-2.ensures
