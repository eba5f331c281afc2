-- `worked::playing::append_played` meets its contract, piece by piece.
-- Assumes nothing.
use Rattle.printing.proofs.PageLaws.{both}
use Rattle.worked.proofs.playing.append_played.Goals as goal

pub returns : goal.returns
returns c = both (both c.append.ensures c.verdict_line.ensures) c.append_unless.ensures
