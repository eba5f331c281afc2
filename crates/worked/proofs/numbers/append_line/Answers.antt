-- `worked::numbers::append_line` meets its contract, piece by piece.
-- Assumes nothing.
use Rattle.printing.proofs.PageLaws.{both}
use Rattle.worked.proofs.numbers.append_line.Goals as goal

pub returns : goal.returns
returns c = both (both c.append.ensures c.append_numbers.ensures) c.append-2.ensures
