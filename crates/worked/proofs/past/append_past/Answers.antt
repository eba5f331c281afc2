-- `worked::past::append_past` meets its contract, piece by piece.
-- Assumes nothing.
use Rattle.printing.proofs.PageLaws.{both}
use Rattle.worked.proofs.past.append_past.Goals as goal

pub returns : goal.returns
returns c =
    both
    (both (both (both c.append.ensures c.found_line.ensures) c.append_line.ensures) c.append_line-2.ensures)
    c.append_unless.ensures
