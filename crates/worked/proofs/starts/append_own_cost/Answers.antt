-- `worked::starts::append_own_cost` meets its contract, piece by piece.
-- Assumes nothing.
use Rattle.printing.proofs.PageLaws.{both}
use Rattle.worked.proofs.starts.append_own_cost.Goals as goal

pub returns : goal.returns
returns c = both c.append_line.ensures c.append_unless.ensures
