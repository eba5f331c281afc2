-- `typed::section` meets its contract.
-- Assumes nothing.
use Rattle.printing.proofs.PageLaws.{both, as_wrote}
use Rattle.typed.proofs.ByteLaws.{row_is}
use Rattle.typed.proofs.section.Goals as goal

pub returns : goal.returns
returns c = as_wrote (both (both c.byte.ensures c.byte-2.ensures) c.word.ensures) (row_is _ _)
