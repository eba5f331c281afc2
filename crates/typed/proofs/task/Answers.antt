-- `typed::task` meets its contract.
-- Assumes nothing.
use Rattle.printing.proofs.PageLaws.{both, as_wrote}
use Rattle.typed.proofs.ByteLaws.{record_is}
use Rattle.typed.proofs.task.Goals as goal

pub returns : goal.returns
returns c =
    as_wrote
    (both (both (both (both c.byte.ensures c.word.ensures) c.word-2.ensures) c.word-3.ensures) c.delayed.ensures)
    (record_is c.args.delays _ _)
