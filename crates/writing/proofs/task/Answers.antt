-- `writing::task` meets its contract: its numbers, its delays and the newline.
-- Assumes nothing.
use Rattle.printing.proofs.PageLaws.{both}
use Rattle.writing.specs.Text.{task_line}
use Rattle.writing.proofs.task.Goals as goal

pub returns : goal.returns
unfolding task_line
returns c = both (both c.numbers.ensures c.delays.ensures) c.append.ensures
