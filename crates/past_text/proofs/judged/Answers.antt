-- `past_text::judged` meets its contract: the tasks' lines, then that of what was found.
-- Assumes nothing.
use Rattle.printing.proofs.PageLaws.{both}
use Rattle.past_text.proofs.judged.Goals as goal

pub returns : goal.returns
returns c = both c.tasks.ensures c.found_line.ensures
