-- `printing::page::Page::judged` meets its contract: the tasks' lines, then the verdict's.
-- Assumes nothing.
use Rattle.printing.proofs.PageLaws.{both}
use Rattle.printing.proofs.page.Page.judged.Goals as goal

pub returns : goal.returns
returns c = both c.tasks.ensures c.verdict_line.ensures
