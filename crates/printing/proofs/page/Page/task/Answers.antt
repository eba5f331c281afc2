-- `printing::page::Page::task` meets its contract: its four parts, one after the other.
-- Assumes nothing.
use Rattle.printing.proofs.PageLaws.{both}
use Rattle.printing.proofs.page.Page.task.Goals as goal

pub returns : goal.returns
returns c =
    rw (← c.from.ensures, ← c.from-2.ensures)
    (both (both (both c.append_number.ensures c.response.ensures) c.append_with_number.ensures) c.line_with_number.ensures)
