-- `printing::page::Page::refusal_line` meets its contract: the number, then the place.
-- Assumes nothing.
use Rattle.printing.proofs.PageLaws.{both}
use Rattle.printing.proofs.page.Page.refusal_line.Goals as goal

pub returns : goal.returns
returns c = rw (← c.from.ensures) (both c.append_with_number.ensures c.line_with_number.ensures)
