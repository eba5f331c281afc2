-- `printing::page::Page::append_with_number` meets its contract: the word, then the number.
-- Assumes nothing.
use Rattle.printing.proofs.PageLaws.{both}
use Rattle.printing.proofs.page.Page.append_with_number.Goals as goal

pub returns : goal.returns
returns c = both c.append.ensures c.append_number.ensures
