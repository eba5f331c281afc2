-- `printing::page::Page::append_number` meets its contract: the digits that `io::decimal` gives, appended.
-- Assumes nothing.
use native.Mathlib.Omega.{arith}
use Rattle.printing.proofs.NumberLaws.{decimal_is}
use Rattle.printing.proofs.PageLaws.{as_wrote}
use Rattle.printing.proofs.page.Page.append_number.Goals as goal

pub returns : goal.returns
returns c = as_wrote c.append.ensures (decimal_is _ c.args.number _ (omega arith) c.decimal-count.ensures.len c.decimal-count.ensures.digits)
