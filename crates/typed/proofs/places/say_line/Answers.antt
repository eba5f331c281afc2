-- `typed::places::say_line` meets its contract, test by test.
-- Assumes nothing.
use borrow.Author.Tests.{ne_eqb}
use Rattle.printing.proofs.PageLaws.{both}
use Rattle.typed.proofs.places.say_line.Goals as goal

pub returns-else-line-eq0 : goal.returns-else-line-eq0
returns-else-line-eq0 c = rw (ne_eqb c.args.line 0 c.if-line-eq0.false) (both c.append_with_number.ensures c.append-else-line-eq0.ensures)
