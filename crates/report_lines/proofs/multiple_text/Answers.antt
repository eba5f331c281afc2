-- `report_lines::multiple_text` meets its contract, in either case.
-- Assumes nothing.
use Rattle.report_lines.proofs.multiple_text.Goals as goal

pub returns-in-Some : goal.returns-in-Some
returns-in-Some c = rw c.in-Some.is c.line_with_number.ensures

pub returns-in-None : goal.returns-in-None
returns-in-None c = rw c.in-None.is c.append.ensures
