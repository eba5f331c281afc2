-- `report::lines` meets its contract: the lines have room.
-- Assumes nothing.
use Rattle.reporting.proofs.LengthLaws.{lines_within}
use Rattle.report.proofs.lines.Goals as goal

pub returns-clause-end_in_bounds : goal.returns-clause-end_in_bounds
returns-clause-end_in_bounds c = lines_within c.requires.countable c.requires.more_in_bounds c.go_on.ensures
