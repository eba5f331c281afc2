-- `report::closing` meets its contract: there is room.
-- Assumes nothing.
use native.Mathlib.Omega.{arith}
use Rattle.printing.proofs.LongestLaws.{whole}
use Rattle.reporting.proofs.LengthLaws.{closing_fits}
use Rattle.report.proofs.closing.Goals as goal

pub returns : goal.returns
returns c = whole _ _ _ _ (omega (arith, closing_fits c.args.report, c.requires)) c.finish.ensures
