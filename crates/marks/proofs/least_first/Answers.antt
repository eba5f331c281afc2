-- `marks::least_first` meets its contract: after k turns it has the least first mark of k places.
-- Assumes nothing.
use native.Mathlib.Omega.{arith}
use mathlib.Core.Path.{sym}
use Rattle.marks.proofs.PassLaws.{least_none, least_next}
use Rattle.marks.proofs.least_first.Goals as goal

pub loop-k-init : goal.loop-k-init
loop-k-init c = (omega arith, sym (least_none _ _))

pub loop-k-preserved : goal.loop-k-preserved
loop-k-preserved c = (omega (arith, c.loop-k-test.true), least_next _ _ _ _ _ _ c.loop-k.invariant.1 c.first_mark-mark.ensures c.min.ensures)
