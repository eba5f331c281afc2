-- So many bytes are read, and what is kept of them is kept.
-- Assumes nothing.
use Prim.Native.Nat.{◌-◌}
use Rattle.report.proofs.ReadLaws.{Sofar}
use Rattle.report.proofs.report_all.Given as goal

abbrev pub invariant-loop-total : goal.invariant-loop-total
invariant-loop-total l = Sofar l.initial.store l.store l.piece l.out l.report l.total

abbrev pub decreases-loop-total : goal.decreases-loop-total
decreases-loop-total l = 9223372036854775808 - l.total
