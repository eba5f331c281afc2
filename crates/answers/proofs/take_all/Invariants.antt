-- So many bytes are read, and what is kept of them is kept.
-- Assumes nothing.
use Prim.Native.Nat.{◌-◌}
use Rattle.answers.proofs.ReadLaws.{Sofar}
use Rattle.answers.proofs.take_all.Given as goal

abbrev pub invariant-loop-total : goal.invariant-loop-total
invariant-loop-total g l = Sofar l.initial.store l.store l.fill l.piece l.total

abbrev pub decreases-loop-total : goal.decreases-loop-total
decreases-loop-total g l = 4590 - l.total
