use Prim.Native.Nat.{◌+◌}
use Rattle.blocking.proofs.SweepLaws.{Swept}
use Rattle.blocking.proofs.blocking.Given as goal

abbrev pub invariant-loop-i : goal.invariant-loop-i
invariant-loop-i l =
    Swept l.priorities l.places l.semaphores l.longest l.n l.count l.initial.held l.held l.rows l.kept l.most.0 l.left l.i

abbrev pub decreases-loop-i : goal.decreases-loop-i
decreases-loop-i l =
    l.i + l.left
