use Prim.Native.Nat.{◌-◌}
use Rattle.marks.proofs.PassLaws.{Searching}
use Rattle.marks.proofs.next_below.Given as goal

abbrev pub invariant-loop-k : goal.invariant-loop-k
invariant-loop-k l = Searching l.marks l.end l.least.0 l.from l.k

abbrev pub decreases-loop-k : goal.decreases-loop-k
decreases-loop-k l = l.end - l.k
