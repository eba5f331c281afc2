use Prim.Native.Nat.{◌-◌}
use Rattle.marks.proofs.PassLaws.{Passing}
use Rattle.marks.proofs.pass.Given as goal

abbrev pub invariant-loop-k : goal.invariant-loop-k
invariant-loop-k l = Passing l.loads.periods.now l.loads.costs.now l.initial.marks l.loads.count l.w.0 l.initial.least.0 l.before l.k l.marks l.sum l.least.0

abbrev pub decreases-loop-k : goal.decreases-loop-k
decreases-loop-k l = l.loads.count - l.k
