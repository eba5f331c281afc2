use Prim.Native.Nat.{◌-◌}
use mathlib.Core.Path.{◌≡◌}
use lib.ListN.{length}
use Rattle.solver.proofs.RoundLaws.{Before}
use Rattle.solver.proofs.follow.Given as goal

abbrev pub invariant-loop-ahead : goal.invariant-loop-ahead
invariant-loop-ahead l =
    Before l.fn.loads.periods.now l.fn.loads.costs.now l.fn.loads.spreads.now l.fn.loads.own l.fn.loads.count l.fn.base.0 l.initial.x l.fn.late.0 l.fn.deadline.0 l.x l.rounds l.marks l.tally.sum l.tally.least.0 × (length l.marks ≡ length l.initial.marks)

abbrev pub decreases-loop-ahead : goal.decreases-loop-ahead
decreases-loop-ahead l =
    l.fn.deadline.0 - l.x
