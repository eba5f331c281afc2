use mathlib.Core.Path.{◌≡◌}
use lib.ListN.{length}
use Rattle.jobs.proofs.TryingLaws.{Trying}
use Rattle.jobs.proofs.search.Given as goal

abbrev pub invariant-loop-q : goal.invariant-loop-q
invariant-loop-q l =
    Trying l.fn.loads.periods.now l.fn.loads.costs.now l.fn.loads.spreads.now l.fn.loads.own l.fn.loads.count l.fn.held.0 l.fn.cost.0 l.fn.period.0 l.fn.deadline.0 l.fn.ahead.0 l.q l.base l.x l.passed l.limit l.largest l.marks l.least.0
    × (length l.marks ≡ length l.initial.marks)
