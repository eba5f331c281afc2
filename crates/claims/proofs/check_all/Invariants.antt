use Rattle.answering.specs.Lent.{decoded_from}
use Rattle.claims.proofs.ClaimLaws.{Checking}
use Rattle.claims.proofs.check_all.Given as goal

abbrev pub invariant-loop-i : goal.invariant-loop-i
invariant-loop-i l =
    Checking (decoded_from l.tasks) l.tasks.n l.claims l.i l.group.end l.group.costs.0 l.group.reached.0
