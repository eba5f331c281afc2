use Rattle.answering.proofs.GroupLaws.{Scanning}
use Rattle.answering.proofs.group_of.Given as goal

abbrev pub invariant-loop-k : goal.invariant-loop-k
invariant-loop-k l = Scanning l.tasks.priorities.now l.tasks.costs.now l.tasks.n l.i l.own l.k l.sum
