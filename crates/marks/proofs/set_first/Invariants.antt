use Rattle.marks.proofs.PassLaws.{Setting}
use Rattle.marks.proofs.set_first.Given as goal

abbrev pub invariant-loop-k : goal.invariant-loop-k
invariant-loop-k l = Setting l.loads.periods.now l.loads.spreads.now l.loads.own l.loads.count l.k l.initial.marks l.marks
