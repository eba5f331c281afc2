use Rattle.reading.proofs.DelayLaws.{Together}
use Rattle.reading.proofs.any_delay.Given as goal

abbrev pub invariant-loop-delay : goal.invariant-loop-delay
invariant-loop-delay l = Together l.latest l.n l.delay-index l.together
