use Rattle.engine.proofs.PlayedLaws.{Looking}
use Rattle.engine.proofs.any_tie.Given as goal

abbrev pub invariant-loop-i : goal.invariant-loop-i
invariant-loop-i l = Looking l.table l.n l.i l.at l.size
