use lib.ListN.{length}
use Rattle.typing.proofs.SetLaws.{Putting}
use Rattle.typing.proofs.put_all.Given as goal

abbrev pub invariant-loop-i : goal.invariant-loop-i
invariant-loop-i l = Putting l.initial.numbers l.at l.fields (length l.fields) l.i l.numbers
