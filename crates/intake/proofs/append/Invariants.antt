use Rattle.intake.proofs.CopyLaws.{Copied}
use Rattle.intake.proofs.append.Given as goal

abbrev pub invariant-loop-i : goal.invariant-loop-i
invariant-loop-i l = Copied l.initial.out l.at l.bytes l.count l.i l.out
