use Rattle.scanning.specs.Read.{place_at}
use Rattle.scanning.proofs.PieceLaws.{Going}
use Rattle.scanning.proofs.go_on.Given as goal

abbrev pub invariant-loop-i : goal.invariant-loop-i
invariant-loop-i l = Going (record { state = l.initial.state; at = place_at l.from; count = l.initial.count }) l.piece l.initial.words l.i l.state l.count l.words
