use Rattle.typing.proofs.MemoryLaws.{Going}
use Rattle.typing.proofs.go_on.Given as goal

abbrev pub invariant-loop-byte : goal.invariant-loop-byte
invariant-loop-byte l = Going l.initial.next l.piece l.initial.fields l.initial.numbers l.initial.places l.byte-index l.next l.fields l.numbers l.places
