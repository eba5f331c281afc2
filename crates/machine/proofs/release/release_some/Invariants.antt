use Rattle.model.specs.Lists.{word_of}
use Rattle.model.proofs.Filling.{Filling}
use Rattle.machine.specs.Machine.{left_with, due_with}
use Rattle.machine.proofs.ReleaseLaws.{Releasing}
use Rattle.machine.proofs.release.release_some.Given as goal

abbrev pub invariant-loop-p : goal.invariant-loop-p
invariant-loop-p l =
    Releasing l.tasks.periods.now l.tasks.costs.now l.at.0 l.initial.left l.initial.due l.first l.to l.ready l.p l.word l.earliest
    × Filling (left_with (word_of l.tasks.costs.now) (word_of l.initial.due) l.at.0 (word_of l.initial.left)) l.to l.p l.initial.left l.left
    × Filling (due_with (word_of l.tasks.periods.now) (word_of l.initial.due) l.at.0) l.to l.p l.initial.due l.due
