use mathlib.Core.Path.{◌≡◌}
use lib.ListN.{length}
use Rattle.model.proofs.Filling.{Filling}
use Rattle.answering.specs.Results.{result_of}
use Rattle.answering.specs.Slices.{answer_in, rounds_in}
use Rattle.answering.specs.Lent.{decoded_from}
use Rattle.answering.proofs.AnsweringLaws.{Walking}
use Rattle.answering.proofs.answer_all.Given as goal

abbrev pub invariant-loop-i : goal.invariant-loop-i
invariant-loop-i l =
    Walking (decoded_from l.tasks) l.tasks.n l.i l.group.end l.group.costs.0 l.group.reached.0
    × (l.verdict ≡ result_of (answer_in (decoded_from l.tasks) l.tasks.n) l.i)
    × Filling (answer_in (decoded_from l.tasks) l.tasks.n) l.tasks.n l.i l.initial.answers l.answers
    × Filling (rounds_in l.start (decoded_from l.tasks) l.tasks.n) l.tasks.n l.i l.initial.rounds l.rounds
    × (length l.marks ≡ length l.initial.marks)
