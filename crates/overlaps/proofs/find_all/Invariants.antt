use mathlib.Core.Path.{◌≡◌}
use lib.ListN.{length}
use Rattle.model.proofs.Filling.{Filling}
use Rattle.answering.specs.Lent.{decoded_from}
use Rattle.answering.proofs.AnsweringLaws.{Walking}
use Rattle.overlaps.specs.Outcome.{result_of}
use Rattle.overlaps.specs.Columns.{longest_in, tried_in}
use Rattle.overlaps.proofs.find_all.Given as goal

abbrev pub invariant-loop-i : goal.invariant-loop-i
invariant-loop-i l =
    Walking (decoded_from l.tasks) l.tasks.n l.i l.group.end l.group.costs.0 l.group.reached.0
    × (l.found ≡ result_of (longest_in (decoded_from l.tasks) l.tasks.n) l.i)
    × Filling (longest_in (decoded_from l.tasks) l.tasks.n) l.tasks.n l.i l.initial.answers l.answers
    × Filling (tried_in (decoded_from l.tasks) l.tasks.n) l.tasks.n l.i l.initial.tried l.tried
    × (length l.marks ≡ length l.initial.marks)
