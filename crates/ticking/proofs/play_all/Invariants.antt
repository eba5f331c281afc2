use mathlib.Core.Path.{◌≡◌}
use Rattle.model.specs.Lists.{filled, word_of}
use Rattle.machine.specs.Slices.{kept}
use Rattle.ticking.proofs.ReportLaws.{reported}
use Rattle.ticking.proofs.PlayLaws.{Playing}
use Rattle.ticking.proofs.play_all.Given as goal

abbrev pub invariant-loop-at : goal.invariant-loop-at
invariant-loop-at l =
    Playing l.tasks.periods.now l.tasks.costs.now l.tasks.n l.limit.0 (kept l.initial.left l.initial.due l.initial.ready l.initial.nexts) l.at (kept l.left l.due l.ready l.nexts) l.ahead.place.0 l.ahead.next.0
    × (l.answers ≡ filled (reported (word_of l.tasks.periods.now) (word_of l.tasks.costs.now) l.tasks.n (word_of l.tasks.deadlines.now) l.at) l.tasks.n l.initial.answers)
