use Rattle.machine.specs.Slices.{kept}
use Rattle.machine.proofs.ReleaseLaws.{Looking}
use Rattle.machine.proofs.release.release.Given as goal

abbrev pub invariant-loop-w : goal.invariant-loop-w
invariant-loop-w l =
    Looking l.tasks.periods.now l.tasks.costs.now l.tasks.n l.at.0 (kept l.initial.left l.initial.due l.initial.ready l.initial.nexts) l.w (kept l.left l.due l.ready l.nexts) l.earliest
