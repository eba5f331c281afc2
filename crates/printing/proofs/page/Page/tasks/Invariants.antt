use Rattle.printing.specs.Page.{Wrote}
use Rattle.printing.specs.Text.{task_lines}
use Rattle.printing.proofs.page.Page.tasks.Given as goal

abbrev pub invariant-loop-i : goal.invariant-loop-i
invariant-loop-i l = Wrote l.initial.self (task_lines l.label l.table l.answers l.counts l.i) l.self
