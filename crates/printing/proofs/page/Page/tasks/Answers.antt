-- `printing::page::Page::tasks` meets its contract: each turn appends one line.
-- Assumes nothing.
use native.Mathlib.Omega.{arith}
use Rattle.printing.proofs.TextLaws.{lines_none, lines_more_law, lines_all}
use Rattle.printing.proofs.page.Page.tasks.Goals as goal

pub loop-i-init : goal.loop-i-init
loop-i-init c = lines_none _ _ _ _ _

pub loop-i-preserved : goal.loop-i-preserved
loop-i-preserved c = lines_more_law c.args.label.now c.args.table.now c.args.answers.now c.args.counts.now _ c.loop-i.invariant c.word.ensures c.deadline-due.ensures c.word-in-loop-i.ensures c.task.ensures

pub returns : goal.returns
returns c = lines_all c.args.label.now c.args.table.now c.args.answers.now c.args.counts.now c.line_with_number.ensures c.loop-i.invariant (omega arith) c.task_count-n.ensures.0
