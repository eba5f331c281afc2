-- `engine::play_columns` meets its contract: the room, the rows, the delays, the ties, then the play.
-- Assumes nothing.
use native.Mathlib.Omega.{arith}
use mathlib.Core.Path.{sym, ◌∙◌}
use Rattle.ticking.proofs.PlayLaws.{start_held}
use Rattle.engine.proofs.PlayedLaws.{right, tasks_held, deadlines_held_law, limit_high, no_room, rows_refused, delay_refused, tie_refused, all_played}
use Rattle.engine.proofs.play_columns.Goals as goal

pub bounds-table-3 : goal.bounds-table-3
bounds-table-3 c = omega (arith, (right _ _ _ _ _ c.requires.numbers_held).head.long_enough)

pub returns-then-answers-n : goal.returns-then-answers-n
returns-then-answers-n c = no_room _ _ _ _ _ c.requires.numbers_held _ c.from-n.ensures _ c.if-answers-n.true

pub bounds-table-4 : goal.bounds-table-4
bounds-table-4 c = omega (arith, (right _ _ _ _ _ c.requires.numbers_held).head.long_enough)

pub returns-then-table-ne0 : goal.returns-then-table-ne0
returns-then-table-ne0 c = rows_refused _ _ _ _ _ c.requires.numbers_held _ c.from-n.ensures _ c.if-answers-n.false c.if-table-ne0.true

pub returns-then-any_delay : goal.returns-then-any_delay
returns-then-any_delay c = delay_refused _ _ _ _ _ c.requires.numbers_held _ c.from-n.ensures _ c.if-answers-n.false (sym c.any_delay.ensures ∙ c.if-any_delay.true)

pub any_tie-requires : goal.any_tie-requires
any_tie-requires c = (right _ _ _ _ _ c.requires.numbers_held, c.from-n.ensures)

pub returns-then-any_tie : goal.returns-then-any_tie
returns-then-any_tie c = tie_refused _ _ _ _ _ c.requires.numbers_held _ c.from-n.ensures _ c.if-answers-n.false (sym c.any_tie.ensures ∙ c.if-any_tie.true)

pub play_all-requires-clause-tasks_held : goal.play_all-requires-clause-tasks_held
play_all-requires-clause-tasks_held c =
    rw (c.new-tasks.ensures.periods_are, c.new-tasks.ensures.costs_are, c.new-tasks.ensures.n_is)
    (tasks_held _ _ _ _ _ c.requires.numbers_held _ c.from-n.ensures)

pub play_all-requires-clause-deadlines_held : goal.play_all-requires-clause-deadlines_held
play_all-requires-clause-deadlines_held c =
    rw (c.new-tasks.ensures.periods_are, c.new-tasks.ensures.deadlines_are, c.new-tasks.ensures.n_is)
    (deadlines_held_law _ _ _ _ _ c.requires.numbers_held _ c.from-n.ensures)

pub play_all-requires-clause-start_held : goal.play_all-requires-clause-start_held
play_all-requires-clause-start_held c =
    let held = tasks_held _ _ _ _ _ c.requires.numbers_held _ c.from-n.ensures in
    rw c.new-tasks.ensures.n_is
    (start_held _ _ _ (omega (arith, held.few)) (omega (arith, c.requires.zeros.0.long, c.from-n.ensures)) (omega (arith, c.requires.zeros.1.long, c.from-n.ensures)) (λ p h. c.requires.zeros.0.each p (omega (arith, c.from-n.ensures))) (λ p h. c.requires.zeros.1.each p (omega (arith, c.from-n.ensures))))

pub play_all-requires-clause-limit_bound : goal.play_all-requires-clause-limit_bound
play_all-requires-clause-limit_bound c = (limit_high _ _ _ _ _ c.requires.numbers_held _ c.from-n.ensures _ c.largest-limit.ensures, rw c.new-tasks.ensures.n_is c.if-answers-n.false)

pub returns : goal.returns
returns c =
    let played = rw (c.new-tasks.ensures.periods_are, c.new-tasks.ensures.costs_are, c.new-tasks.ensures.deadlines_are, c.new-tasks.ensures.n_is) at c.play_all.ensures.answers_after in
    all_played _ _ _ _ _ c.requires.numbers_held _ c.from-n.ensures _ c.if-answers-n.false c.if-table-ne0.false (sym c.any_delay.ensures ∙ c.if-any_delay.false) (sym c.any_tie.ensures ∙ c.if-any_tie.false) _ _ _ c.largest-limit.ensures played c.result.ensures
