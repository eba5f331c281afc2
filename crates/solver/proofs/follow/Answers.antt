-- `solver::follow` meets its contract: each turn is one round of the written sequence, by the laws of `RoundLaws` and `SolverLaws`.
-- Assumes nothing.
use native.Mathlib.Omega.{arith}
use mathlib.Core.Path.{refl, ◌∙◌}
use Rattle.solver.proofs.SolverLaws.{gained}
use Rattle.solver.proofs.RoundLaws.{before_first, before_next, next_is, followed_late, followed_found}
use Rattle.solver.proofs.follow.Goals as goal

pub loop-ahead-init : goal.loop-ahead-init
loop-ahead-init c = (before_first _ _ _ _ _ _ _ _ _ _ _ _ _ c.requires, refl)

pub returns-then-limit-next : goal.returns-then-limit-next
returns-then-limit-next c = followed_late _ _ _ _ _ _ c.requires.fit _ _ _ _ _ _ _ _ c.loop-ahead.invariant.0 _ _ _ _ (rw c.raised.ensures at c.advance-tally.ensures) (omega (arith, c.loop-ahead.invariant.0.turn.in_time))

pub returns-then-next-from : goal.returns-then-next-from
returns-then-next-from c = followed_found _ _ _ _ _ _ c.requires.fit _ _ _ _ _ _ _ _ c.loop-ahead.invariant.0 _ _ _ _ (rw c.raised.ensures at c.advance-tally.ensures) (rw c.from.ensures at c.if-next-from.true)

pub loop-ahead-smaller : goal.loop-ahead-smaller
loop-ahead-smaller c = omega (arith, gained _ _ _ _ _ _ _ c.loop-ahead.invariant.0.turn _ (next_is _ _ _ _ _ _ c.requires.fit _ _ _ _ _ _ _ _ c.loop-ahead.invariant.0 _ _ _ _ (rw c.raised.ensures at c.advance-tally.ensures)) (rw c.from.ensures at c.if-next-from.false))

pub loop-ahead-preserved : goal.loop-ahead-preserved
loop-ahead-preserved c = (before_next _ _ _ _ _ _ c.requires.fit _ _ _ _ _ _ _ _ c.loop-ahead.invariant.0 _ _ _ _ (rw c.raised.ensures at c.advance-tally.ensures) (rw c.from.ensures at c.if-next-from.false) (omega (arith, c.loop-ahead.invariant.0.turn.in_time)), c.advance-tally.auto.marks ∙ c.loop-ahead.invariant.1)
