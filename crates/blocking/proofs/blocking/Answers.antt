-- `blocking::blocking` meets its contract: each turn takes in a row or answers a task, by the laws of `SweepLaws`.
-- Assumes nothing.
use native.Mathlib.Omega.{arith}
use borrow.Author.Rules.{rules}
use Rattle.blocking.proofs.SweepLaws.{swept_none, swept_out, swept_all, one_left, swept_row, swept_task}
use Rattle.blocking.proofs.blocking.Goals as goal

pub loop-i-init : goal.loop-i-init
loop-i-init c = swept_none _ _ _ _ _ _ c.requires.rows_held _ c.requires.zeros _ (search rules) c.rows_of-rows.ensures

pub returns-then-left-eq0 : goal.returns-then-left-eq0
returns-then-left-eq0 c = swept_out _ _ _ _ _ _ c.requires.rows_held _ c.requires.zeros _ _ _ _ _ _ c.loop-i.invariant c.if-left-eq0.true

pub overflow_sub-rest : goal.overflow_sub-rest
overflow_sub-rest c = rw c.from-semaphore.ensures (omega (arith, one_left _ _ _ _ _ _ c.requires.rows_held _ c.requires.zeros _ _ _ _ _ _ c.loop-i.invariant c.if-left-eq0.false))

pub loop-i-preserved-then-owner-own : goal.loop-i-preserved-then-owner-own
loop-i-preserved-then-owner-own c = rw c.from-semaphore.ensures (swept_row _ _ _ _ _ _ c.requires.rows_held _ c.requires.zeros _ _ _ _ _ _ c.loop-i.invariant c.if-left-eq0.false c.loop-i-test.true (omega (arith, rw c.from-place.ensures at c.if-owner-own.true)) _ _ (rw c.from-semaphore.ensures at c.take_in-most.ensures.kept_after) c.take_in-most.ensures.result_value)

pub loop-i-preserved : goal.loop-i-preserved
loop-i-preserved c = swept_task _ _ _ _ _ _ c.requires.rows_held _ c.requires.zeros _ _ _ _ _ _ c.loop-i.invariant c.if-left-eq0.false c.loop-i-test.true (omega (arith, rw c.from-place.ensures at c.if-owner-own.false))

pub returns : goal.returns
returns c = swept_all _ _ _ _ _ _ c.requires.rows_held _ c.requires.zeros _ _ _ _ _ _ c.loop-i.invariant c.loop-i-test.false
