-- `blocking::rows_of` meets its contract: after k turns it has counted the first k rows.
-- Assumes nothing.
use native.Mathlib.Omega.{arith}
use mathlib.Core.Path.{◌∙◌}
use Rattle.model.proofs.Prefix.{below, item, all_gone}
use Rattle.blocking.proofs.SweepLaws.{counted_none, counted_more, counted_all, rows_high}
use Rattle.blocking.proofs.rows_of.Goals as goal

pub loop-semaphore-init : goal.loop-semaphore-init
loop-semaphore-init c = counted_none _ _

pub overflow_add-found : goal.overflow_add-found
overflow_add-found c =
    let inside = below _ _ c.loop-semaphore-test.true in
    let low = c.requires.low _ inside in
    rw (c.from.ensures ∙ item _ _ c.loop-semaphore-test.true) (omega (arith, c.requires.few, inside, rows_high _ _ _ _ c.loop-semaphore.invariant _ low))

pub loop-semaphore-preserved : goal.loop-semaphore-preserved
loop-semaphore-preserved c =
    let inside = below _ _ c.loop-semaphore-test.true in
    rw (c.from.ensures ∙ item _ _ c.loop-semaphore-test.true) (counted_more _ _ _ _ c.loop-semaphore.invariant inside (c.requires.low _ inside))

pub returns : goal.returns
returns c = counted_all _ _ _ _ c.loop-semaphore.invariant (all_gone _ _ c.requires.long c.loop-semaphore-test.false)
