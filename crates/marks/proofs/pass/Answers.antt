-- `marks::pass` meets its contract: before each place is looked at, the marks before it are moved, by the laws of `PassLaws`.
-- Assumes nothing.
use native.Mathlib.Omega.{arith}
use Rattle.marks.proofs.PassLaws.{passing_none, passing_more, passing_next, sum_fits, end_below}
use Rattle.marks.proofs.pass.Goals as goal

pub loop-k-init : goal.loop-k-init
loop-k-init c = passing_next _ _ _ _ _ _ _ c.requires _ _ _ _ _ (passing_none _ _ _ _ _ _ _ c.requires) c.next_below-k.ensures

pub overflow_add-sum : goal.overflow_add-sum
overflow_add-sum c = omega (arith, sum_fits _ _ _ _ _ _ _ c.requires _ _ _ _ c.loop-k.invariant c.loop-k-test.true _ c.moved-next.ensures.1)

pub next_below-k-requires-in-loop-k : goal.next_below-k-requires-in-loop-k
next_below-k-requires-in-loop-k c = let t = passing_more _ _ _ _ _ _ _ c.requires _ _ _ _ c.loop-k.invariant c.loop-k-test.true _ _ _ c.moved-next.ensures.0 c.moved-next.ensures.1 c.min.ensures in
    let e = end_below _ _ _ _ _ _ _ c.requires _ _ _ _ t in
    (e.1, e.0, omega (arith, c.loop-k-test.true))

pub loop-k-preserved : goal.loop-k-preserved
loop-k-preserved c = let t = passing_more _ _ _ _ _ _ _ c.requires _ _ _ _ c.loop-k.invariant c.loop-k-test.true _ _ _ c.moved-next.ensures.0 c.moved-next.ensures.1 c.min.ensures in
    passing_next _ _ _ _ _ _ _ c.requires _ _ _ _ _ t c.next_below-k-in-loop-k.ensures
