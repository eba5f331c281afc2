-- `Loads::with_more` meets its contract: after each turn the sum is that of the places so far, and it fits 64 bits.
-- Assumes nothing.
use Rattle.equation.proofs.SliceLaws.{sum_high, summing_more, summed_all}
use Rattle.equation.proofs.Loads.with_more.Goals as goal

pub with_load-all-requires : goal.with_load-all-requires
with_load-all-requires c = (c.loop-k.invariant.fit.each c.loop-k.k c.loop-k-test.true, c.loop-k.invariant.low, c.loop-k.invariant.high, sum_high _ _ _ _ _ _ _ _ _ 0 c.loop-k.invariant c.loop-k-test.true)

pub loop-k-preserved : goal.loop-k-preserved
loop-k-preserved c = summing_more _ _ _ _ _ _ _ _ _ _ c.loop-k.invariant c.loop-k-test.true c.with_load-all.ensures

pub returns : goal.returns
returns c = summed_all _ _ _ _ _ _ _ _ _ c.loop-k.invariant c.loop-k-test.false
