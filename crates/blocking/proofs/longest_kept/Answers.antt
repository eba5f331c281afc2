-- `blocking::longest_kept` meets its contract: each turn looks at one word.
-- Assumes nothing.
use native.Mathlib.Omega.{arith}
use Rattle.blocking.proofs.SweepLaws.{looked_none, looked_more, looked_all}
use Rattle.blocking.proofs.longest_kept.Goals as goal

pub loop-section-init : goal.loop-section-init
loop-section-init c = looked_none _

pub loop-section-preserved : goal.loop-section-preserved
loop-section-preserved c = looked_more _ _ _ _ c.loop-section.invariant (omega (arith, c.loop-section-test.true, c.requires)) c.max-most.ensures

pub returns : goal.returns
returns c = looked_all _ _ _ c.loop-section.invariant (omega (arith, c.loop-section-test.false, c.requires))
