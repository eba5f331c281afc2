-- `reading::any_delay` meets its contract: each turn puts one word more to the others.
-- Assumes nothing.
use native.Mathlib.Omega.{arith}
use Prim.Native.Nat.{◌<◌}
use lib.ListN.{length-take}
use lib.Seq.{get_or-take}
use Rattle.reading.proofs.DelayLaws.{together_first, together_more, together_all}
use Rattle.reading.proofs.any_delay.Goals as goal

pub loop-delay-init : goal.loop-delay-init
loop-delay-init c = together_first _ _

pub loop-delay-preserved : goal.loop-delay-preserved
loop-delay-preserved c =
    let inside : c.loop-delay.delay-index < c.args.n = omega (arith, c.loop-delay-test.true, length-take c.args.n c.args.latest.now, c.requires) in
    rw (get_or-take c.args.n c.args.latest.now c.loop-delay.delay-index 0 inside) (together_more c.loop-delay.invariant inside)

pub returns : goal.returns
returns c = together_all c.loop-delay.invariant (omega (arith, c.loop-delay-test.false, length-take c.args.n c.args.latest.now, c.requires))
