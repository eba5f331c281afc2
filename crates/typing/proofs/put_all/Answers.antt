-- `typing::put_all` meets its contract: each turn puts one word more.
-- Assumes nothing.
use native.Mathlib.Omega.{arith}
use Rattle.typing.proofs.SetLaws.{put_more}
use Rattle.typing.proofs.put_all.Goals as goal

pub loop-i-preserved : goal.loop-i-preserved
loop-i-preserved c = put_more c.loop-i.invariant c.loop-i-test.true (omega arith) c.put.ensures
