-- `intake::append` meets its contract: each turn copies one byte, up to the number that have room.
-- Assumes nothing.
use Rattle.intake.proofs.CopyLaws.{copied_more}
use Rattle.intake.proofs.append.Goals as goal

pub loop-i-preserved : goal.loop-i-preserved
loop-i-preserved c = copied_more c.loop-i.invariant c.loop-i-test.true
