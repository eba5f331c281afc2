-- `marks::set_first` meets its contract: the loop fills the first marks; then come the 0 behind them and the own mark.
-- Assumes nothing.
use Rattle.marks.proofs.PassLaws.{setting_none, setting_more, set_others, set_own}
use Rattle.marks.proofs.set_first.Goals as goal

pub loop-k-init : goal.loop-k-init
loop-k-init c = setting_none _ _ _ _ _ c.requires.1

pub loop-k-preserved : goal.loop-k-preserved
loop-k-preserved c = setting_more _ _ _ _ _ _ _ _ c.loop-k.invariant c.loop-k-test.true c.first_mark-mark.ensures

pub returns-then-loads : goal.returns-then-loads
returns-then-loads c = set_own _ _ _ _ _ _ _ c.loop-k.invariant c.loop-k-test.false c.if-loads.true

pub returns-else-loads : goal.returns-else-loads
returns-else-loads c = set_others _ _ _ _ _ _ _ c.loop-k.invariant c.loop-k-test.false c.if-loads.false
