-- `scanning::go_on` meets its contract: each turn takes one byte more, and what ended so far is kept.
-- Assumes nothing.
use native.Mathlib.Omega.{arith}
use lib.ListN.{get_or}
use Rattle.scanning.proofs.PieceLaws.{going_none, going_fits, going_more}
use Rattle.scanning.proofs.go_on.Goals as goal

pub loop-i-init : goal.loop-i-init
loop-i-init c = going_none _ _ _

pub keep-count-requires : goal.keep-count-requires
keep-count-requires c = omega (arith, going_fits c.loop-i.invariant (get_or c.args.piece.now c.loop-i.i 0) c.requires, c.loop-i-test.true, c.requires.most)

pub loop-i-preserved : goal.loop-i-preserved
loop-i-preserved c = going_more c.loop-i.invariant c.loop-i-test.true c.keep-count.ensures c.after-state.ensures
