use lib.ListN.{length}
use Rattle.reporting.proofs.SafeLaws.{Going}
use Rattle.reporting.proofs.take_all.Given as goal

abbrev pub invariant-loop-left : goal.invariant-loop-left
invariant-loop-left l = Going l.more l.initial.store l.initial.report l.initial.page l.store l.report l.page l.left

abbrev pub decreases-loop-left : goal.decreases-loop-left
decreases-loop-left l = length l.left
