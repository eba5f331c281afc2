-- `reporting::take_all` meets its contract, one part of the bytes after the other.
-- Assumes nothing.
use borrow.Author.Rules.{rules}
use Rattle.reporting.proofs.SafeLaws.{going_none, going_more, going_all}
use Rattle.reporting.proofs.take_all.Goals as goal

pub loop-left-init : goal.loop-left-init
loop-left-init c = going_none _ _ _ _ c.requires

pub loop-left-preserved : goal.loop-left-preserved
loop-left-preserved c = going_more c.loop-left.invariant _ _ c.split_at.ensures.by_index.0 c.take_in-report.ensures

pub returns : goal.returns
returns c = going_all c.loop-left.invariant (search rules)
