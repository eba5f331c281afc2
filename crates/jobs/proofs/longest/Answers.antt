-- `jobs::longest` meets its contract: the first term is late, or the answer, or q is tried from the first marks on.
-- Assumes nothing.
use native.Mathlib.Omega.{arith}
use Rattle.jobs.proofs.TryingLaws.{begin_late, begin_found, begin_search}
use Rattle.jobs.proofs.longest.Goals as goal

pub returns-then-deadline-once : goal.returns-then-deadline-once
returns-then-deadline-once c = (begin_late _ _ _ _ _ _ _ _ _ _ _ c.requires.0 c.if-deadline-once.true, record {})

pub returns-then-ends_at_once : goal.returns-then-ends_at_once
returns-then-ends_at_once c = (begin_found _ _ _ _ _ _ _ _ _ _ _ c.requires.0 c.if-deadline-once.false _ c.ends_at_once.ensures c.if-ends_at_once.true, (omega (arith, c.requires.0.begun.start_low), omega (arith, c.requires.0.begun.once_high)))

pub search-requires : goal.search-requires
search-requires c = begin_search _ _ _ _ _ _ _ _ _ _ _ c.requires.0 c.if-deadline-once.false _ _ _ c.requires.1 c.look_ahead.ensures c.set_first.ensures
