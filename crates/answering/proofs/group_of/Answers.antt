-- `answering::group_of` meets its contract: each turn looks at one place more, by the laws of `GroupLaws`.
-- Assumes nothing.
use native.Mathlib.Omega.{arith}
use Rattle.answering.proofs.GroupLaws.{reached_more, reached_fits, scan_first, scan_high, scan_more, scan_stop, scan_end, found_alone, found_end}
use Rattle.answering.proofs.group_of.Goals as goal

pub overflow_add-reached : goal.overflow_add-reached
overflow_add-reached c = omega (arith, reached_fits _ _ _ c.requires.ranked.0 _ _ c.requires.ranked.1 c.requires.group_before.1)

pub returns-then-tasks-i : goal.returns-then-tasks-i
returns-then-tasks-i c = let reached = reached_more c.args.tasks.priorities.now _ _ _ c.requires.group_before.1 in
    record { group_found = found_alone _ _ _ c.requires.ranked.0 _ c.requires.ranked.1 _ reached c.if-tasks-i.true _ _; reached = reached }

pub returns-then-i-known-clause-reached : goal.returns-then-i-known-clause-reached
returns-then-i-known-clause-reached c = reached_more c.args.tasks.priorities.now _ _ _ c.requires.group_before.1

pub loop-k-init : goal.loop-k-init
loop-k-init c = scan_first _ _ _ c.requires.ranked.0 _ c.requires.ranked.1 _ _ c.requires.group_before.0 c.if-i-known.false

pub returns-then-tasks-k : goal.returns-then-tasks-k
returns-then-tasks-k c = record { group_found = found_end _ _ _ c.requires.ranked.0 _ c.requires.ranked.1 c.if-tasks-i.false _ _ (scan_stop _ _ _ c.requires.ranked.0 _ c.requires.ranked.1 _ _ _ c.loop-k.invariant (λ inside. c.if-tasks-k.true)) _ _; reached = reached_more c.args.tasks.priorities.now _ _ _ c.requires.group_before.1 }

pub overflow_add-sum : goal.overflow_add-sum
overflow_add-sum c = omega (arith, scan_high _ _ _ c.requires.ranked.0 _ c.requires.ranked.1 _ _ _ c.loop-k.invariant, c.requires.ranked.0.cost_high _ c.loop-k-test.true)

pub loop-k-preserved : goal.loop-k-preserved
loop-k-preserved c = scan_more _ _ _ c.requires.ranked.0 _ c.requires.ranked.1 _ _ _ c.loop-k.invariant c.loop-k-test.true c.if-tasks-k.false

pub returns : goal.returns
returns c = record { group_found = found_end _ _ _ c.requires.ranked.0 _ c.requires.ranked.1 c.if-tasks-i.false _ _ (scan_end _ _ _ c.requires.ranked.0 _ c.requires.ranked.1 _ _ _ c.loop-k.invariant c.loop-k-test.false) _ _; reached = reached_more c.args.tasks.priorities.now _ _ _ c.requires.group_before.1 }
