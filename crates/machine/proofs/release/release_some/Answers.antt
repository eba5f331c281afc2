-- `machine::release::release_some` meets its contract: each turn looks at one task, by the laws of `ReleaseLaws`.
-- Assumes nothing.
use native.Mathlib.Omega.{arith}
use Rattle.model.proofs.Filling.{filling_old}
use Rattle.machine.proofs.ReleaseLaws.{releasing_none, releasing_more, left_none, due_none, left_more, due_more}
use Rattle.machine.proofs.release.release_some.Goals as goal

pub loop-p-init : goal.loop-p-init
loop-p-init c = (
  releasing_none c.args.tasks.periods.now c.args.tasks.costs.now c.args.at.0 c.args.left.now c.args.due.now c.args.first c.args.to c.args.ready c.requires.first_le_to.0,
  left_none c.args.tasks.periods.now c.args.tasks.costs.now c.args.at.0 c.args.left.now c.args.due.now c.args.first c.args.to c.args.ready c.requires.tasks_held.1.left_long c.requires.first_le_to.0 c.requires.first_le_to.1,
  due_none c.args.tasks.periods.now c.args.tasks.costs.now c.args.at.0 c.args.left.now c.args.due.now c.args.first c.args.to c.args.ready c.requires.tasks_held.1.due_long c.requires.first_le_to.0 c.requires.first_le_to.1,
)

pub release_one-word-requires : goal.release_one-word-requires
release_one-word-requires c = record {
  place_in_bounds = (omega (arith, c.loop-p.invariant.1.long, c.loop-p.invariant.1.room), omega (arith, c.loop-p.invariant.2.long, c.loop-p.invariant.2.room));
  period_bound = (
    c.requires.tasks_held.0.period_high _ c.loop-p-test.true,
    c.requires.tasks_held.0.cost_high _ c.loop-p-test.true,
    omega (arith, filling_old _ _ _ _ _ c.loop-p.invariant.1 c.loop-p.p (omega arith), c.requires.tasks_held.1.left_high c.loop-p.p c.loop-p.invariant.0.from c.loop-p-test.true),
    omega (arith, filling_old _ _ _ _ _ c.loop-p.invariant.2 c.loop-p.p (omega arith), c.requires.tasks_held.1.due_high c.loop-p.p c.loop-p.invariant.0.from c.loop-p-test.true),
  );
}

pub loop-p-preserved : goal.loop-p-preserved
loop-p-preserved c = (
  releasing_more c.args.tasks.periods.now c.args.tasks.costs.now c.args.at.0 c.args.left.now c.args.due.now c.args.first c.args.to c.args.ready c.loop-p.p c.loop-p-test.true _ _ c.loop-p.invariant.1 c.loop-p.invariant.2 _ _ _ _ _ c.loop-p.invariant.0 c.release_one-word.ensures.due_after c.release_one-word.ensures.value c.min-earliest.ensures,
  left_more c.args.tasks.periods.now c.args.tasks.costs.now c.args.at.0 c.args.left.now c.args.due.now c.args.first c.args.to c.args.ready c.loop-p.p c.loop-p-test.true _ _ c.loop-p.invariant.1 c.loop-p.invariant.2 _ c.release_one-word.ensures.left_after,
  due_more c.args.tasks.periods.now c.args.tasks.costs.now c.args.at.0 c.args.left.now c.args.due.now c.args.first c.args.to c.args.ready c.loop-p.p c.loop-p-test.true _ _ c.loop-p.invariant.1 c.loop-p.invariant.2 _ c.release_one-word.ensures.due_after,
)
