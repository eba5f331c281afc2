-- `machine::release::release` meets its contract: each turn looks at one word, by the laws of `ReleaseLaws`.
-- Assumes nothing.
use Prim.Native.Nat.{◌<◌}
use native.Mathlib.Omega.{arith}
use Rattle.machine.specs.Slices.{kept, words_for}
use Rattle.machine.proofs.ReleaseLaws.{looking_none, looking_more, none_due, work_held, ready_room, nexts_room, next_there, not_past_law, all_released}
use Rattle.machine.proofs.release.release.Goals as goal

pub loop-w-init : goal.loop-w-init
loop-w-init c = looking_none c.args.tasks.periods.now c.args.tasks.costs.now c.args.tasks.n c.args.at.0 (kept c.args.left.now c.args.due.now c.args.ready.now c.args.nexts.now) c.requires.tasks_held.0 c.requires.state_held

pub release_word-again-requires : goal.release_word-again-requires
release_word-again-requires c = let more : c.loop-w.w < words_for c.args.tasks.n = omega (arith, c.args.tasks.enough, c.loop-w-test.true) in record { tasks_held = (c.requires.tasks_held.0, work_held _ _ _ _ _ c.requires.tasks_held.0 c.requires.state_held _ _ _ c.loop-w.invariant more, none_due _ _ _ _ _ c.requires.tasks_held.0 c.requires.state_held _ _ _ c.loop-w.invariant more); w_bound = (more, ready_room _ _ _ _ _ c.requires.tasks_held.0 c.requires.state_held _ _ _ c.loop-w.invariant more, nexts_room _ _ _ _ _ c.requires.tasks_held.0 c.requires.state_held _ _ _ c.loop-w.invariant more); w_value = (next_there _ _ _ _ _ c.requires.tasks_held.0 c.requires.state_held _ _ _ c.loop-w.invariant more, not_past_law _ _ _ _ _ c.requires.tasks_held.0 c.requires.state_held _ _ _ c.loop-w.invariant more c.requires.tasks_held.1) }

pub loop-w-preserved : goal.loop-w-preserved
loop-w-preserved c = looking_more _ _ _ _ _ c.requires.tasks_held.0 c.requires.state_held _ _ _ c.loop-w.invariant (omega (arith, c.args.tasks.enough, c.loop-w-test.true)) _ _ _ c.release_word-again.ensures c.min-earliest.ensures

pub returns : goal.returns
returns c = all_released _ _ _ _ _ c.requires.tasks_held.0 c.requires.state_held _ _ _ c.loop-w.invariant (omega (arith, c.args.tasks.enough, c.loop-w-test.false))
