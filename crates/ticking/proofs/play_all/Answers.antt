-- `ticking::play_all` meets its contract: after each tick the slices hold the engine's state, and the answers what is known by then.
-- Assumes nothing.
use native.Mathlib.Omega.{arith}
use mathlib.Core.Path.{refl}
use Rattle.std.proofs.Common.{◌≡◌, replicate, rules}
use Rattle.machine.specs.Machine.{none}
use Rattle.ticking.proofs.PlayLaws.{playing_none, state_held, state_known, has_next, playing_more, stops_quiet, stops_late, told_none, told_more, told_all, told_late, told_over, told_long, zeros_filled}
use Rattle.ticking.proofs.play_all.Goals as goal

pub loop-at-init : goal.loop-at-init
loop-at-init c =
    let all : c.fill.new.self ≡ replicate c.args.tasks.n 0 = search rules in (
      playing_none _ _ _ c.requires.tasks_held _ c.requires.limit_bound.0 _ c.requires.start_held,
      told_none c.args.tasks.periods.now c.args.tasks.costs.now c.args.tasks.n c.args.tasks.deadlines.now _ _ c.requires.limit_bound.1 (zeros_filled c.args.tasks.n c.args.answers.now _ all),
    )

pub step-tick-requires-clause-state_held : goal.step-tick-requires-clause-state_held
step-tick-requires-clause-state_held c = (
  state_held _ _ _ c.requires.tasks_held _ c.requires.limit_bound.0 _ c.requires.start_held _ _ _ _ c.loop-at.invariant.0,
  state_known _ _ _ c.requires.tasks_held _ c.requires.limit_bound.0 _ c.requires.start_held _ _ _ _ c.loop-at.invariant.0,
)

pub step-tick-requires-clause-has_next : goal.step-tick-requires-clause-has_next
step-tick-requires-clause-has_next c = has_next _ _ _ c.requires.tasks_held _ c.requires.limit_bound.0 _ c.requires.start_held _ _ _ _ c.loop-at.invariant.0

pub returns-in_default : goal.returns-in_default
returns-in_default c =
    let all : c.fill.new.self ≡ replicate c.args.tasks.n 0 = search rules in
    let zeros = zeros_filled c.args.tasks.n c.args.answers.now _ all in
    let long = told_long c.args.tasks.n none c.args.answers.now _ c.requires.limit_bound.1 zeros in
    let over = c.in_default.is in
    let more = told_more _ _ _ c.requires.tasks_held _ c.requires.limit_bound.0 _ c.requires.start_held _ _ _ _ c.loop-at.invariant.0 _ _ _ c.requires.deadlines_held (omega (arith, long, c.requires.limit_bound.1)) _ c.step-tick.ensures.place_value c.loop-at.invariant.1 _ refl _ c.step-tick.ensures.answers_after in
    record {
      play_leaves = stops_quiet _ _ _ c.requires.tasks_held _ c.requires.limit_bound.0 _ c.requires.start_held _ _ _ _ c.loop-at.invariant.0 _ _ _ c.step-tick.ensures.leaves c.step-tick.ensures.following_value _ (omega arith) (omega (arith, c.loop-at-test.true)) over;
      answers_after = told_over _ _ _ _ _ c.requires.limit_bound.1 zeros (told_all _ _ _ c.requires.tasks_held _ c.requires.limit_bound.0 _ c.requires.start_held _ _ _ _ c.loop-at.invariant.0 _ _ _ c.step-tick.ensures.leaves c.step-tick.ensures.following_value c.args.tasks.deadlines.now _ _ more (omega (arith, c.loop-at-test.true)) over);
    }

pub loop-at-preserved : goal.loop-at-preserved
loop-at-preserved c =
    let all : c.fill.new.self ≡ replicate c.args.tasks.n 0 = search rules in
    let long = told_long c.args.tasks.n none c.args.answers.now _ c.requires.limit_bound.1 (zeros_filled c.args.tasks.n c.args.answers.now _ all) in (
      playing_more _ _ _ c.requires.tasks_held _ c.requires.limit_bound.0 _ c.requires.start_held _ _ _ _ c.loop-at.invariant.0 _ _ _ c.step-tick.ensures.leaves c.step-tick.ensures.following_value _ (omega arith) (omega (arith, c.loop-at-test.true)) _ c.in-Some.is,
      told_more _ _ _ c.requires.tasks_held _ c.requires.limit_bound.0 _ c.requires.start_held _ _ _ _ c.loop-at.invariant.0 _ _ _ c.requires.deadlines_held (omega (arith, long, c.requires.limit_bound.1)) _ c.step-tick.ensures.place_value c.loop-at.invariant.1 _ (omega arith) _ c.step-tick.ensures.answers_after,
    )

pub returns : goal.returns
returns c =
    let all : c.fill.new.self ≡ replicate c.args.tasks.n 0 = search rules in
    record {
      play_leaves = stops_late _ _ _ c.requires.tasks_held _ c.requires.limit_bound.0 _ c.requires.start_held _ _ _ _ c.loop-at.invariant.0 (omega (arith, c.loop-at-test.false)) _ c.next_place.ensures;
      answers_after = told_over _ _ _ _ _ c.requires.limit_bound.1 (zeros_filled c.args.tasks.n c.args.answers.now _ all) (told_late _ _ _ c.requires.tasks_held _ c.requires.limit_bound.0 _ c.requires.start_held _ _ _ _ c.loop-at.invariant.0 c.args.tasks.deadlines.now _ _ c.loop-at.invariant.1 (omega (arith, c.loop-at-test.false)));
    }
