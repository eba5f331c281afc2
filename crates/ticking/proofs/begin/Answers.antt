-- `ticking::begin` meets its contract: before the next release nothing is due, and the next task stays.
-- Assumes nothing.
use native.Mathlib.Omega.{arith}
use Rattle.machine.specs.Slices.{kept}
use Rattle.machine.proofs.WordLaws.{place_is, is_place}
use Rattle.machine.proofs.ReleaseLaws.{nothing_due, place_stays, place_left}
use Rattle.ticking.proofs.begin.Goals as goal

pub returns-then-at-ahead : goal.returns-then-at-ahead
returns-then-at-ahead c = record { leaves = nothing_due c.args.tasks.periods.now c.args.tasks.costs.now c.args.tasks.n c.args.at.0 (kept c.args.left.now c.args.due.now c.args.ready.now c.args.nexts.now) c.requires.tasks_held.0 c.requires.state_held.0 c.args.ahead.place.0 c.args.ahead.next.0 c.requires.state_held.1 c.if-at-ahead.true; place_value = place_stays c.args.tasks.periods.now c.args.tasks.costs.now c.args.tasks.n c.args.at.0 (kept c.args.left.now c.args.due.now c.args.ready.now c.args.nexts.now) c.requires.tasks_held.0 c.requires.state_held.0 c.args.ahead.place.0 c.args.ahead.next.0 c.requires.state_held.1 c.if-at-ahead.true }

pub unwrap-requires : goal.unwrap-requires
unwrap-requires c = is_place _ _ (place_left c.args.tasks.periods.now c.args.tasks.costs.now c.args.tasks.n c.args.at.0 (kept c.args.left.now c.args.due.now c.args.ready.now c.args.nexts.now) c.requires.tasks_held.0 c.requires.state_held.0 _ _ c.release-next.ensures _ c.next_place-found.ensures) (omega (arith, c.requires.has_next.is_place, c.requires.tasks_held.0.few))

pub returns : goal.returns
returns c = record { leaves = c.release-next.ensures; place_value = (place_is _ _ (place_left c.args.tasks.periods.now c.args.tasks.costs.now c.args.tasks.n c.args.at.0 (kept c.args.left.now c.args.due.now c.args.ready.now c.args.nexts.now) c.requires.tasks_held.0 c.requires.state_held.0 _ _ c.release-next.ensures _ c.next_place-found.ensures) _ c.unwrap.ensures).0 }
