-- `ticking::step` meets its contract: the releases, then the work of one tick.
-- Assumes nothing.
use native.Mathlib.Omega.{arith}
use Rattle.model.specs.Lists.{word_of}
use Rattle.machine.specs.Slices.{kept}
use Rattle.machine.proofs.ReleaseLaws.{words_left}
use Rattle.ticking.proofs.ServeLaws.{place_in, place_found, serve_fits, tick_served, tick_follows, tick_reported}
use Rattle.ticking.proofs.step.Goals as goal

pub serve-following-requires : goal.serve-following-requires
serve-following-requires c =
    let served = c.begin-begun.ensures.place_value in
    let inside = place_in c.args.tasks.periods.now c.args.tasks.costs.now c.args.tasks.n c.args.at.0 (kept c.args.left.now c.args.due.now c.args.ready.now c.args.nexts.now) c.requires.tasks_held c.requires.state_held.0 c.requires.has_next _ _ _ c.begin-begun.ensures.leaves served in record {
      n_bound = (
        c.requires.tasks_held.few,
        words_left c.args.tasks.periods.now c.args.tasks.costs.now c.args.tasks.n c.args.at.0 (kept c.args.left.now c.args.due.now c.args.ready.now c.args.nexts.now) c.requires.tasks_held c.requires.state_held.0 _ _ c.begin-begun.ensures.leaves,
        place_found c.args.tasks.periods.now c.args.tasks.costs.now c.args.tasks.n c.args.at.0 (kept c.args.left.now c.args.due.now c.args.ready.now c.args.nexts.now) c.requires.tasks_held c.requires.state_held.0 c.requires.has_next _ _ _ c.begin-begun.ensures.leaves served,
      );
      place_lt_n = serve_fits c.args.tasks.periods.now c.args.tasks.costs.now c.args.tasks.n c.args.at.0 (kept c.args.left.now c.args.due.now c.args.ready.now c.args.nexts.now) c.requires.tasks_held c.requires.state_held.0 c.requires.has_next _ _ _ c.begin-begun.ensures.leaves served;
      place_in_bounds = (omega (arith, inside, c.requires.n_in_bounds.0), omega (arith, inside, c.requires.n_in_bounds.1), c.requires.n_in_bounds.2);
    }

pub returns : goal.returns
returns c =
    let served = c.begin-begun.ensures.place_value in
    record { leaves = tick_served c.args.tasks.periods.now c.args.tasks.costs.now c.args.tasks.n c.args.at.0 (kept c.args.left.now c.args.due.now c.args.ready.now c.args.nexts.now) c.requires.tasks_held c.requires.state_held.0 c.requires.has_next _ _ _ c.begin-begun.ensures.leaves served _ _ c.serve-following.ensures.left_after c.serve-following.ensures.ready_after; place_value = served; following_value = tick_follows c.args.tasks.periods.now c.args.tasks.costs.now c.args.tasks.n c.args.at.0 (kept c.args.left.now c.args.due.now c.args.ready.now c.args.nexts.now) c.requires.tasks_held c.requires.state_held.0 c.requires.has_next _ _ _ c.begin-begun.ensures.leaves served _ c.serve-following.ensures.result_value; answers_after = tick_reported c.args.tasks.periods.now c.args.tasks.costs.now c.args.tasks.n c.args.at.0 (kept c.args.left.now c.args.due.now c.args.ready.now c.args.nexts.now) c.requires.tasks_held c.requires.state_held.0 c.requires.has_next _ _ _ c.begin-begun.ensures.leaves served (word_of c.args.tasks.deadlines.now c.begin-begun.result.place.0) c.args.answers.now _ c.serve-following.ensures.answers_after }
