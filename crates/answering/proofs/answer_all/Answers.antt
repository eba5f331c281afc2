-- `answering::answer_all` meets its contract: each turn answers one task, by the laws of `AnsweringLaws`.
-- Assumes nothing.
use native.Mathlib.Omega.{arith}
use mathlib.Core.Path.{◌≡◌, refl, ◌∙◌}
use Rattle.model.proofs.Filling.{filling_none, filling_more}
use Rattle.answering.proofs.AnsweringLaws.{walking_none, walking_more, result_none, result_more, own_cost, loads_fit_law, count_high, first_fits, solvable, begun, response_is, rounds_are_law}
use Rattle.std.proofs.lemmas.Grind.{common_steps}
use Rattle.solver.specs.Solver.{ticks_of}
use Rattle.answering.proofs.answer_all.Goals as goal

pub loop-i-init : goal.loop-i-init
loop-i-init c = (walking_none _ _ c.requires.decoded_fits, result_none _ _, filling_none _ _ _ c.requires.n_in_bounds.0, filling_none _ _ _ c.requires.n_in_bounds.1, refl)

pub group_of-group-requires : goal.group_of-group-requires
group_of-group-requires c = record { ranked = (c.loop-i.invariant.0.fits.ranked, c.loop-i-test.true); group_before = (c.loop-i.invariant.0.group, c.loop-i.invariant.0.summed) }

pub overflow_sub-others : goal.overflow_sub-others
overflow_sub-others c = own_cost _ _ _ c.loop-i.invariant.0.fits c.loop-i-test.true _ _ _ _ _ _ c.group_of-group.ensures.group_found

pub first_term-requires : goal.first_term-requires
first_term-requires c = first_fits _ _ _ c.loop-i.invariant.0.fits c.loop-i-test.true _ _ _ _ _ _ c.group_of-group.ensures.group_found

pub solve-solved-requires : goal.solve-solved-requires
solve-solved-requires c = rw (c.loads-loads.ensures.periods_are, c.loads-loads.ensures.costs_are, c.loads-loads.ensures.spreads_are, c.loads-loads.ensures.own_is, c.loads-loads.ensures.count_is) (record { loads_fit = (loads_fit_law _ _ _ c.loop-i.invariant.0.fits c.loop-i-test.true _ _ _ _ _ _ c.group_of-group.ensures.group_found, omega (arith, count_high _ _ _ c.loop-i.invariant.0.fits c.loop-i-test.true _ _ _ _ _ _ c.group_of-group.ensures.group_found, c.requires.periods_high.1, c.loop-i.invariant.4)); solvable = solvable _ _ _ c.loop-i.invariant.0.fits c.loop-i-test.true _ _ _ _ _ _ c.group_of-group.ensures.group_found c.args.start _ c.first_term.ensures; begun = begun _ _ _ c.loop-i.invariant.0.fits c.loop-i-test.true _ _ _ _ _ _ c.group_of-group.ensures.group_found c.args.start _ c.first_term.ensures c.requires.periods_high.0 _ c.least_first-least.ensures })

pub loop-i-preserved : goal.loop-i-preserved
loop-i-preserved c = let solved = rw (c.loads-loads.ensures.periods_are, c.loads-loads.ensures.costs_are, c.loads-loads.ensures.spreads_are, c.loads-loads.ensures.own_is, c.loads-loads.ensures.count_is) at c.solve-solved.ensures in
    let answer = response_is _ _ _ c.loop-i.invariant.0.fits c.loop-i-test.true _ _ _ _ _ _ c.group_of-group.ensures.group_found c.args.start _ c.first_term.ensures _ _ _ solved in
    let word : c.map_or.result ≡ ticks_of c.solve-solved.result.response = grind (arith, common_steps) in
    let spent = rounds_are_law _ _ _ c.loop-i.invariant.0.fits c.loop-i-test.true _ _ _ _ _ _ c.group_of-group.ensures.group_found c.args.start _ c.first_term.ensures _ _ _ solved in (
      walking_more _ _ _ c.loop-i.invariant.0.fits c.loop-i-test.true _ _ _ _ _ _ c.group_of-group.ensures.group_found _ _ c.loop-i.invariant.0 c.group_of-group.ensures.reached,
      result_more _ _ _ _ _ _ _ c.loop-i.invariant.1 answer solved.late_is c.with_answer-verdict.ensures,
      filling_more _ _ _ _ _ _ c.loop-i.invariant.2 c.loop-i-test.true (word ∙ answer),
      filling_more _ _ _ _ _ _ c.loop-i.invariant.3 c.loop-i-test.true spent,
      c.solve-solved.auto.marks ∙ c.loop-i.invariant.4,
    )
