-- `overlaps::find_all` meets its contract: each turn finds the words of one task, by the laws of `FindingLaws` and, for its group, of
-- `AnsweringLaws`.
-- Assumes nothing.
use native.Mathlib.Omega.{arith}
use mathlib.Core.Path.{refl, ◌∙◌}
use Rattle.model.proofs.Filling.{filling_none, filling_more}
use Rattle.answering.proofs.AnsweringLaws.{walking_none, walking_more, own_cost, count_high}
use Rattle.overlaps.proofs.FindingLaws.{result_none, result_more, beginnable, word_is_law, tried_is_law}
use Rattle.overlaps.proofs.find_all.Goals as goal

pub loop-i-init : goal.loop-i-init
loop-i-init c = (walking_none _ _ c.requires.decoded_fits, result_none _ _, filling_none _ _ _ c.requires.n_in_bounds.0, filling_none _ _ _ c.requires.n_in_bounds.1, refl)

pub group_of-group-requires : goal.group_of-group-requires
group_of-group-requires c = record { ranked = (c.loop-i.invariant.0.fits.ranked, c.loop-i-test.true); group_before = (c.loop-i.invariant.0.group, c.loop-i.invariant.0.summed) }

pub overflow_sub-group : goal.overflow_sub-group
overflow_sub-group c = own_cost _ _ _ c.loop-i.invariant.0.fits c.loop-i-test.true _ _ _ _ _ _ c.group_of-group.ensures.group_found

pub longest-outcome-requires : goal.longest-outcome-requires
longest-outcome-requires c = rw (c.loads-loads.ensures.periods_are, c.loads-loads.ensures.costs_are, c.loads-loads.ensures.spreads_are, c.loads-loads.ensures.own_is, c.loads-loads.ensures.count_is) (
  beginnable _ _ _ c.loop-i.invariant.0.fits c.loop-i-test.true _ _ _ _ _ _ c.group_of-group.ensures.group_found c.requires.periods_high.0 _ c.least_first-least.ensures,
  omega (arith, count_high _ _ _ c.loop-i.invariant.0.fits c.loop-i-test.true _ _ _ _ _ _ c.group_of-group.ensures.group_found, c.requires.periods_high.1, c.loop-i.invariant.4),
)

pub loop-i-preserved : goal.loop-i-preserved
loop-i-preserved c = let outcome = rw (c.loads-loads.ensures.periods_are, c.loads-loads.ensures.costs_are, c.loads-loads.ensures.spreads_are, c.loads-loads.ensures.own_is, c.loads-loads.ensures.count_is) at c.longest-outcome.ensures in
    let word = word_is_law _ _ _ c.loop-i.invariant.0.fits c.loop-i-test.true _ _ _ _ _ _ c.group_of-group.ensures.group_found _ _ outcome.0 in
    let spent = tried_is_law _ _ _ c.loop-i.invariant.0.fits c.loop-i-test.true _ _ _ _ _ _ c.group_of-group.ensures.group_found _ _ outcome.0 in (
      walking_more _ _ _ c.loop-i.invariant.0.fits c.loop-i-test.true _ _ _ _ _ _ c.group_of-group.ensures.group_found _ _ c.loop-i.invariant.0 c.group_of-group.ensures.reached,
      result_more _ _ _ _ _ _ c.loop-i.invariant.1 word c.with_answer-found.ensures,
      filling_more _ _ _ _ _ _ c.loop-i.invariant.2 c.loop-i-test.true (c.from.ensures ∙ word),
      filling_more _ _ _ _ _ _ c.loop-i.invariant.3 c.loop-i-test.true spent,
      c.longest-outcome.auto.marks ∙ c.loop-i.invariant.4,
    )
