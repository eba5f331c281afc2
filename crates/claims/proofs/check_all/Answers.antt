-- `claims::check_all` meets its contract: each turn checks one claim, and the first that fails ends it.
-- Assumes nothing.
use Rattle.answering.proofs.AnsweringLaws.{loads_fit_law, own_first, others_once, own_cost}
use Rattle.claims.proofs.ClaimLaws.{checking_none, turn_fails, turn_passes}
use mathlib.Core.Path.{ap}
use mathlib.Core.Bool.{not}
use Rattle.claims.proofs.check_all.Goals as goal

pub loop-i-init : goal.loop-i-init
loop-i-init c = checking_none _ _ _ c.requires.decoded_fits

pub group_of-group-requires : goal.group_of-group-requires
group_of-group-requires c = record { ranked = (c.loop-i.invariant.walking.fits.ranked, c.loop-i-test.true); group_before = (c.loop-i.invariant.walking.group, c.loop-i.invariant.walking.summed) }

pub overflow_sub-others : goal.overflow_sub-others
overflow_sub-others c = own_cost _ _ _ c.loop-i.invariant.walking.fits c.loop-i-test.true _ _ _ _ _ _ c.group_of-group.ensures.group_found

pub passes-requires : goal.passes-requires
passes-requires c = rw (c.loads-loads.ensures.periods_are, c.loads-loads.ensures.costs_are, c.loads-loads.ensures.spreads_are, c.loads-loads.ensures.own_is, c.loads-loads.ensures.count_is) (record { loads_fit = (loads_fit_law _ _ _ c.loop-i.invariant.walking.fits c.loop-i-test.true _ _ _ _ _ _ c.group_of-group.ensures.group_found, own_first _ _ _ c.loop-i.invariant.walking.fits c.loop-i-test.true _ _ _ _ _ _ c.group_of-group.ensures.group_found, others_once _ _ _ c.loop-i.invariant.walking.fits c.loop-i-test.true _ _ _ _ _ _ c.group_of-group.ensures.group_found); deadline_bound = c.loop-i.invariant.walking.fits.deadline_high _ c.loop-i-test.true })

pub returns-then-not-passes : goal.returns-then-not-passes
returns-then-not-passes c = turn_fails _ _ _ _ _ _ _ c.loop-i.invariant c.loop-i-test.true _ _ _ _ c.group_of-group.ensures.group_found _ (rw (c.loads-loads.ensures.periods_are, c.loads-loads.ensures.costs_are, c.loads-loads.ensures.spreads_are, c.loads-loads.ensures.own_is, c.loads-loads.ensures.count_is) at c.passes.ensures) (ap not c.if-not-passes.true)

pub loop-i-preserved : goal.loop-i-preserved
loop-i-preserved c = turn_passes _ _ _ _ _ _ _ c.loop-i.invariant c.loop-i-test.true _ _ _ _ c.group_of-group.ensures.group_found _ (rw (c.loads-loads.ensures.periods_are, c.loads-loads.ensures.costs_are, c.loads-loads.ensures.spreads_are, c.loads-loads.ensures.own_is, c.loads-loads.ensures.count_is) at c.passes.ensures) (ap not c.if-not-passes.false) _ c.group_of-group.ensures.reached
