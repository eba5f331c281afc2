-- The laws of the equation, each by its name in specs/Laws.antt.
-- Assumes nothing.
use Rattle.equation.specs.Laws as laws
use Rattle.equation.proofs.RoundingLaws as rounding
use Rattle.equation.proofs.DemandLaws as demands
use Rattle.equation.proofs.AnswerLaws as answers
use Rattle.equation.proofs.SequenceLaws as sequence

pub rounding_up : laws.RoundingUp
rounding_up =
    record
    { enough = rounding.enough; least = rounding.least; monotone = rounding.monotone; exact = rounding.exact }

pub demand_grows : laws.DemandGrows
demand_grows = record { monotone = demands.monotone; at_least_base = demands.at_least_base_law }

pub smallest_means : laws.SmallestMeans
smallest_means = answers.smallest_means_law

pub answer_means : laws.AnswerMeans
answer_means = answers.answer_means_law

pub smallest_exists : laws.SmallestExists
smallest_exists = answers.smallest_exists_law

pub enough_in_time : laws.EnoughInTime
enough_in_time = answers.enough_in_time_law

pub raised_not_above : laws.RaisedNotAbove
raised_not_above = answers.raised_not_above_law

pub sequence_reaches : laws.SequenceReaches
sequence_reaches = sequence.sequence_reaches_law

pub three_starts : laws.ThreeStarts
three_starts = sequence.three_starts_law

pub rounds_mean : laws.RoundsMean
rounds_mean = sequence.rounds_mean_law

pub rounds_bound : laws.RoundsBound
rounds_bound = sequence.rounds_bound_law
