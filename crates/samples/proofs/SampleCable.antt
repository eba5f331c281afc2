-- The morning on a cable: each end is answered for its bytes alone, and these are computed.
-- Assumes nothing.
use mathlib.Core.Path.{◌≡◌, refl, ◌∙◌}
use mathlib.Core.List.{[]}
use Rattle.model.specs.Lists.{tabulate, gather, sum_of, largest_of}
use Rattle.model.specs.Search.{first_from, first_of}
use Rattle.tables.specs.Layout.{layout_for}
use Rattle.tables.specs.Refusals.{unless, or_else, first_in, fields_check}
use Rattle.tables.specs.Rules.{count_test, lengths_agree, priority_fits, record_test, row_after, row_test}
use Rattle.tables.specs.Checks.{counts_check, record_check, row_check, head_check, records_check, rows_check, body_check, room_check, table_check_spanning}
use Rattle.equation.specs.Demand.{demand}
use Rattle.equation.specs.Sequence.{term}
use Rattle.blocking.specs.Ceilings.{ceiling, blocking_of}
use Rattle.response.specs.Analysis.{answer_of, rounds_of}
use Rattle.response.specs.Outcome.{verdict_of, answers_after, rounds_after}
use Rattle.intake.specs.Events.{replies_of, state_after, replies_to}
use Rattle.intake.proofs.EventLaws.{any_events}
use Rattle.samples.specs.CableSample.{events, replies, CableSample, StoresDrawn}

computed : replies_to [] events ≡ replies
unfolding tabulate gather sum_of largest_of first_from first_of layout_for unless or_else first_in fields_check count_test lengths_agree priority_fits record_test row_after row_test counts_check record_check row_check head_check records_check rows_check body_check room_check table_check_spanning demand term ceiling blocking_of answer_of rounds_of verdict_of answers_after rounds_after replies_to events replies
computed = refl

pub cable_sample : CableSample
cable_sample store room = any_events store events room ∙ computed

pub stores_drawn : StoresDrawn
unfolding tabulate gather sum_of largest_of first_from first_of layout_for unless or_else first_in fields_check count_test lengths_agree counts_check head_check body_check room_check table_check_spanning verdict_of answers_after rounds_after replies_of state_after
stores_drawn = record { taken = refl; ended = refl; full = refl; short = refl; short_left = refl; wrong = refl; wrong_left = refl }
