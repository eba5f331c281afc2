-- The examples of the second analysis, computed.
-- Assumes nothing.
use mathlib.Core.Path.{refl}
use Rattle.model.specs.Lists.{tabulate, gather, sum_of, largest_of, largest_to}
use Rattle.model.specs.Search.{first_from, first_of}
use Rattle.tables.specs.Layout.{layout_for}
use Rattle.tables.specs.Refusals.{unless, or_else, first_in, fields_check}
use Rattle.tables.specs.Rules.{count_test, lengths_agree, priority_fits, record_test, row_after, row_test}
use Rattle.tables.specs.Checks.{counts_check, record_check, row_check, head_check, records_check, rows_check, body_check, room_check, table_check_spanning}
use Rattle.encoding.specs.Bytes.{joined}
use Rattle.equation.specs.Demand.{demand}
use Rattle.blocking.specs.Ceilings.{ceiling, blocking_of}
use Rattle.jobs.specs.Overlaps.{window_at, response_at, ends_at, ended_after, longest, tried, longest_of, tried_of}
use Rattle.overlaps.specs.Outcome.{found_of, answers_after, tried_words_after}
use Rattle.samples.specs.PastExamples.{examples, PastExamples}

pub past_examples : PastExamples
unfolding tabulate gather sum_of largest_of largest_to first_from first_of layout_for unless or_else first_in fields_check count_test lengths_agree priority_fits record_test row_after row_test counts_check record_check row_check head_check records_check rows_check body_check room_check table_check_spanning joined demand ceiling blocking_of window_at response_at ends_at ended_after longest tried longest_of tried_of found_of answers_after tried_words_after examples
past_examples = refl
