-- The sample texts, computed.
-- Assumes nothing.
use mathlib.Core.Path.{refl}
use Rattle.model.specs.Lists.{tabulate, gather, sum_of, largest_of}
use Rattle.model.specs.Search.{first_from, first_of}
use Rattle.tables.specs.Layout.{layout_for}
use Rattle.tables.specs.Refusals.{unless, or_else, first_in, fields_check}
use Rattle.tables.specs.Rules.{count_test, lengths_agree, priority_fits, record_test, row_after, row_test}
use Rattle.tables.specs.Checks.{counts_check, record_check, row_check, head_check, records_check, rows_check, body_check, room_check, table_check_spanning}
use Rattle.encoding.specs.Bytes.{joined}
use Rattle.equation.specs.Demand.{demand}
use Rattle.equation.specs.Sequence.{term}
use Rattle.blocking.specs.Ceilings.{ceiling, blocking_of}
use Rattle.response.specs.Analysis.{answer_of, rounds_of}
use Rattle.response.specs.Outcome.{verdict_of, answers_after, rounds_after}
use Rattle.printing.specs.Text.{decimal_of, task_lines}
use Rattle.printing.specs.Answered.{answer_text}
use Rattle.samples.specs.Samples.{samples, SamplesRight}

pub samples_right : SamplesRight
unfolding tabulate gather sum_of largest_of first_from first_of layout_for unless or_else first_in fields_check count_test lengths_agree priority_fits record_test row_after row_test counts_check record_check row_check head_check records_check rows_check body_check room_check table_check_spanning demand term ceiling blocking_of answer_of rounds_of verdict_of answers_after rounds_after joined decimal_of task_lines answer_text samples
samples_right = refl
