-- The sample lines, computed.
-- Assumes nothing.
use mathlib.Core.Path.{refl}
use Rattle.model.specs.Lists.{tabulate, gather, sum_of, largest_of}
use Rattle.model.specs.Search.{first_from, first_of}
use Rattle.tables.specs.Layout.{layout_for}
use Rattle.tables.specs.Refusals.{unless, or_else, first_in, fields_check}
use Rattle.tables.specs.Rules.{count_test, lengths_agree, priority_fits, record_test, row_after, row_test}
use Rattle.tables.specs.Checks.{counts_check, record_check, row_check, head_check, records_check, rows_check, body_check, read_check}
use Rattle.encoding.specs.Bytes.{joined}
use Rattle.equation.specs.Demand.{demand}
use Rattle.blocking.specs.Ceilings.{ceiling, blocking_of}
use Rattle.claims.specs.Claims.{claim_passes, passes_at, claimed_of}
use Rattle.printing.specs.Text.{decimal_of}
use Rattle.scanning.specs.Reading.{is_digit, is_separator, outside, inside}
use Rattle.checking.specs.Text.{check_text}
use Rattle.checking.specs.Samples.{samples, SampleLinesRight}

pub sample_lines_right : SampleLinesRight
unfolding tabulate gather sum_of largest_of first_from first_of layout_for unless or_else first_in fields_check count_test lengths_agree priority_fits record_test row_after row_test counts_check record_check row_check head_check records_check rows_check body_check read_check demand ceiling blocking_of claim_passes passes_at claimed_of joined decimal_of is_digit is_separator outside inside check_text samples
sample_lines_right = refl
