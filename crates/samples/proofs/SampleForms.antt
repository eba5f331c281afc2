-- The sample forms, computed.
-- Assumes nothing.
use mathlib.Core.Path.{refl}
use Rattle.model.specs.Lists.{tabulate}
use Rattle.model.specs.Search.{first_from, first_of}
use Rattle.tables.specs.Layout.{layout_for}
use Rattle.tables.specs.Refusals.{unless, or_else, first_in, fields_check}
use Rattle.tables.specs.Rules.{count_test, lengths_agree, priority_fits, record_test, row_after, row_test}
use Rattle.tables.specs.Checks.{counts_check, record_check, row_check, head_check, records_check, rows_check, body_check, read_check}
use Rattle.encoding.specs.Bytes.{joined}
use Rattle.printing.specs.Text.{decimal_of}
use Rattle.writing.specs.Text.{delays_text, task_numbers, task_line, section_line, form_of, form_text}
use Rattle.samples.specs.FormSamples.{samples, FormSamples}

pub form_samples : FormSamples
unfolding tabulate first_from first_of layout_for unless or_else first_in fields_check count_test lengths_agree priority_fits record_test row_after row_test counts_check record_check row_check head_check records_check rows_check body_check read_check joined decimal_of delays_text task_numbers task_line section_line form_of form_text samples
form_samples = refl
