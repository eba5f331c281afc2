-- What a report says of one table (SPECIFICATION 13.12; document 02, L10).
-- Assumes nothing.
use Rattle.std.specs.Prelude.{ℕ, List, ◌++◌, Option, Some, None}
use Rattle.tables.specs.Layout.{task_count, tasks_of}
use Rattle.answering.specs.declared.Verdict.{Verdict}
use Rattle.answering.specs.declared.Verdict.TheVariants.{Refused, Schedulable, Late}
use Rattle.response.specs.Outcome.{verdict_of}
use Rattle.printing.specs.Text.{bytes_of, decimal_of, with_number, line_with_number, refused_line}
use Rattle.utilisation.specs.Utilisation.{utilisation_of}
use Rattle.utilisation.specs.Bound.{bound_of}
use Rattle.multiples.specs.Multiples.{hyperperiod_of}

-- the verdict of a table: that of `analyse`, with room for every task
abbrev pub judged_as : List ℕ → Verdict
judged_as table = verdict_of table 200 200

-- "Also print the periods' least common multiple", "above 10^12 print "over""
abbrev pub multiple_text : Option ℕ → List ℕ
multiple_text (Some multiple) = line_with_number (bytes_of " hyperperiod ") multiple
multiple_text None = bytes_of " hyperperiod over\n"

-- "For each good table give utilisation in millionths", "Beside it print the Liu and Layland bound"
abbrev pub figures_text : List ℕ → List ℕ
figures_text table =
    with_number (bytes_of " utilisation ") (utilisation_of (tasks_of table))
    ++ (with_number (bytes_of " bound ") (bound_of (task_count table)) ++ multiple_text (hyperperiod_of (tasks_of table)))

-- what stands behind the table's number: the verdict, and the figures of a table that is not refused
abbrev pub verdict_text : List ℕ → Verdict → List ℕ
verdict_text table (Refused refusal) = bytes_of " " ++ refused_line refusal
verdict_text table Schedulable = bytes_of " schedulable" ++ figures_text table
verdict_text table (Late place) = bytes_of " late" ++ figures_text table

-- the line of a table, by its number in the file
unfoldable pub line_of : ℕ → List ℕ → List ℕ
line_of number table = decimal_of number ++ verdict_text table (judged_as table)
