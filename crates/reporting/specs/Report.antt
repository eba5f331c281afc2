-- The report of a file of tables: from all of its bytes to the text (SPECIFICATION 13.12; document 02, L10).
-- Assumes nothing.
use Rattle.std.specs.Prelude.{ℕ, suc, ◌+◌, ◌≡◌, Bool, List, [], ◌∷◌, ◌++◌, length}
use Rattle.model.specs.Choice.{pick}
use Rattle.model.specs.Lists.{sum_of}
use Rattle.answering.specs.declared.Verdict.{Verdict}
use Rattle.answering.specs.declared.Verdict.TheVariants.{Refused, Schedulable, Late}
use Rattle.printing.specs.Text.{bytes_of, with_number, line_with_number}
use Rattle.report_lines.specs.Line.{judged_as, line_of}
use Rattle.reporting.specs.Cutting.{tables_in, is_broken}

-- a line for each table, numbered from `number` on
unfoldable pub lines_from : ℕ → List (List ℕ) → List ℕ
lines_from number [] = []
lines_from number (table ∷ tables) = line_of number table ++ lines_from (suc number) tables

-- "how many were schedulable, late and refused": 1 for a table of that verdict, 0 for another
abbrev pub schedulable_one : Verdict → ℕ
schedulable_one (Refused refusal) = 0
schedulable_one Schedulable = 1
schedulable_one (Late place) = 0

abbrev pub late_one : Verdict → ℕ
late_one (Refused refusal) = 0
late_one Schedulable = 0
late_one (Late place) = 1

abbrev pub refused_one : Verdict → ℕ
refused_one (Refused refusal) = 1
refused_one Schedulable = 0
refused_one (Late place) = 0

abbrev pub is_schedulable : List ℕ → ℕ
is_schedulable table = schedulable_one (judged_as table)

abbrev pub is_late : List ℕ → ℕ
is_late table = late_one (judged_as table)

abbrev pub is_refused : List ℕ → ℕ
is_refused table = refused_one (judged_as table)

-- and summed
abbrev pub schedulable_in : List (List ℕ) → ℕ
schedulable_in tables = sum_of is_schedulable tables

abbrev pub late_in : List (List ℕ) → ℕ
late_in tables = sum_of is_late tables

abbrev pub refused_in : List (List ℕ) → ℕ
refused_in tables = sum_of is_refused tables

-- Each table is counted once: the three counts add up to the number of tables. The proof is in proofs/CountLaws.antt.
abbrev pub CountsAddUp : Type 0
CountsAddUp = (tables : List (List ℕ)) → schedulable_in tables + late_in tables + refused_in tables ≡ length tables

-- the totals, and "a line "broken""
abbrev pub totals_line : ℕ → ℕ → ℕ → List ℕ
totals_line schedulable late refused =
    with_number (bytes_of "schedulable ") schedulable
    ++ (with_number (bytes_of " late ") late ++ line_with_number (bytes_of " refused ") refused)

abbrev pub broken_line : Bool → List ℕ
broken_line broken = pick broken (bytes_of "broken\n") []

-- what stands behind the tables' lines
abbrev pub closing_text : List ℕ → List ℕ
closing_text bytes =
    totals_line (schedulable_in (tables_in bytes)) (late_in (tables_in bytes)) (refused_in (tables_in bytes)) ++ broken_line (is_broken bytes)

-- The whole of it.
unfoldable pub report_of : List ℕ → List ℕ
report_of bytes = lines_from 0 (tables_in bytes) ++ closing_text bytes
