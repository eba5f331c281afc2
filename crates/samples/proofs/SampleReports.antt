-- The reports of the samples. The bound and the common multiple of large periods are not searched for, but found by their laws.
-- Assumes nothing.
use Rattle.std.specs.Prelude.{Some, None}
use Prim.Native.Nat.{ℕ, ◌+◌, ◌-◌}
use native.Mathlib.Nat.{div-one}
use native.Mathlib.Omega.{arith}
use mathlib.Core.Path.{◌≡◌, refl, sym, ◌∙◌, ap}
use mathlib.Core.List.{List, [], ◌∷◌, ◌++◌}
use Rattle.model.specs.Lists.{tabulate, gather, sum_of, largest_of}
use mathlib.Core.Bool.{false}
use lib.Dec.{ltb}
use lib.ListN.{length}
use borrow.Author.Tests.{ne_eqb}
use Rattle.model.specs.Search.{first_from, first_of}
use Rattle.model.specs.Tables.{Load}
use Rattle.model.proofs.Search.{none}
use Rattle.tables.specs.Layout.{layout_for, table_of}
use Rattle.tables.specs.declared.Refusal.TheVariants.{NumberOutOfRange}
use Rattle.tables.specs.Refusals.{at, offset, unless, or_else, first_in, fields_check}
use Rattle.tables.specs.Rules.{count_test, lengths_agree, priority_fits, record_test, row_after, row_test}
use Rattle.tables.specs.Checks.{counts_check, record_check, row_check, head_check, records_check, rows_check, body_check, room_check, table_check_spanning}
use Rattle.encoding.specs.Bytes.{joined}
use Rattle.encoding.specs.Examples.{fifth, refused}
use Rattle.equation.specs.Demand.{demand}
use Rattle.equation.specs.Answer.{solves}
use Rattle.blocking.specs.Ceilings.{ceiling, blocking_of}
use Rattle.answering.specs.declared.Verdict.{Verdict}
use Rattle.answering.specs.declared.Verdict.TheVariants.{Refused, Schedulable, Late}
use Rattle.response.specs.Analysis.{answer_of}
use Rattle.response.specs.Outcome.{verdict_of}
use Rattle.printing.specs.Text.{bytes_of, decimal_of}
use Rattle.utilisation.proofs.BoundLaws.{first_bounds, more_bounds}
use Rattle.multiples.specs.Multiples.{is_multiple, product_of, least_multiple, shown}
use Rattle.multiples.proofs.DivisorLaws.{gcd_zero, gcd_remainder}
use Rattle.multiples.proofs.MultipleLaws.{least_none, one_more, is_found, joined_first}
use Rattle.report_lines.specs.Line.{judged_as, line_of}
use Rattle.report_lines.proofs.LineLaws.{figures_are, line_is}
use Rattle.reporting.specs.Cutting.{tables_from, left_from, tables_in, left_in}
use Rattle.reporting.specs.Report.{lines_from, schedulable_one, late_one, refused_one, schedulable_in, late_in, refused_in, totals_line, broken_line, report_of}
use Rattle.samples.specs.ReportSamples.{full, primes, file, file_lines, edges, ReportSample, ReportEdges}

-- searched for
sixty : least_multiple (4 ∷ 6 ∷ 10 ∷ []) ≡ 60
unfolding first_from is_multiple product_of least_multiple
sixty = refl

-- by Euclid's rule, one period after the other
large : least_multiple (999961 ∷ 999979 ∷ 999983 ∷ []) ≡ 999923001838986077
large =
    sym
    (is_found (999961 ∷ 999979 ∷ 999983 ∷ []) 999923001838986077
    (one_more (999961 ∷ 999979 ∷ []) 999983 999940000819 1 (omega arith) (one_more (999961 ∷ []) 999979 999961 1 (omega arith) (one_more ([]) 999961 1 1 (omega arith) (least_none) (gcd_remainder 1 999961 1 (gcd_remainder 999961 1 1 (gcd_zero 1)))) (gcd_remainder 999961 999979 1 (gcd_remainder 999979 999961 1 (gcd_remainder 999961 18 1 (gcd_remainder 18 7 1 (gcd_remainder 7 4 1 (gcd_remainder 4 3 1 (gcd_remainder 3 1 1 (gcd_zero 1))))))))) (gcd_remainder 999940000819 999983 1 (gcd_remainder 999983 88 1 (gcd_remainder 88 39 1 (gcd_remainder 39 10 1 (gcd_remainder 10 9 1 (gcd_remainder 9 1 1 (gcd_zero 1)))))))))

-- the line of each table
first : bytes_of "0 schedulable utilisation 883334 bound 779763 hyperperiod 60\n" ≡ line_of 0 fifth
unfolding tabulate gather sum_of largest_of first_from first_of layout_for unless or_else first_in fields_check count_test lengths_agree priority_fits record_test row_after row_test counts_check record_check row_check head_check records_check rows_check body_check room_check table_check_spanning demand ceiling blocking_of answer_of verdict_of decimal_of
first =
    ap (λ (text : List ℕ). decimal_of 0 ++ text)
    (figures_are (bytes_of " schedulable") fifth {used = 883334} {multiple = Some 60} refl (sym more_bounds.0) (ap shown (sym sixty)))
    ∙ line_is 0 fifth {v = Schedulable} refl

-- Beside a task that takes every tick no other is ever done: what it asks for in v ticks is above v.
load : Load
load = record { period = 1; cost = 1; spread = 0 }

never : (v : ℕ) → solves 1 (load ∷ []) v ≡ false
unfolding demand sum_of load
never v = ne_eqb (demand 1 (load ∷ []) v) v (λ e. omega (arith, e, div-one (v + 0 + (1 - 1))))

full_late : answer_of (table_of full) 1 ≡ 0
unfolding tabulate gather sum_of largest_of first_of layout_for unless or_else first_in fields_check count_test lengths_agree priority_fits record_test row_after row_test counts_check record_check row_check head_check records_check rows_check body_check room_check table_check_spanning ceiling blocking_of answer_of verdict_of load
full_late = rw (none (solves 1 (load ∷ [])) 1 1000000 (λ v l h. never v)) refl

full_first : answer_of (table_of full) 0 ≡ 1
unfolding tabulate gather sum_of largest_of first_from first_of layout_for unless or_else first_in fields_check count_test lengths_agree priority_fits record_test row_after row_test counts_check record_check row_check head_check records_check rows_check body_check room_check table_check_spanning demand ceiling blocking_of answer_of verdict_of
full_first = refl

full_judged : Late (at 1) ≡ judged_as full
unfolding tabulate gather sum_of largest_of first_from first_of layout_for unless or_else first_in fields_check count_test lengths_agree priority_fits record_test row_after row_test counts_check record_check row_check head_check records_check rows_check body_check room_check table_check_spanning ceiling blocking_of verdict_of
full_judged = rw (full_first, full_late) refl

second : bytes_of "1 late utilisation 1000001 bound 828427 hyperperiod 1000000\n" ≡ line_of 1 full
unfolding tabulate gather sum_of largest_of first_from first_of layout_for unless or_else first_in fields_check count_test lengths_agree priority_fits record_test row_after row_test counts_check record_check row_check head_check records_check rows_check body_check room_check table_check_spanning demand ceiling blocking_of answer_of verdict_of decimal_of
second =
    ap (λ (text : List ℕ). decimal_of 1 ++ text)
    (figures_are (bytes_of " late") full {used = 1000001} {multiple = Some 1000000} refl (sym first_bounds.1)
    (ap shown (joined_first 1000000 (omega arith))))
    ∙ line_is 1 full full_judged

third : bytes_of "2 schedulable utilisation 6 bound 779763 hyperperiod over\n" ≡ line_of 2 primes
unfolding tabulate gather sum_of largest_of first_from first_of layout_for unless or_else first_in fields_check count_test lengths_agree priority_fits record_test row_after row_test counts_check record_check row_check head_check records_check rows_check body_check room_check table_check_spanning demand ceiling blocking_of answer_of verdict_of decimal_of
third =
    ap (λ (text : List ℕ). decimal_of 2 ++ text)
    (figures_are (bytes_of " schedulable") primes {used = 6} {multiple = None} refl (sym more_bounds.0) (ap shown (sym large)))
    ∙ line_is 2 primes {v = Schedulable} refl

fourth : bytes_of "3 refused 5 at 31\n" ≡ line_of 3 refused
unfolding tabulate gather sum_of largest_of first_from first_of layout_for unless or_else first_in fields_check count_test lengths_agree priority_fits record_test row_after row_test counts_check record_check row_check head_check records_check rows_check body_check room_check table_check_spanning demand ceiling blocking_of answer_of verdict_of decimal_of
fourth = line_is 3 refused {v = Refused (NumberOutOfRange (offset 31))} refl

closing : List ℕ
closing = bytes_of "schedulable 2 late 1 refused 1\nbroken\n"

lines : List ℕ → List ℕ → List ℕ → List ℕ → List ℕ
lines a b c d = (a ++ (b ++ (c ++ (d ++ [])))) ++ closing

-- how the file is cut
tables : List (List ℕ)
tables = fifth ∷ full ∷ primes ∷ refused ∷ []

cut : tables_in file ≡ tables
unfolding tables_from tables
cut = refl

left : left_in file ≡ 97 ∷ 98 ∷ []
unfolding left_from
left = refl

-- the three counts, by the four verdicts
among : (Verdict → ℕ) → Verdict → Verdict → Verdict → Verdict → ℕ
among one a b c d = one a + (one b + (one c + (one d + 0)))

totals_by : Verdict → Verdict → Verdict → Verdict → List ℕ
totals_by a b c d =
    totals_line (among schedulable_one a b c d) (among late_one a b c d) (among refused_one a b c d) ++ bytes_of "broken\n"

fifth_judged : judged_as fifth ≡ Schedulable
unfolding tabulate gather sum_of largest_of first_from first_of layout_for unless or_else first_in fields_check count_test lengths_agree priority_fits record_test row_after row_test counts_check record_check row_check head_check records_check rows_check body_check room_check table_check_spanning demand ceiling blocking_of answer_of verdict_of
fifth_judged = refl

primes_judged : judged_as primes ≡ Schedulable
unfolding tabulate gather sum_of largest_of first_from first_of layout_for unless or_else first_in fields_check count_test lengths_agree priority_fits record_test row_after row_test counts_check record_check row_check head_check records_check rows_check body_check room_check table_check_spanning demand ceiling blocking_of answer_of verdict_of
primes_judged = refl

refused_judged : judged_as refused ≡ Refused (NumberOutOfRange (offset 31))
unfolding tabulate gather sum_of largest_of first_from first_of layout_for unless or_else first_in fields_check count_test lengths_agree priority_fits record_test row_after row_test counts_check record_check row_check head_check records_check rows_check body_check room_check table_check_spanning demand ceiling blocking_of answer_of verdict_of
refused_judged = refl

told : totals_by Schedulable (Late (at 1)) Schedulable (Refused (NumberOutOfRange (offset 31))) ≡ closing
unfolding among totals_by decimal_of first_from closing
told = refl

totals : totals_line (schedulable_in tables) (late_in tables) (refused_in tables) ++ bytes_of "broken\n" ≡ closing
unfolding sum_of among totals_by tables
totals =
    ap (λ (v : Verdict). totals_by v (judged_as full) (judged_as primes) (judged_as refused)) fifth_judged
    ∙ ap (λ (v : Verdict). totals_by Schedulable v (judged_as primes) (judged_as refused)) (sym full_judged)
    ∙ ap (λ (v : Verdict). totals_by Schedulable (Late (at 1)) v (judged_as refused)) primes_judged
    ∙ ap (totals_by Schedulable (Late (at 1)) Schedulable) refused_judged
    ∙ told

by_tables : List (List ℕ) → List ℕ → List ℕ
by_tables ts rest =
    lines_from 0 ts ++ (totals_line (schedulable_in ts) (late_in ts) (refused_in ts) ++ broken_line (ltb 0 (length rest)))

by_lines : report_of file ≡ lines (line_of 0 fifth) (line_of 1 full) (line_of 2 primes) (line_of 3 refused)
unfolding lines_from report_of by_tables lines tables
by_lines =
    ap (λ (ts : List (List ℕ)). by_tables ts (left_in file)) cut
    ∙ ap (by_tables tables) left
    ∙ ap (λ (text : List ℕ). lines_from 0 tables ++ text) totals

whole : lines (bytes_of "0 schedulable utilisation 883334 bound 779763 hyperperiod 60\n")
    (bytes_of "1 late utilisation 1000001 bound 828427 hyperperiod 1000000\n")
    (bytes_of "2 schedulable utilisation 6 bound 779763 hyperperiod over\n") (bytes_of "3 refused 5 at 31\n")
    ≡ joined bytes_of file_lines
unfolding lines closing joined
whole = refl

pub report_sample : ReportSample
report_sample = by_lines ∙ rw (sym first, sym second, sym third, sym fourth) whole

pub report_edges : ReportEdges
unfolding tabulate sum_of first_from first_of layout_for unless or_else first_in fields_check count_test lengths_agree counts_check head_check body_check table_check_spanning verdict_of decimal_of line_of tables_from left_from lines_from report_of edges
report_edges = refl
