-- A report's line: the table of one that is not refused breaks no rule; and how long a line can be.
-- Assumes nothing.
use Rattle.std.specs.Prelude.{Option, Some, None, Ok, Err}
use Prim.Native.Nat.{ℕ, ◌+◌, ◌*◌, ◌≤◌, ◌<◌}
use native.Mathlib.Omega.{arith}
use native.Mathlib.Nat.{mul-le-mul}
use mathlib.Core.Path.{◌≡◌, refl, sym, ◌∙◌, ap, subst}
use mathlib.Core.List.{List, ◌++◌}
use lib.ListN.{length, length-append}
use Rattle.model.specs.declared.Place.{Place}
use Rattle.tables.specs.declared.Refusal.{Refusal}
use Rattle.tables.specs.Fields.{task_count_field}
use Rattle.tables.specs.Layout.{layout_of, task_count, tasks_of, table_of}
use Rattle.tables.specs.Meaning.{TableRight}
use Rattle.tables.specs.Refusals.{Check, place_of}
use Rattle.tables.specs.Checks.{table_check}
use Rattle.tables.proofs.CheckLaws.{table_right}
use Rattle.tables.proofs.LayoutLaws.{layout_sound}
use Rattle.answering.specs.declared.Verdict.{Verdict}
use Rattle.answering.specs.declared.Verdict.TheVariants.{Refused, Schedulable, Late}
use Rattle.answering.specs.Results.{result_of}
use Rattle.response.specs.Verdicts.{verdict_place}
use Rattle.response.specs.Analysis.{answer_of}
use Rattle.response.specs.Outcome.{verdict_for, verdict_of}
use Rattle.response.proofs.PlaceLaws.{verdict_place_law}
use Rattle.printing.specs.Text.{bytes_of, decimal_of, with_number, refused_line}
use Rattle.printing.proofs.LengthLaws.{twenty_digits, number_long, line_long}
use Rattle.printing.proofs.LongestLaws.{refused_long}
use Rattle.utilisation.specs.Utilisation.{utilisation_of}
use Rattle.utilisation.specs.Bound.{bound_of}
use Rattle.multiples.specs.Multiples.{hyperperiod_of}
use Rattle.report_lines.specs.Line.{judged_as, multiple_text, figures_text, verdict_text, line_of}

-- what is not refused breaks no rule
pub good_right : (table : List ℕ) → ((refusal : Refusal) → ¬ (judged_as table ≡ Refused refusal)) → TableRight table
unfolding verdict_of
good_right table n = go (table_check table 200 200) refl
  where
    go : (c : Check) → table_check table 200 200 ≡ c → TableRight table
    go (Ok _) e = (table_right 1 table 200 200 e).0
    go (Err refusal) e =
        absurd (n refusal (ap (λ (c : Check). verdict_for c (result_of (answer_of (table_of table)) (task_count table))) e))

pub schedulable_right : (table : List ℕ) → Schedulable ≡ judged_as table → TableRight table
schedulable_right table h =
    good_right table (λ r e. let c : Schedulable ≡ Refused r = h ∙ e in let z : ◌≡◌ {A = ℕ} 0 1 = cc in omega arith)

pub late_right : (table : List ℕ) (place : Place) → Late place ≡ judged_as table → TableRight table
late_right table place h =
    good_right table (λ r e. let c : Late place ≡ Refused r = h ∙ e in let z : ◌≡◌ {A = ℕ} 0 1 = cc in omega arith)

-- the texts, by what the calls give
pub figures_are : (word table : List ℕ) {used bound : ℕ} {multiple : Option ℕ} → used ≡ utilisation_of (tasks_of table) →
    bound ≡ bound_of (task_count table) → multiple ≡ hyperperiod_of (tasks_of table) →
    word ++ (with_number (bytes_of " utilisation ") used ++ (with_number (bytes_of " bound ") bound ++ multiple_text multiple))
    ≡ word ++ figures_text table
figures_are word table {used} {bound} {multiple} p q r =
    ap (λ (n : ℕ). word ++ (with_number (bytes_of " utilisation ") n ++ (with_number (bytes_of " bound ") bound ++ multiple_text multiple))) p
    ∙ ap
    (λ (n : ℕ).
    word
    ++ (with_number (bytes_of " utilisation ") (utilisation_of (tasks_of table)) ++ (with_number (bytes_of " bound ") n ++ multiple_text multiple)))
    q
    ∙ ap
    (λ (m : Option ℕ).
    word
    ++ (with_number (bytes_of " utilisation ") (utilisation_of (tasks_of table))
    ++ (with_number (bytes_of " bound ") (bound_of (task_count table)) ++ multiple_text m)))
    r

pub line_is : (number : ℕ) (table : List ℕ) {v : Verdict} → v ≡ judged_as table → decimal_of number ++ verdict_text table v ≡ line_of number table
unfolding line_of
line_is number table e = ap (λ (v : Verdict). decimal_of number ++ verdict_text table v) e

-- how many tasks: enough for the table of bounds
pub some_tasks : (table : List ℕ) → TableRight table → (1 ≤ task_count table) × (task_count table ≤ 200)
some_tasks table right =
    let counts = right.head.counts task_count_field in
    (counts.low, omega (arith, counts.high, (layout_sound table right.head.version).few))

-- a table within the rules has a record at least
right_long : (table : List ℕ) → TableRight table → 22 ≤ length table
right_long table right =
    let n = some_tasks table right in
    let size = (layout_sound table right.head.version).fields in
    omega (
      arith,
      right.head.lengths.summed,
      mul-le-mul {n₁ = 17} {m₁ = 1} {n₂ = (layout_of table).size} {m₂ = task_count table} size n.0,
    )

multiple_long : (multiple : Option ℕ) → length (multiple_text multiple) ≤ 34
multiple_long (Some multiple) = omega (arith, line_long (bytes_of " hyperperiod ") multiple, twenty_digits multiple)
multiple_long None = omega arith

figures_long : (table : List ℕ) → length (figures_text table) ≤ 94
figures_long table =
    let used = utilisation_of (tasks_of table) in
    let bound = bound_of (task_count table) in
    let multiple = hyperperiod_of (tasks_of table) in
    omega (
      arith,
      length-append (with_number (bytes_of " utilisation ") used) (with_number (bytes_of " bound ") bound ++ multiple_text multiple),
      length-append (with_number (bytes_of " bound ") bound) (multiple_text multiple),
      number_long (bytes_of " utilisation ") used,
      number_long (bytes_of " bound ") bound,
      twenty_digits used,
      twenty_digits bound,
      multiple_long multiple,
    )

-- behind the table's number: no more than that, and of a refused table less
refused_short : (refusal : Refusal) → place_of refusal < 65536 → length (bytes_of " " ++ refused_line refusal) ≤ 20
refused_short refusal h = omega (arith, length-append (bytes_of " ") (refused_line refusal), refused_long refusal h)

good_short : (word table : List ℕ) → length word ≤ 12 → length (word ++ figures_text table) ≤ 106
good_short word table h = omega (arith, length-append word (figures_text table), figures_long table, h)

-- the length of a line is at most 126, and at most 8 for each byte of the table
pub record Short (table : List ℕ) (long : ℕ) : Type 0 where
  pub most : long ≤ 126
  pub each : 5 ≤ length table → long ≤ 8 * length table

pub line_short : (number : ℕ) (table : List ℕ) → Short table (length (line_of number table))
unfolding line_of
line_short number table = go (judged_as table) refl
  where
    both : (text : List ℕ) → length (decimal_of number ++ text) ≤ 20 + length text
    both text = omega (arith, length-append (decimal_of number) text, twenty_digits number)

    go : (v : Verdict) → judged_as table ≡ v → Short table (length (decimal_of number ++ verdict_text table v))
    go (Refused refusal) e =
        let place = subst (λ (v : Verdict). verdict_place v < 65536) e (verdict_place_law table 200 200) in
        let text = verdict_text table (Refused refusal) in
        record {
          most = omega (arith, both text, refused_short refusal place);
          each = λ h. omega (arith, both text, refused_short refusal place, h);
        }
    go Schedulable e =
        let text = verdict_text table Schedulable in
        let short = good_short (bytes_of " schedulable") table (omega arith) in
        record {
          most = omega (arith, both text, short);
          each = λ h. omega (arith, both text, short, right_long table (schedulable_right table (sym e)));
        }
    go (Late place) e =
        let text = verdict_text table (Late place) in
        let short = good_short (bytes_of " late") table (omega arith) in
        record {
          most = omega (arith, both text, short);
          each = λ h. omega (arith, both text, short, right_long table (late_right table place (sym e)));
        }
