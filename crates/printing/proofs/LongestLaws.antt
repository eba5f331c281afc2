-- The longest text, with any word in front of the lines' last number; and that of the first analysis: what it leaves is small enough for
-- the lines, and a verdict's line is short. The words that are lent are enough for every table.
-- Assumes nothing.
use Prim.Native.Nat.{ℕ, ◌+◌, ◌*◌, ◌≤◌, ◌<◌}
use native.Mathlib.Omega.{arith}
use native.Mathlib.Decide.{dec_le}
use native.Mathlib.Nat.{sub-zero, mul-le-mul}
use mathlib.Core.Path.{◌≡◌, refl, sym, ◌∙◌, ap}
use mathlib.Core.Logic.{inl, inr}
use mathlib.Core.List.{List, ◌++◌}
use lib.ListN.{length, get_or, take, length-append, length-take}
use lib.Seq.{take_all}
use Rattle.model.specs.Lists.{total, word_of, sum_of}
use Rattle.model.specs.Search.{first_from}
use Rattle.model.specs.Tables.{Task, task_of, loads_of}
use Rattle.model.proofs.Tests.{ltb?}
use Rattle.model.proofs.Totals.{total_longer}
use Rattle.tables.specs.declared.Refusal.{Refusal}
use Rattle.tables.specs.declared.Refusal.TheVariants.{TooShort, UnknownVersion, CountOutOfRange, LengthsDiffer, NumberOutOfRange, PriorityOutOfOrder, SectionRow, NoRoom, NotPlayable}
use Rattle.tables.specs.Fields.{task_count_field, cost_field, deadline_field}
use Rattle.tables.specs.Layout.{layout_of, task_count, record_start, deadline_at, deadline_in, tasks_of, table_of}
use Rattle.tables.specs.Refusals.{number_of, place_of}
use Rattle.tables.specs.Meaning.{TableRightSpanning, TableRight}
use Rattle.tables.proofs.LayoutLaws.{layout_sound, task_is}
use Rattle.equation.specs.declared.Start.{Start}
use Rattle.equation.specs.Laws.{cost_of}
use Rattle.equation.specs.Starts.{first_term}
use Rattle.equation.specs.declared.Start.TheVariants.{EveryCost, OwnCost}
use Rattle.answering.specs.declared.Verdict.{Verdict}
use Rattle.answering.specs.declared.Verdict.TheVariants as verdict
use Rattle.response.specs.Verdicts.{verdict_place}
use Rattle.response.specs.Analysis.{base_of, start_of}
use Rattle.response.specs.Outcome.{Call, Left, lending, leaving, Outcome, verdict_of, answers_after, rounds_after}
use Rattle.response.specs.Statements.{Accepted, Written}
use Rattle.response.proofs.Demands.{demand1, demand2}
use Rattle.response.proofs.PlaceLaws.{verdict_place_law}
use Rattle.printing.specs.Appended.{Appended}
use Rattle.printing.specs.Text.{bytes_of, text_of, decimal_of, line_with_number, refused_line, deadline_shown, task_lines, tasks_text}
use Rattle.printing.specs.Answered.{zeros, RoomForAll, answer_text}
use Rattle.printing.specs.Longest.{longest, TextFits, Whole, TextWhole}
use Rattle.printing.proofs.AppendLaws.{text_is_law, behind, part_length}
use Rattle.printing.proofs.LengthLaws.{digit_count, few_digits, seven_digits, line_long, place_line_long, refusal_long, Small, line_room, lines_long}

-- a refusal's line
pub number_small : (refusal : Refusal) → number_of refusal ≤ 9
number_small TooShort = omega arith
number_small UnknownVersion = omega arith
number_small (CountOutOfRange place) = omega arith
number_small LengthsDiffer = omega arith
number_small (NumberOutOfRange place) = omega arith
number_small (PriorityOutOfOrder place) = omega arith
number_small (SectionRow place) = omega arith
number_small NoRoom = omega arith
number_small NotPlayable = omega arith

pub refused_long : (refusal : Refusal) → place_of refusal < 65536 → length (refused_line refusal) ≤ 19
refused_long refusal h =
    refusal_long (number_of refusal) (place_of refusal) 1
    (few_digits (number_of refusal) 1 (omega arith) (omega (arith, number_small refusal))) h

deadline_shown_law : (bytes : List ℕ) (i : ℕ) → deadline_shown bytes i ≤ deadline_in bytes i
deadline_shown_law bytes i =
    elim (ltb? (length bytes) (record_start (layout_of bytes) i + deadline_at + 4)) [
      | inl p ↦ rw p.0 (omega arith)
      | inr p ↦ rw p.0 (omega arith)
    ]

-- the lines `tasks 200` and, as the longest last one, `schedulable`; 200 tasks' lines; and the 490 digits of the places 0 to 199
abbrev pub text_room : List ℕ → ℕ → ℕ
text_room word width = 10 + 12 + 200 * line_room word width + 490

-- a text of a table within the rules, however many periods a deadline may span: the lines of its tasks, and a last line
module _ (span : ℕ) (bytes : List ℕ) (right : TableRightSpanning span bytes) where
  few_tasks_law : task_count bytes ≤ 200
  few_tasks_law =
      omega (arith, (right.head.counts task_count_field).high, (layout_sound bytes right.head.version).few)

  pub deadline_small : (i : ℕ) → i < task_count bytes → deadline_in bytes i ≤ 1000000
  deadline_small i h = omega (arith, (right.records i h deadline_field).high)

  pub text_long : (word answers counts last : List ℕ) (width : ℕ) →
      ((i : ℕ) → i < task_count bytes → Small width (get_or answers i 0) (get_or counts i 0)) → length last ≤ 12 →
      length (tasks_text word bytes answers counts ++ last) ≤ text_room word width
  unfolding total decimal_of first_from
  text_long word answers counts last width small short =
      let n = task_count bytes in
      let places : total digit_count 200 ≡ 490 = refl in
      omega (
        arith,
        places,
        total_longer digit_count n 200 few_tasks_law,
        length-append (tasks_text word bytes answers counts) last,
        length-append (line_with_number (bytes_of "tasks ") n) (task_lines word bytes answers counts n),
        line_long (bytes_of "tasks ") n,
        few_digits n 3 (omega arith) (omega (arith, few_tasks_law)),
        lines_long word bytes answers counts width n small
            (λ i h. omega (arith, deadline_shown_law bytes i, deadline_small i h)),
        mul-le-mul {n₁ = n} {m₁ = line_room word width} {n₂ = 200} {m₂ = line_room word width} few_tasks_law (omega arith),
      )

pub room_for_all : RoomForAll
room_for_all span bytes right =
    record { answers_long = omega (arith, few_tasks_law span bytes right); rounds_long = omega (arith, few_tasks_law span bytes right) }

-- no start is below the task's own cost
start_low : (start : Start) (base urgent : ℕ) → base ≤ first_term start base urgent
start_low EveryCost base urgent = omega arith
start_low OwnCost base urgent = omega arith

-- what is left for a task of an accepted table is at most its deadline, and so are its rounds, or they are 1
module _ (start : Start) (lent : Call) (result : Left) (o : Outcome start lent result) (accepted : Accepted lent) where
  abbrev bytes : List ℕ
  bytes = lent.bytes

  abbrev right : TableRight lent.bytes
  right = accepted.right

  written : Written start lent result
  written = demand2 start lent result o accepted

  module _ (i : ℕ) (h : i < task_count bytes) where
    due_small : (task_of (tasks_of bytes) i).deadline ≤ 1000000
    due_small = omega (arith, ap (λ (t : Task). t.deadline) (task_is bytes i h), deadline_small 1 bytes right i h)

    answer_small_law : word_of result.answers i ≤ 1000000
    answer_small_law =
        elim (dec_le 1 (word_of result.answers i)) [
          | yes p ↦ omega (arith, due_small, ((written.answers_right i h).answered p).3)
          | no p ↦ omega arith
        ]

    rounds_small : word_of result.rounds i ≤ 1000000
    rounds_small =
        let first = start_of start (table_of bytes) i in
        let latest = (task_of (tasks_of bytes) i).latest in
        let due = (task_of (tasks_of bytes) i).deadline in
        let low : 1 ≤ first =
        omega (
          arith,
          ap (λ (t : Task). t.cost) (task_is bytes i h),
          (right.records i h cost_field).low,
          start_low start (base_of (table_of bytes) i) (sum_of cost_of (loads_of (tasks_of bytes) i)),
        ) in
        elim (dec_le (first + latest) due) [
          | yes p ↦ omega (arith, due_small, (written.rounds_right i h).within p)
          | no p ↦ omega (arith, (written.rounds_right i h).otherwise (omega arith))
        ]

    small : Small 7 (get_or result.answers i 0) (get_or result.rounds i 0)
    small =
        record {
          answer_small = λ _. answer_small_law;
          count_small = seven_digits (get_or result.rounds i 0) rounds_small;
        }

  judged_long : (last : List ℕ) → length last ≤ 12 →
      length (tasks_text (bytes_of " rounds ") bytes result.answers result.rounds ++ last) ≤ longest
  judged_long last short =
      text_long 1 bytes right (bytes_of " rounds ") result.answers result.rounds last 7 small short

pub text_fits : TextFits
text_fits start lent result o = go result.verdict refl
  where
    never : {v : Verdict} → result.verdict ≡ v → ((r : Refusal) → ¬ (v ≡ verdict.Refused r)) → Accepted lent
    never is other = demand1.not_refused start lent result o (λ r e. other r (sym is ∙ e))

    place : {v : Verdict} → result.verdict ≡ v → verdict_place v < 65536
    place is = rw (ap verdict_place (sym is ∙ o.verdict_is)) (verdict_place_law lent.bytes (length lent.answers) (length lent.rounds))

    go : (v : Verdict) → result.verdict ≡ v → length (text_of lent.bytes v result.answers result.rounds) ≤ longest
    go (verdict.Refused refusal) is = omega (arith, refused_long refusal (place is))
    go verdict.Schedulable is =
        judged_long start lent result o (never is (λ r e. let z : ◌≡◌ {A = ℕ} 0 1 = cc in omega arith)) (bytes_of "schedulable\n") (omega arith)
    go (verdict.Late first) is =
        judged_long start lent result o (never is (λ r e. let z : ◌≡◌ {A = ℕ} 0 1 = cc in omega arith))
        (line_with_number (bytes_of "late ") first.0) (omega (arith, place_line_long (bytes_of "late ") first.0 (place is)))

answer_text_long : (start : Start) (bytes : List ℕ) → length (answer_text start bytes) ≤ longest
unfolding answer_text
answer_text_long start bytes =
    text_fits start (lending bytes zeros zeros)
    (leaving (verdict_of bytes 200 200) (answers_after bytes zeros zeros) (rounds_after start bytes zeros zeros))
    (record { verdict_is = refl; answers_are = refl; rounds_are = refl })

-- a text that has room at the beginning is whole
pub whole : (old text : List ℕ) (end : ℕ) (new : List ℕ) → length text ≤ length old → Appended old 0 text end new → Whole old text end new
whole old text end new h a =
    record {
      end_is = omega (arith, a.end_is);
      text_is = text_is_law a (omega arith) ∙ rw (sub-zero (length old)) (take_all (length old) text h);
      stays = behind a h;
    }

pub text_whole : TextWhole
text_whole start bytes old end new room a =
    whole old (answer_text start bytes) end new (omega (arith, answer_text_long start bytes)) a

-- a whole text ends within the buffer
pub whole_within : {old text new : List ℕ} {end : ℕ} → Whole old text end new → end ≤ length new
whole_within {old} {text} {new} {end} w = omega (arith, w.end_is, ap length w.text_is, length-take end new)

-- so that it can be lent as a part
pub whole_part : {old text new : List ℕ} {end : ℕ} → Whole old text end new → end ≡ length (take end new)
whole_part {old} {text} {new} {end} w = part_length end new (whole_within w)
