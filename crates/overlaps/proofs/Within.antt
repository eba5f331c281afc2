-- Where no deadline is past its period, the second analysis says and leaves what the first does.
-- Assumes nothing.
use Rattle.std.specs.Prelude.{Ok, Err}
use Prim.Native.Nat.{ℕ, ◌≤◌, ◌<◌}
use native.Mathlib.Omega.{arith}
use native.Mathlib.Decide.{dec_le}
use mathlib.Core.Path.{◌≡◌, refl, sym, ◌∙◌, ap, subst}
use mathlib.Core.Bool.{Bool, true}
use mathlib.Core.Logic.{inl, inr}
use mathlib.Core.List.{List, [], ◌∷◌}
use lib.Dec.{leb}
use lib.ListN.{length}
use borrow.Author.Tests.{ne_eqb, le-leb, lt-leb}
use Rattle.model.specs.Choice.{both}
use Rattle.model.specs.Tables.{Task, Table, open_word, task_of, loads_of}
use Rattle.model.proofs.Filling.{filled_word, filled_same}
use Rattle.model.proofs.First.{first_same, first_told}
use Rattle.model.proofs.Lists.{largest_more, largest_none}
use Rattle.model.proofs.Tests.{eqb?, clash}
use Rattle.tables.specs.declared.Refusal.{Refusal}
use Rattle.tables.specs.Fields.{RecordField, period_field, cost_field, deadline_field, earliest_field, latest_field, priority_field, record_order, refusal_in_record}
use Rattle.tables.specs.Layout.{layout_of, task_count, task_at, table_of, period_in, deadline_in}
use Rattle.tables.specs.Refusals.{Check, at, is_clean, fields_check, first_in}
use Rattle.tables.specs.Rules.{longest_deadline, priority_fits, record_test}
use Rattle.tables.specs.Checks.{record_check, records_check, rows_check, body_check, head_check, room_check, table_check_spanning, table_check}
use Rattle.tables.specs.Meaning.{TableRight}
use Rattle.tables.proofs.LayoutLaws.{task_is}
use Rattle.tables.proofs.CheckLaws.{table_right, table_clean}
use Rattle.equation.specs.Answer.{smallest, answer_for, answer}
use Rattle.equation.proofs.AnswerLaws.{answer_at}
use Rattle.equation.specs.declared.Start.{Start}
use Rattle.answering.specs.declared.Verdict.{Verdict}
use Rattle.answering.specs.declared.Verdict.TheVariants as verdict
use Rattle.answering.specs.Results as results
use Rattle.response.specs.Analysis.{base_of, answer_of}
use Rattle.response.specs.Outcome as first
use Rattle.response.specs.Statements.{Accepted}
use Rattle.response.proofs.Demands.{answers_kept, verdict_given, answers_filled, result_is_law}
use Rattle.overlaps.specs.declared.Found.TheVariants.{Schedulable}
use Rattle.jobs.specs.Overlaps.{Studied, base_at, limit_at, window_at, response_at, studied_of, longest_of, tried_of}
use Rattle.overlaps.specs.Outcome.{is_schedulable, said_by, said_at, result_of, past_check, lending, Left, PastOutcome}
use Rattle.jobs.specs.Slices.{LongestBy}
use Rattle.overlaps.specs.Statements.{Calm, as_found, SameLeft, SameWithinPeriod}
use Rattle.jobs.proofs.SearchLaws.{Going, window_high, response_is, late_by, stopped_by}
use Rattle.overlaps.proofs.Past.{calm_holds, refused_is, words_are}

-- a deadline within its period passes both tests or neither
same_deadline : (period deadline : ℕ) → deadline ≤ period → leb deadline (longest_deadline 4 period) ≡ leb deadline (longest_deadline 1 period)
same_deadline period deadline h =
    elim (dec_le deadline 1000000) [
      | yes l ↦ le-leb deadline (longest_deadline 4 period) (omega arith) ∙ sym (le-leb deadline (longest_deadline 1 period) (omega arith))
      | no l ↦ lt-leb deadline (longest_deadline 4 period) (omega arith) ∙ sym (lt-leb deadline (longest_deadline 1 period) (omega arith))
    ]

same_test : (t : Task) (in_order : Bool) → t.deadline ≤ t.period → (field : RecordField) → record_test 4 t in_order field ≡ record_test 1 t in_order field
unfolding record_test
same_test t in_order h period_field = refl
same_test t in_order h cost_field = refl
same_test t in_order h deadline_field = ap (both (leb 1 t.deadline)) (same_deadline t.period t.deadline h)
same_test t in_order h earliest_field = refl
same_test t in_order h latest_field = refl
same_test t in_order h priority_field = refl

module _ (bytes : List ℕ) (within : (i : ℕ) → i < task_count bytes → deadline_in bytes i ≤ period_in bytes i) where
  same_record : (i : ℕ) → i < task_count bytes → record_check 4 bytes i ≡ record_check 1 bytes i
  unfolding record_check
  same_record i h =
      ap (λ (test : RecordField → Bool). fields_check test (refusal_in_record (layout_of bytes) i) record_order)
      (λ k field. same_test (task_at bytes i) (priority_fits bytes i) (within i h) field k)

  same_records : records_check 4 bytes ≡ records_check 1 bytes
  unfolding records_check
  same_records = first_same is_clean (Ok tt) (record_check 4 bytes) (record_check 1 bytes) (task_count bytes) same_record

  -- so every check is the first analysis's
  pub same_check : (answers counts : ℕ) → past_check bytes answers counts ≡ table_check bytes answers counts
  unfolding table_check_spanning body_check
  same_check answers counts =
      ap (λ (c : Check). first_in (head_check bytes ∷ first_in (c ∷ rows_check bytes ∷ []) ∷ room_check bytes answers counts ∷ [])) same_records

-- one task: the first q ends it, and its window is the first analysis's
module _ (table : Table) (i : ℕ) (within : (task_of table.tasks i).deadline ≤ (task_of table.tasks i).period)
    (calm : (task_of table.tasks i).latest ≡ 0) where
  abbrev subject : Studied
  subject = studied_of table i

  same_window : window_at subject 0 ≡ smallest (base_of table i) (loads_of table.tasks i) (task_of table.tasks i).deadline
  unfolding window_at
  same_window =
      let base : base_at subject 0 ≡ base_of table i = omega arith in
      let limit : limit_at subject 0 ≡ (task_of table.tasks i).deadline = omega arith in
      ap (λ (b : ℕ). smallest b (loads_of table.tasks i) (limit_at subject 0)) base
      ∙ ap (smallest (base_of table i) (loads_of table.tasks i)) limit

  -- the first analysis's answer is the window, and 0 where there is none
  same_answer : answer_of table i ≡ window_at subject 0
  unfolding answer_of
  same_answer =
      let w = smallest (base_of table i) (loads_of table.tasks i) (task_of table.tasks i).deadline in
      ap (λ (late : ℕ). answer_for late (task_of table.tasks i).deadline w) calm
      ∙ ap (answer_for 0 (task_of table.tasks i).deadline) (sym same_window)
      ∙ window_answer (window_at subject 0) (omega (arith, window_high subject 0))
    where
      window_answer : (v : ℕ) → v ≤ (task_of table.tasks i).deadline → answer_for 0 (task_of table.tasks i).deadline v ≡ v
      window_answer v h =
          elim (dec_le 1 v) [
            | yes some ↦ answer_at 0 (task_of table.tasks i).deadline v some (omega arith) ∙ (omega arith)
            | no none ↦
                let zero : v ≡ 0 = omega arith in
                subst (λ (n : ℕ). answer_for 0 (task_of table.tasks i).deadline n ≡ n) (sym zero) refl
          ]

  none_before : Going subject 0
  none_before p h = absurd (omega arith)

  ended : LongestBy subject (window_at subject 0) 1
  ended =
      let response = response_is subject 0 (window_at subject 0) refl in
      elim (dec_le 1 (window_at subject 0)) [
        | yes some ↦
            stopped_by subject 0 (omega arith) none_before some (omega (arith, response, window_high subject 0)) (window_at subject 0)
            (omega (arith, response, largest_more (response_at subject) 0, largest_none (response_at subject)))
        | no none ↦
            let zero : window_at subject 0 ≡ 0 = omega arith in
            subst (λ (n : ℕ). LongestBy subject n 1) (sym zero) (late_by subject 0 (omega arith) none_before zero)
      ]

  pub same_word : longest_of table i ≡ answer_of table i
  unfolding longest_of
  same_word = sym ended.word_is ∙ sym same_answer

  pub one_tried_law : tried_of table i ≡ 1
  unfolding tried_of
  one_tried_law = sym ended.tried_is

  -- which is no more than the deadline
  pub word_high : answer_of table i ≤ (task_of table.tasks i).deadline
  word_high = omega (arith, same_answer, window_high subject 0)

-- what both say of an answer that is not open
same_said : (answer i : ℕ) → answer ≤ 1000000 → as_found (results.late_if answer (at i)) ≡ said_by answer (at i)
same_said answer i h =
    elim (eqb? answer 0) [
      | inl late ↦ rw late.0 refl
      | inr some ↦ rw (some.0, ne_eqb answer open_word (λ (e : answer ≡ open_word). omega (arith, e, h))) refl
    ]

told_clean : (v : Verdict) → results.is_schedulable v ≡ is_schedulable (as_found v)
told_clean (verdict.Refused refusal) = refl
told_clean verdict.Schedulable = refl
told_clean (verdict.Late place) = refl

module _ (start : Start) (lent : first.Call) (other : first.Left) (result : Left) (o : first.Outcome start lent other)
    (p : PastOutcome (lending lent.bytes lent.answers lent.rounds) result)
    (within : (i : ℕ) → i < task_count lent.bytes → deadline_in lent.bytes i ≤ period_in lent.bytes i) (calm : Calm lent.bytes) where
  abbrev n : ℕ
  n = task_count lent.bytes

  abbrev table : Table
  table = table_of lent.bytes

  past_checked : (c : Check) → table_check lent.bytes (length lent.answers) (length lent.rounds) ≡ c →
      past_check lent.bytes (length lent.answers) (length lent.rounds) ≡ c
  past_checked c e = same_check lent.bytes within (length lent.answers) (length lent.rounds) ∙ e

  -- both refuse, and leave the words as they were
  both_refuse : (r : Refusal) → table_check lent.bytes (length lent.answers) (length lent.rounds) ≡ Err r →
      SameLeft (lending lent.bytes lent.answers lent.rounds) result other
  both_refuse r e =
      let past = refused_is (lending lent.bytes lent.answers lent.rounds) result p r (past_checked (Err r) e) in
      record {
        same_answers = past.1.answers_stay ∙ sym (o.answers_are ∙ answers_kept lent.bytes lent.answers lent.rounds r e);
        same_found = past.0 ∙ sym (ap as_found (o.verdict_is ∙ verdict_given lent.bytes lent.answers lent.rounds r e));
        one_tried = λ readable i h.
            absurd
            (clash true refl
            (ap is_clean
            (sym (table_clean 4 lent.bytes (length lent.answers) (length lent.rounds) readable.right readable.room)
            ∙ past_checked (Err r) e)));
      }

  module _ (right : TableRight lent.bytes) where
    task_within : (i : ℕ) → i < n → (task_of table.tasks i).deadline ≤ (task_of table.tasks i).period
    task_within i h = rw (task_is lent.bytes i h) (within i h)

    task_calm : (i : ℕ) → i < n → (task_of table.tasks i).latest ≡ 0
    task_calm i h = rw (task_is lent.bytes i h) (calm i h).1

    word_same : (i : ℕ) → i < n → longest_of table i ≡ answer_of table i
    word_same i h = same_word table i (task_within i h) (task_calm i h)

    answer_small_law : (i : ℕ) → i < n → answer_of table i ≤ 1000000
    answer_small_law i h =
        omega (
          arith,
          word_high table i (task_within i h) (task_calm i h),
          ap (λ (t : Task). t.deadline) (task_is lent.bytes i h),
          (right.records i h deadline_field).high,
        )

    result_same : as_found (results.result_of (answer_of table) n) ≡ result_of (longest_of table) n
    result_same =
        first_told results.is_schedulable verdict.Schedulable is_schedulable Schedulable as_found refl told_clean (results.late_at (answer_of table))
        (said_at (longest_of table)) n
        (λ i h. same_said (answer_of table i) i (answer_small_law i h) ∙ ap (λ (w : ℕ). said_by w (at i)) (sym (word_same i h)))

  -- neither refuses
  both_answer : table_check lent.bytes (length lent.answers) (length lent.rounds) ≡ Ok tt →
      SameLeft (lending lent.bytes lent.answers lent.rounds) result other
  both_answer e =
      let past = words_are (lending lent.bytes lent.answers lent.rounds) result p (past_checked (Ok tt) e) (calm_holds lent.bytes calm) in
      let read = table_right 1 lent.bytes (length lent.answers) (length lent.rounds) e in
      let accepted : Accepted lent = record { right = read.0; room = read.1 } in
      record {
        same_answers =
            past.1
            ∙ filled_same (longest_of table) (answer_of table) n lent.answers (word_same read.0)
            ∙ sym (answers_filled start lent other o accepted);
        same_found = past.0 ∙ sym (result_same read.0) ∙ sym (ap as_found (result_is_law start lent other o accepted));
        one_tried = λ readable i h.
            filled_word (tried_of table) n lent.rounds result.tried past.2 i h ∙ one_tried_law table i (task_within read.0 i h) (task_calm read.0 i h);
      }

pub same_within_period : SameWithinPeriod
same_within_period start lent other result o p within calm =
    go (table_check lent.bytes (length lent.answers) (length lent.rounds)) refl
  where
    go : (c : Check) → table_check lent.bytes (length lent.answers) (length lent.rounds) ≡ c →
        SameLeft (lending lent.bytes lent.answers lent.rounds) result other
    go (Err r) e = both_refuse start lent other result o p within calm r e
    go (Ok _) e = both_answer start lent other result o p within calm e
