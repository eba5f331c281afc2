-- Demands 1 to 3 for bytes, and that the contract of `analyse` leaves no second answer.
-- Assumes nothing.
use Rattle.std.specs.Prelude.{Ok, Err}
use Prim.Native.Nat.{ℕ, ◌+◌, ◌≤◌, ◌<◌}
use native.Mathlib.Omega.{arith}
use native.Mathlib.Decide.{dec_le}
use native.Mathlib.Nat.{add-zero}
use mathlib.Core.Path.{◌≡◌, refl, sym, ◌∙◌, ap, subst}
use mathlib.Core.Bool.{true, false}
use mathlib.Core.Logic.{◌⊎◌, inl, inr}
use mathlib.Core.List.{List}
use lib.Dec.{eqb}
use lib.ListN.{length, get_or}
use borrow.Author.Tests.{eqb-true, eqb-false}
use Rattle.model.specs.Lists.{filled, tabulate, largest_of, word_of}
use Rattle.model.specs.Tables.{Table, task_of, loads_of, Alone, Falling}
use Rattle.model.proofs.Loads.{falling_alone}
use Rattle.model.proofs.Lists.{get_d_filled, get_d_filled_past, length_filled}
use Rattle.model.proofs.Tests.{bool?, clash}
use Rattle.model.proofs.First as first_laws
use Rattle.tables.specs.declared.Refusal.{Refusal}
use Rattle.tables.specs.Layout.{task_count, row_count, tasks_of, row_at, table_of}
use Rattle.tables.specs.Refusals.{Check, at, is_clean}
use Rattle.tables.specs.Checks.{table_check}
use Rattle.tables.proofs.CheckLaws.{table_deserved, table_gives, table_right, table_clean}
use Rattle.tables.proofs.LayoutLaws.{tasks_count}
use Rattle.equation.specs.declared.Start.{Start}
use Rattle.equation.specs.Starts.{PeriodsLow}
use Rattle.equation.proofs.Laws.{answer_means, rounds_bound}
use Rattle.equation.proofs.StartLaws.{both_starts, last_stops, earlier_goes_on}
use Rattle.blocking.specs.Ceilings.{blocking_of, section}
use Rattle.runs.specs.Jobs.{NoDelay}
use Rattle.runs.specs.Statement.{NoneExceeds, Answers, response_of}
use Rattle.runs.proofs.EquationRight as runs
use Rattle.answering.specs.declared.Verdict.{Verdict}
use Rattle.answering.specs.declared.Verdict.TheVariants as verdict
use Rattle.answering.specs.Results.{is_schedulable, late_if, late_at, result_of}
use Rattle.response.specs.Analysis.{base_of, start_of, answer_of, rounds_of}
use Rattle.response.specs.Outcome.{Call, Left, leaving, Outcome, verdict_for, verdict_of, answers_after, rounds_after}
use Rattle.response.specs.Statements as says
use Rattle.response.specs.Statements.{Accepted, AnswerRight, RoundsRight, ResultRight, Written}
use Rattle.response.proofs.PlaceLaws.{schedulable_only}
use Rattle.response.proofs.TableLaws.{tasks_fit_law, periods_of}

-- which verdict a check leads to
pub refused_by : (c : Check) (result : Verdict) (r : Refusal) → is_schedulable result ≡ true ⊎ ((i : _) × (result ≡ verdict.Late i)) →
    verdict.Refused r ≡ verdict_for c result → c ≡ Err r
refused_by (Ok _) result r (inl s) e =
    absurd (clash (is_schedulable result) s (ap is_schedulable (sym e)))
refused_by (Ok _) result r (inr late) e =
    let z : ◌≡◌ {A = ℕ} 0 1 = cc (e, late.1) in absurd (omega arith)
refused_by (Err s) result r t e = cc

-- a result is schedulable, or late at a place
pub result_cases : (answers : ℕ → ℕ) (n : ℕ) → (is_schedulable (result_of answers n) ≡ true) ⊎ ((i : _) × (result_of answers n ≡ verdict.Late i))
result_cases answers n =
    elim (bool? (is_schedulable (result_of answers n))) [
      | inl p ↦ inl p
      | inr p ↦
          let g = first_laws.first_found is_schedulable verdict.Schedulable refl (late_at answers) schedulable_only n p in
          inr (at g.0, g.2 ∙ late_is (answers g.0) g.0 (sym (ap is_schedulable g.2) ∙ p))
    ]
  where
    late_is : (a i : ℕ) → is_schedulable (late_if a (at i)) ≡ false → late_if a (at i) ≡ verdict.Late (at i)
    late_is a i p =
        elim (bool? (eqb a 0)) [
          | inl y ↦ rw y
          | inr n ↦ absurd (clash (is_schedulable (late_if a (at i))) (rw n) p)
        ]

module _ (bytes answers rounds : List ℕ) where
  refusal_is : (r : Refusal) → verdict.Refused r ≡ verdict_of bytes (length answers) (length rounds) →
      table_check bytes (length answers) (length rounds) ≡ Err r
  unfolding verdict_of
  refusal_is r e =
      refused_by (table_check bytes (length answers) (length rounds)) (result_of (answer_of (table_of bytes)) (task_count bytes)) r
      (result_cases (answer_of (table_of bytes)) (task_count bytes)) e

  pub answers_kept : (r : Refusal) → table_check bytes (length answers) (length rounds) ≡ Err r → answers_after bytes answers rounds ≡ answers
  unfolding answers_after
  answers_kept r e = rw e

  rounds_kept : (start : Start) (r : Refusal) → table_check bytes (length answers) (length rounds) ≡ Err r →
      rounds_after start bytes answers rounds ≡ rounds
  unfolding rounds_after
  rounds_kept start r e = rw e

  -- a deserved refusal is the verdict
  pub verdict_given : (r : Refusal) → table_check bytes (length answers) (length rounds) ≡ Err r →
      verdict_of bytes (length answers) (length rounds) ≡ verdict.Refused r
  unfolding verdict_of
  verdict_given r e = rw e

  -- a check that refuses gives a verdict that refuses
  check_clean : ((r : Refusal) → ¬ (verdict_of bytes (length answers) (length rounds) ≡ verdict.Refused r)) →
      table_check bytes (length answers) (length rounds) ≡ Ok tt
  check_clean never = go (table_check bytes (length answers) (length rounds)) refl
    where
      go : (c : Check) → table_check bytes (length answers) (length rounds) ≡ c → table_check bytes (length answers) (length rounds) ≡ Ok tt
      go (Ok _) e = e
      go (Err r) e = absurd (never r (verdict_given r e))

pub demand1 : says.Demand1
demand1 =
    record {
      answered = λ start lent. (
        leaving (verdict_of lent.bytes (length lent.answers) (length lent.rounds)) (answers_after lent.bytes lent.answers lent.rounds)
            (rounds_after start lent.bytes lent.answers lent.rounds),
        record { verdict_is = refl; answers_are = refl; rounds_are = refl },
      );
      refused = λ start lent result r o is.
          let e = refusal_is lent.bytes lent.answers lent.rounds r (sym is ∙ o.verdict_is) in (
            table_deserved 1 lent.bytes (length lent.answers) (length lent.rounds) r e,
            o.answers_are ∙ answers_kept lent.bytes lent.answers lent.rounds r e,
            o.rounds_are ∙ rounds_kept lent.bytes lent.answers lent.rounds start r e,
          );
      given = λ start lent result r o d.
          o.verdict_is
          ∙ verdict_given lent.bytes lent.answers lent.rounds r
          (table_gives 1 lent.bytes (length lent.answers) (length lent.rounds) r d);
      not_refused = λ start lent result o never.
          let right =
          table_right 1 lent.bytes (length lent.answers) (length lent.rounds)
          (check_clean lent.bytes lent.answers lent.rounds (λ r e. never r (o.verdict_is ∙ e))) in
          record { right = right.0; room = right.1 };
      accepted = λ start lent result r o a is.
          clash (is_clean (table_check lent.bytes (length lent.answers) (length lent.rounds)))
          (ap is_clean (table_clean 1 lent.bytes (length lent.answers) (length lent.rounds) a.right a.room))
          (ap is_clean (refusal_is lent.bytes lent.answers lent.rounds r (sym is ∙ o.verdict_is)));
    }

-- a result is its three parts
pub same_left : (result other : Left) → result.verdict ≡ other.verdict → result.answers ≡ other.answers → result.rounds ≡ other.rounds →
    result ≡ other
same_left result other verdict answers rounds = λ i. record { verdict = verdict i; answers = answers i; rounds = rounds i }

pub no_second_answer : says.NoSecondAnswer
no_second_answer start lent result other o p =
    same_left result other (o.verdict_is ∙ sym p.verdict_is) (o.answers_are ∙ sym p.answers_are) (o.rounds_are ∙ sym p.rounds_are)

-- the answer and the rounds of a task, said without a search
module _ (table : Table) (i : ℕ) (cost_low : 1 ≤ (task_of table.tasks i).cost) where
  pub answer_right : AnswerRight table i (answer_of table i)
  unfolding answer_of
  answer_right =
      let loads = loads_of table.tasks i in
      let late = (task_of table.tasks i).latest in
      let due = (task_of table.tasks i).deadline in
      record {
        answered = λ one.
            let s = answer_means.positive (base_of table i) loads late due one in
            (s.0, s.1, s.3, omega (arith, s.2, s.3));
        late = λ none w s.
            elim (dec_le (w + late) due) [
              | yes h ↦ absurd (omega (arith, answer_means.answered (base_of table i) loads late due w s h, s.positive))
              | no h ↦ omega arith
            ];
      }

  pub rounds_right_law : (start : Start) → PeriodsLow (loads_of table.tasks i) → RoundsRight start table i (rounds_of start table i)
  unfolding rounds_of
  rounds_right_law start periods =
      let base = base_of table i in
      let loads = loads_of table.tasks i in
      let late = (task_of table.tasks i).latest in
      let due = (task_of table.tasks i).deadline in
      let one : 1 ≤ base = omega arith in
      let above = both_starts.not_above start base loads periods in
      record {
        positive = rounds_bound.positive base loads (start_of start table i) late due one above;
        last = last_stops base loads one (start_of start table i) late due above;
        first = earlier_goes_on base loads one (start_of start table i) late due;
        within = rounds_bound.within base loads (start_of start table i) late due one above;
        otherwise = rounds_bound.otherwise base loads (start_of start table i) late due one above;
      }

-- what a result says of the answers
all_positive : (answers : ℕ → ℕ) (n : ℕ) → ((k : ℕ) → k < n → late_at answers k ≡ verdict.Schedulable) → (i : ℕ) → i < n → 1 ≤ answers i
all_positive answers n f i h =
    elim (bool? (eqb (answers i) 0)) [
      | inl y ↦
          let late : late_at answers i ≡ verdict.Late (at i) = rw y in
          let z : ◌≡◌ {A = ℕ} 0 1 = cc (late, f i h) in absurd (omega arith)
      | inr n ↦
          elim (dec_le 1 (answers i)) [
            | yes p ↦ p
            | no p ↦ absurd (eqb-false (answers i) 0 n (omega arith))
          ]
    ]

late_zero : (answers : ℕ → ℕ) (k : ℕ) → is_schedulable (late_at answers k) ≡ false → (answers k ≡ 0) × (late_at answers k ≡ verdict.Late (at k))
late_zero answers k p =
    elim (bool? (eqb (answers k) 0)) [
      | inl y ↦ (eqb-true (answers k) 0 y, rw y)
      | inr n ↦ absurd (clash (is_schedulable (late_at answers k)) (rw n) p)
    ]

result_right : (answers : ℕ → ℕ) (n : ℕ) → ResultRight answers n (result_of answers n)
result_right answers n =
    elim (bool? (is_schedulable (result_of answers n))) [
      | inl p ↦
          let e = schedulable_only (result_of answers n) p in
          subst (ResultRight answers n) (sym e)
          (all_positive answers n
          (first_laws.all_clean is_schedulable verdict.Schedulable refl (late_at answers) schedulable_only n e))
      | inr p ↦
          let g = first_laws.first_found is_schedulable verdict.Schedulable refl (late_at answers) schedulable_only n p in
          let late = late_zero answers g.0 (sym (ap is_schedulable g.2) ∙ p) in
          subst (ResultRight answers n) (sym (g.2 ∙ late.1))
          (g.1, late.0, all_positive answers g.0 g.3)
    ]

-- the same answers below n, the same result
result_transfer : (f g : ℕ → ℕ) (n : ℕ) (v : Verdict) → ((i : ℕ) → i < n → f i ≡ g i) → ResultRight f n v → ResultRight g n v
result_transfer f g n (verdict.Refused r) same h = h
result_transfer f g n verdict.Schedulable same h = λ i l. rw (sym (same i l)) (h i l)
result_transfer f g n (verdict.Late p) same h =
    (h.0, sym (same p.0 h.0) ∙ h.1, λ i l. rw (sym (same i (omega (arith, h.0)))) (h.2 i l))

module _ (bytes : List ℕ) (calm : NoDelay (tasks_of bytes)) (bare : row_count bytes ≡ 0) where
  -- with no rows nothing blocks
  pub no_blocking : (i : ℕ) → blocking_of (table_of bytes) i ≡ 0
  unfolding blocking_of tabulate largest_of
  no_blocking i =
      ap
      (λ (m : ℕ).
      largest_of (section (tasks_of bytes) (tabulate (row_at bytes) m) (task_of (tasks_of bytes) i).priority) (tabulate (row_at bytes) m))
      bare

  pub plain_answer : (i : ℕ) → i < task_count bytes → answer_of (table_of bytes) i ≡ response_of (tasks_of bytes) i
  unfolding answer_of
  plain_answer i h =
      rw (no_blocking i, add-zero (task_of (tasks_of bytes) i).cost, calm i (omega (arith, tasks_count bytes)))

module _ (start : Start) (lent : Call) (result : Left) (o : Outcome start lent result) (accepted : Accepted lent) where
  abbrev bytes : List ℕ
  bytes = lent.bytes

  clean : table_check bytes (length lent.answers) (length lent.rounds) ≡ Ok tt
  clean = table_clean 1 bytes (length lent.answers) (length lent.rounds) accepted.right accepted.room

  pub answers_filled : result.answers ≡ filled (answer_of (table_of bytes)) (task_count bytes) lent.answers
  unfolding answers_after
  answers_filled = o.answers_are ∙ rw clean

  rounds_filled : result.rounds ≡ filled (rounds_of start (table_of bytes)) (task_count bytes) lent.rounds
  unfolding rounds_after
  rounds_filled = o.rounds_are ∙ rw clean

  pub answer_word : (i : ℕ) → i < task_count bytes → word_of result.answers i ≡ answer_of (table_of bytes) i
  answer_word i h = ap (λ l. get_or l i 0) answers_filled ∙ get_d_filled (answer_of (table_of bytes)) (task_count bytes) i lent.answers 0 h

  pub rounds_word : (i : ℕ) → i < task_count bytes → word_of result.rounds i ≡ rounds_of start (table_of bytes) i
  rounds_word i h = ap (λ l. get_or l i 0) rounds_filled ∙ get_d_filled (rounds_of start (table_of bytes)) (task_count bytes) i lent.rounds 0 h

  cost_low_law : (i : ℕ) → i < task_count bytes → 1 ≤ (task_of (tasks_of bytes) i).cost
  cost_low_law i h = (tasks_fit_law bytes accepted.right.records).cost_low i (omega (arith, tasks_count bytes))

  pub result_is_law : result.verdict ≡ result_of (answer_of (table_of bytes)) (task_count bytes)
  unfolding verdict_of
  result_is_law = o.verdict_is ∙ rw clean

  written : Written start lent result
  written =
      record {
        answers_right = λ i h. rw (answer_word i h) (answer_right (table_of bytes) i (cost_low_law i h));
        rounds_right = λ i h.
            rw (rounds_word i h) (rounds_right_law (table_of bytes) i (cost_low_law i h) start (periods_of bytes accepted.right.records i));
        answers_long =
            ap length answers_filled ∙ length_filled (answer_of (table_of bytes)) (task_count bytes) lent.answers accepted.room.answers_long;
        rounds_long =
            ap length rounds_filled ∙ length_filled (rounds_of start (table_of bytes)) (task_count bytes) lent.rounds accepted.room.rounds_long;
        answers_stay = λ i h.
            ap (λ l. get_or l i 0) answers_filled ∙ get_d_filled_past (answer_of (table_of bytes)) (task_count bytes) i lent.answers 0 h;
        rounds_stay = λ i h.
            ap (λ l. get_or l i 0) rounds_filled ∙ get_d_filled_past (rounds_of start (table_of bytes)) (task_count bytes) i lent.rounds 0 h;
        verdict_right =
            result_transfer (answer_of (table_of bytes)) (word_of result.answers) (task_count bytes) result.verdict
            (λ i h. sym (answer_word i h))
            (subst (ResultRight (answer_of (table_of bytes)) (task_count bytes)) (sym result_is_law)
            (result_right (answer_of (table_of bytes)) (task_count bytes)));
      }

  module _ (calm : NoDelay (tasks_of bytes)) (bare : row_count bytes ≡ 0) (i : ℕ) (h : i < task_count bytes) where
    is_task : i < length (tasks_of bytes)
    is_task = omega (arith, tasks_count bytes)

    none_exceeds : NoneExceeds (tasks_of bytes) i (word_of result.answers i)
    none_exceeds =
        rw (answer_word i h ∙ plain_answer bytes calm bare i h)
        ((runs.equation_right).first_half (tasks_of bytes) (tasks_fit_law bytes accepted.right.records) calm i is_task)

    run_answers : Alone (tasks_of bytes) i → Answers (tasks_of bytes) i (word_of result.answers i)
    run_answers alone =
        rw (answer_word i h ∙ plain_answer bytes calm bare i h)
        ((runs.equation_right).both_halves (tasks_of bytes) (tasks_fit_law bytes accepted.right.records) calm i is_task alone)

    all_answers : Falling (tasks_of bytes) → Answers (tasks_of bytes) i (word_of result.answers i)
    all_answers falling = run_answers (falling_alone (tasks_of bytes) falling i is_task)

pub demand2 : says.Demand2
demand2 = written

pub demand3 : says.Demand3
demand3 =
    record {
      first_half = none_exceeds;
      both_halves = run_answers;
      no_ties = λ start lent result o accepted calm bare falling i h. all_answers start lent result o accepted calm bare i h falling;
    }
