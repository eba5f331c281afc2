-- What is claimed of the checker for the bytes of any table and any list of words.
-- Assumes nothing.
use Rattle.std.specs.Prelude.{Ok, Err}
use Prim.Native.Nat.{ℕ, ◌-◌, ◌≤◌, ◌<◌}
use native.Mathlib.Omega.{arith}
use native.Mathlib.Nat.{le_refl, le_of_eq}
use mathlib.Core.Path.{◌≡◌, refl, sym, ◌∙◌, ap, subst}
use mathlib.Core.Bool.{Bool, true, false}
use mathlib.Core.Logic.{inl, inr}
use mathlib.Core.List.{List}
use lib.ListN.{length, take, length-take}
use lib.Seq.{get_or-take}
use borrow.Author.Tests.{ne_eqb}
use Rattle.model.specs.Lists.{word_of}
use Rattle.model.specs.Tables.{Table, task_of, loads_of}
use Rattle.model.proofs.Tests.{bool?, eqb?, clash}
use Rattle.model.proofs.First.{none_found}
use Rattle.tables.specs.Refusals.{Check}
use Rattle.tables.specs.declared.Refusal.{Refusal}
use Rattle.tables.specs.Fields.{task_count_field}
use Rattle.tables.specs.Layout.{task_count, tasks_of, table_of}
use Rattle.tables.specs.Checks.{read_check, table_check}
use Rattle.tables.specs.Meaning.{TableRight, RoomFor}
use Rattle.tables.proofs.LayoutLaws.{layout_sound, tasks_count}
use Rattle.tables.proofs.PlaceLaws.{refusal_place}
use Rattle.tables.proofs.CheckLaws.{table_deserved, table_gives, table_right, table_clean}
use Rattle.tables.proofs.OrderLaws.{read_decides, all_pass as pass_checks}
use Rattle.equation.specs.Demand.{demand}
use Rattle.equation.proofs.Laws.{enough_in_time}
use Rattle.runs.proofs.EquationRight.{enough_in_runs}
use Rattle.answering.specs.declared.Verdict.TheVariants as verdict
use Rattle.answering.specs.Results.{is_schedulable, late_at, result_of}
use Rattle.response.specs.Analysis.{base_of, answer_of}
use Rattle.response.specs.Statements.{Accepted, AnswerRight, ResultRight}
use Rattle.response.proofs.PlaceLaws.{schedulable_only}
use Rattle.response.proofs.TableLaws.{tasks_fit_law}
use Rattle.response.proofs.Demands.{demand1, demand2, no_blocking, answer_word, result_is_law}
use Rattle.claims.specs.declared.Claimed.{Claimed}
use Rattle.claims.specs.declared.Claimed.TheVariants.{Refused, WrongCount, Pass, Fails}
use Rattle.claims.specs.Claims.{passes_at, compared_of, claimed_of, Checked}
use Rattle.claims.specs.Numbers.{claimed_place}
use Rattle.claims.specs.Statements as says
use Rattle.claims.specs.Statements.{Passes, Compared, ClaimedRight}
use Rattle.claims.proofs.ClaimLaws as laws
use Rattle.claims.proofs.ColumnLaws.{read_refused, wrong_count, compared}

-- the test of a claim and what it says
module _ (bytes claims : List ℕ) (i : ℕ) where
  pub means : passes_at (table_of bytes) claims i ≡ true → Passes (table_of bytes) i (word_of claims i)
  unfolding passes_at
  means p =
      let task = task_of (tasks_of bytes) i in
      let said = laws.passes_says (base_of (table_of bytes) i) (loads_of (tasks_of bytes) i) task.latest task.deadline (word_of claims i) p in
      record {
        w = word_of claims i - task.latest;
        difference = omega (arith, said.0);
        positive = omega (arith, said.0);
        in_time = said.1;
        enough = said.2;
      }

  pub holds : Passes (table_of bytes) i (word_of claims i) → passes_at (table_of bytes) claims i ≡ true
  unfolding passes_at
  holds p =
      let task = task_of (tasks_of bytes) i in
      let difference : word_of claims i - task.latest ≡ p.w = omega (arith, p.difference) in
      laws.passes_so (base_of (table_of bytes) i) (loads_of (tasks_of bytes) i) task.latest task.deadline (word_of claims i)
      (omega (arith, p.difference, p.positive)) p.in_time (rw difference p.enough)

  fails : passes_at (table_of bytes) claims i ≡ false → ¬ Passes (table_of bytes) i (word_of claims i)
  fails failed p = clash (passes_at (table_of bytes) claims i) (holds p) failed

  not_holds : (¬ Passes (table_of bytes) i (word_of claims i)) → passes_at (table_of bytes) claims i ≡ false
  not_holds never =
      elim (bool? (passes_at (table_of bytes) claims i)) [
        | inl p ↦ absurd (never (means p))
        | inr p ↦ p
      ]

-- refusals 1 to 7 are those of the analysis that has room
module _ (bytes : List ℕ) where
  room : RoomFor bytes (task_count bytes) (task_count bytes)
  room = record { answers_long = le_refl (task_count bytes); rounds_long = le_refl (task_count bytes) }

  pub with_room : table_check bytes (task_count bytes) (task_count bytes) ≡ read_check 1 bytes
  with_room = go (read_check 1 bytes) refl
    where
      go : (c : Check) → read_check 1 bytes ≡ c → table_check bytes (task_count bytes) (task_count bytes) ≡ read_check 1 bytes
      go (Ok _) e =
          pass_checks 1 bytes (task_count bytes) (task_count bytes) e (task_count bytes) refl (le_refl (task_count bytes)) (le_refl (task_count bytes)) ∙ sym e
      go (Err r) e = read_decides 1 bytes (task_count bytes) (task_count bytes) r (sym e) ∙ sym e

  right_clean : TableRight bytes → read_check 1 bytes ≡ Ok tt
  right_clean right = sym with_room ∙ table_clean 1 bytes (task_count bytes) (task_count bytes) right room

  clean_right : read_check 1 bytes ≡ Ok tt → TableRight bytes
  clean_right e = (table_right 1 bytes (task_count bytes) (task_count bytes) (with_room ∙ e)).0

  few_right : TableRight bytes → task_count bytes ≤ 200
  few_right right = omega (arith, (right.head.counts task_count_field).high, (layout_sound bytes right.head.version).few)

  -- what is read and not refused has at most 200 tasks
  pub few_tasks_law : read_check 1 bytes ≡ Ok tt → task_count bytes ≤ 200
  few_tasks_law e = few_right (clean_right e)

module _ (bytes claims : List ℕ) where
  abbrev tested : ℕ → Bool
  tested = passes_at (table_of bytes) claims

  -- a list of the right length, whose claims are compared
  compared_right : Compared bytes claims → ClaimedRight bytes claims (compared_of tested (task_count bytes))
  compared_right c =
      elim (laws.compared_cases tested (task_count bytes)) [
        | inl p ↦
            subst (ClaimedRight bytes claims) (sym p) (c, λ i h. means bytes claims i (laws.all_pass tested (task_count bytes) p i h))
        | inr g ↦
            subst (ClaimedRight bytes claims) (sym g.2)
            (c, g.1, fails bytes claims g.0 g.3, λ i h. means bytes claims i (g.4 i h))
      ]

  -- what is answered is right
  found_right_law : ClaimedRight bytes claims (claimed_of bytes claims)
  found_right_law = go (read_check 1 bytes) refl
    where
      go : (c : Check) → read_check 1 bytes ≡ c → ClaimedRight bytes claims (claimed_of bytes claims)
      go (Err r) e =
          subst (ClaimedRight bytes claims) (read_refused bytes claims r (sym e))
          (table_deserved 1 bytes (task_count bytes) (task_count bytes) r (with_room bytes ∙ e))
      go (Ok _) e =
          elim (eqb? (length claims) (task_count bytes)) [
            | inl q ↦
                subst (ClaimedRight bytes claims) (sym (compared bytes claims e q.1))
                (compared_right (record { right = clean_right bytes e; counted = q.1 }))
            | inr q ↦ subst (ClaimedRight bytes claims) (wrong_count bytes claims e q.1) (clean_right bytes e, q.1)
          ]

  -- and what is right is answered
  pub given : (claimed : Claimed) → ClaimedRight bytes claims claimed → Checked bytes claims claimed
  given (Refused r) d =
      read_refused bytes claims r (sym (sym (with_room bytes) ∙ table_gives 1 bytes (task_count bytes) (task_count bytes) r d))
  given WrongCount d = wrong_count bytes claims (right_clean bytes d.0) d.1
  given Pass d =
      sym
      (compared bytes claims (right_clean bytes d.0.right) d.0.counted
      ∙ laws.none_fails tested (task_count bytes) (λ i h. holds bytes claims i (d.1 i h)))
  given (Fails place) d =
      laws.compared_stop tested place.0 (task_count bytes) (laws.none_fails tested place.0 (λ i h. holds bytes claims i (d.3 i h)))
      (not_holds bytes claims place.0 d.2) d.1
      ∙ sym (compared bytes claims (right_clean bytes d.0.right) d.0.counted)

pub claims_checked : says.ClaimsChecked
claims_checked =
    record {
      answered = λ bytes claims. (claimed_of bytes claims, refl);
      right = λ bytes claims claimed e. subst (ClaimedRight bytes claims) (sym e) (found_right_law bytes claims);
      only = λ bytes claims claimed other d o. given bytes claims claimed d ∙ sym (given bytes claims other o);
    }

pub no_second_claimed : says.NoSecondClaimed
no_second_claimed bytes claims claimed other e o = e ∙ sym o

-- where all pass
module _ (bytes claims : List ℕ) (checked : Checked bytes claims Pass) where
  said : ClaimedRight bytes claims Pass
  said = claims_checked.right bytes claims Pass checked

  cost_low_law : (i : ℕ) → i < task_count bytes → 1 ≤ (task_of (tasks_of bytes) i).cost
  cost_low_law i h = (tasks_fit_law bytes said.0.right.records).cost_low i (omega (arith, tasks_count bytes))

  -- each task has an answer, and it is no later than its claim
  answer_within : (i : ℕ) → i < task_count bytes → (1 ≤ answer_of (table_of bytes) i) × (answer_of (table_of bytes) i ≤ word_of claims i)
  unfolding answer_of
  answer_within i h =
      let task = task_of (tasks_of bytes) i in
      let p = said.1 i h in
      let found =
      enough_in_time (base_of (table_of bytes) i) (loads_of (tasks_of bytes) i) task.latest task.deadline p.w
      (omega (arith, cost_low_law i h)) p.positive p.enough (omega (arith, p.difference, p.in_time)) in
      (found.0, omega (arith, found.1, p.difference))

  all_answered : result_of (answer_of (table_of bytes)) (task_count bytes) ≡ verdict.Schedulable
  all_answered =
      none_found is_schedulable verdict.Schedulable refl (late_at (answer_of (table_of bytes))) schedulable_only (task_count bytes)
      (λ k h. rw (ne_eqb (answer_of (table_of bytes) k) 0 (λ e. omega (arith, e, (answer_within k h).0))))

pub claims_sound : says.ClaimsSound
claims_sound start lent result claims o room checked =
    let right = (said lent.bytes claims checked).0.right in
    let accepted : Accepted lent = record { right = right; room = room } in (
      result_is_law start lent result o accepted ∙ all_answered lent.bytes claims checked,
      λ i h. rw (answer_word start lent result o accepted i h) (answer_within lent.bytes claims checked i h).1,
    )

-- an answer that is right and above 0 passes
answer_passes : (table : Table) (i R : ℕ) → AnswerRight table i R → 1 ≤ R → Passes table i R
answer_passes table i R right low =
    let found = right.answered low in
    record {
      w = found.0;
      difference = sym found.2;
      positive = found.1.positive;
      in_time = found.3;
      enough = le_of_eq found.1.solution;
    }

pub claims_complete : says.ClaimsComplete
claims_complete start lent result claimed o schedulable checked =
    let never : (r : Refusal) → ¬ (result.verdict ≡ verdict.Refused r) = λ r e. clash true refl (ap is_schedulable (sym schedulable ∙ e)) in
    let accepted = demand1.not_refused start lent result o never in
    let written = demand2 start lent result o accepted in
    let n = task_count lent.bytes in
    let words = take n result.answers in
    let word : (i : ℕ) → i < n → word_of words i ≡ word_of result.answers i = λ i h. get_or-take n result.answers i 0 h in
    let positive : (i : ℕ) → i < n → 1 ≤ word_of result.answers i =
    subst (ResultRight (word_of result.answers) n) schedulable written.verdict_right in
    let long : length words ≡ n =
    omega (arith, length-take n result.answers, written.answers_long, accepted.room.answers_long) in
    checked
    ∙ sym
    (given lent.bytes words Pass (
      record { right = accepted.right; counted = long },
      λ i h. subst (Passes (table_of lent.bytes) i) (sym (word i h)) (answer_passes (table_of lent.bytes) i (word_of result.answers i) (written.answers_right i h) (positive i h)),
    ))

pub claims_in_runs : says.ClaimsInRuns
claims_in_runs bytes claims checked calm bare i h =
    let right = (said bytes claims checked).0.right in
    let fit = tasks_fit_law bytes right.records in
    let is_task : i < length (tasks_of bytes) = omega (arith, tasks_count bytes) in
    let p = (said bytes claims checked).1 i h in
    let same : p.w ≡ word_of claims i = omega (arith, p.difference, calm i is_task) in
    let base : base_of (table_of bytes) i ≡ (task_of (tasks_of bytes) i).cost = omega (arith, no_blocking bytes calm bare i) in
    let enough : demand (task_of (tasks_of bytes) i).cost (loads_of (tasks_of bytes) i) (word_of claims i) ≤ word_of claims i =
    rw (sym base, sym same) p.enough in (
      omega (arith, same, p.positive),
      enough_in_runs (tasks_of bytes) fit calm i is_task (word_of claims i) (omega (arith, p.in_time, fit.deadline_high i is_task)) enough,
    )

-- the place is small: a task's, or a byte's
pub claimed_place_law : (bytes claims : List ℕ) (claimed : Claimed) → Checked bytes claims claimed → claimed_place claimed < 65536
claimed_place_law bytes claims claimed checked = within claimed (claims_checked.right bytes claims claimed checked)
  where
    within : (claimed : Claimed) → ClaimedRight bytes claims claimed → claimed_place claimed < 65536
    within (Refused r) d = refusal_place 1 bytes (task_count bytes) (task_count bytes) r d
    within WrongCount d = omega arith
    within Pass d = omega arith
    within (Fails place) d = omega (arith, d.1, few_right bytes d.0.right)
