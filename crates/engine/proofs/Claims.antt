-- What is claimed of the engine for the bytes of any table: its refusals, its ticks, and the equation's answers.
-- Assumes nothing.
use Rattle.std.specs.Prelude.{Ok, Err}
use Prim.Native.Nat.{ℕ, zero, suc, ◌-◌, ◌/◌, ◌%◌, ◌≤◌, ◌<◌}
use native.Mathlib.Decide.{dec_lt}
use native.Mathlib.Omega.{arith}
use mathlib.Core.Path.{◌≡◌, refl, sym, ◌∙◌, ap}
use mathlib.Core.Bool.{true, false}
use mathlib.Core.Logic.{inl, inr}
use mathlib.Core.List.{List}
use lib.Dec.{eqb, leb, ltb}
use lib.ListN.{length}
use borrow.Author.Tests.{eqb-true, eq-eqb, ne_eqb, le-leb, not-true}
use Rattle.model.specs.Choice.{both, on}
use Rattle.model.specs.Lists.{largest_to, word_of}
use Rattle.model.specs.Search.{any}
use Rattle.model.specs.Tables.{Task, Falling}
use Rattle.model.proofs.Any.{any_none}
use Rattle.model.proofs.Loads.{falling_alone}
use Rattle.model.proofs.Tests.{bool?, ltb?, clash, both_true, both_pass, both_fail}
use Rattle.model.proofs.Lists.{largest_low, largest_high, get_d_filled_past}
use Rattle.model.proofs.Filling.{filled_same, filled_word}
use Rattle.model.proofs.First.{first_same}
use Rattle.tables.specs.declared.Refusal.{Refusal}
use Rattle.tables.specs.declared.Refusal.TheVariants.{NotPlayable}
use Rattle.tables.specs.Fields.{task_count_field, latest_field, priority_field}
use Rattle.tables.specs.Layout.{task_count, row_count, tasks_of, table_of, priority_in, latest_in}
use Rattle.tables.specs.Refusals.{Check, at, is_clean}
use Rattle.tables.specs.Checks.{room_check, table_check, table_check_spanning}
use Rattle.tables.specs.Meaning.{TableRight, RoomFor}
use Rattle.tables.proofs.LayoutLaws.{layout_sound, task_is, priority_at, tasks_count}
use Rattle.tables.proofs.CheckLaws.{table_deserved, table_gives, table_right, table_clean}
use Rattle.machine.specs.Machine.{after, bit_of}
use Rattle.machine.specs.Slices.{TasksHeld, words_for}
use Rattle.machine.proofs.MachineLaws.{words_empty}
use Rattle.machine.proofs.SameLaws.{Same}
use Rattle.runs.specs.Jobs.{NoDelay}
use Rattle.runs.specs.Synchronous.{synchronous, work_left}
use Rattle.answering.specs.declared.Verdict.TheVariants as verdict
use Rattle.answering.specs.Results.{is_schedulable, late_if, late_at, result_of}
use Rattle.response.specs.Verdicts.{verdict_place}
use Rattle.response.specs.Analysis.{answer_of}
use Rattle.response.specs.Outcome.{verdict_for}
use Rattle.tables.proofs.PlaceLaws.{refusal_place}
use Rattle.response.specs.Statements.{Accepted}
use Rattle.response.proofs.PlaceLaws.{result_place}
use Rattle.response.proofs.TableLaws.{tasks_fit_law}
use Rattle.response.proofs.Demands.{refused_by, result_cases, answers_kept, verdict_given, plain_answer, answers_filled, result_is_law}
use Rattle.engine.specs.Run.{engine_after, engine_answer, AsInRun}
use Rattle.engine.specs.Outcome.{tied_at, is_plain, play_check, play_verdict, play_words}
use Rattle.engine.specs.Statements.{Plain, PlayDeserved, PlayRefusals, TableEveryTick, CodeEveryTick, PlaysEquation, PlaysAsAnalysis, NoSecondPlay}
use Rattle.engine.proofs.RunLaws.{every_tick, played_is_answer}
use Rattle.engine.proofs.PlayedLaws.{table_decides, not_plain_law, plain_clean, right, tasks_held, same_state, tie_found}

-- where no task has the priority of the one before it, priorities strictly fall
module _ (bytes : List ℕ) (right : TableRight bytes) where
  falling_from : ((i : ℕ) → suc i < task_count bytes → ¬ (priority_in bytes (suc i) ≡ priority_in bytes i)) → Falling (tasks_of bytes)
  falling_from differs i h =
      let next : suc i < task_count bytes = omega (arith, tasks_count bytes) in
      omega (
        arith,
        differs i next,
        (right.records (suc i) next priority_field).not_rising i refl,
        priority_at bytes i (omega arith),
        priority_at bytes (suc i) next,
      )

  -- so it has no tie at all
  untied : any (tied_at (priority_in bytes)) (task_count bytes) ≡ false → (i k : ℕ) → i < task_count bytes → k < task_count bytes →
      priority_in bytes i ≡ priority_in bytes k → i ≡ k
  untied none i k h l e =
      falling_alone (tasks_of bytes) (falling_from (λ j next same.
      let back : j ≡ suc j - 1 = omega arith in
      clash (any (tied_at (priority_in bytes)) (task_count bytes))
      (tie_found (priority_in bytes) (suc j) (task_count bytes) (omega arith) next (same ∙ ap (priority_in bytes) back)) none))
      k (omega (arith, tasks_count bytes)) i (omega (arith, tasks_count bytes))
      (omega (arith, priority_at bytes i h, priority_at bytes k l, e))

  pub plain_falling : Plain bytes → Falling (tasks_of bytes)
  plain_falling plain = falling_from (λ i next same. omega (arith, plain.no_tie (suc i) i next (omega arith) same))

-- the test for a plain table passes exactly where the table is plain
module _ (bytes : List ℕ) where
  plain_means : TableRight bytes → is_plain bytes ≡ true → Plain bytes
  plain_means right p =
      let a = both_true (eqb (row_count bytes) 0) _ p in
      let b = both_true (eqb (largest_to (latest_in bytes) (task_count bytes)) 0) _ a.1 in
      let none = eqb-true (largest_to (latest_in bytes) (task_count bytes)) 0 b.0 in
      let no_latest : (i : ℕ) → i < task_count bytes → latest_in bytes i ≡ 0 =
      λ i h. omega (arith, none, largest_low (latest_in bytes) (task_count bytes) i h) in
      record {
        no_row = eqb-true (row_count bytes) 0 a.0;
        no_earliest = λ i h. omega (arith, no_latest i h, (right.records i h latest_field).low);
        no_latest = no_latest;
        no_tie = untied bytes right (not-true (any (tied_at (priority_in bytes)) (task_count bytes)) b.1);
      }

  plain_holds : Plain bytes → is_plain bytes ≡ true
  plain_holds plain =
      let none = largest_high (latest_in bytes) (task_count bytes) 0 (λ i h. omega (arith, plain.no_latest i h)) in
      both_pass (eq-eqb (row_count bytes) 0 plain.no_row)
      (both_pass (eq-eqb (largest_to (latest_in bytes) (task_count bytes)) 0 (omega (arith, none)))
      (rw (any_none (tied_at (priority_in bytes)) (task_count bytes) no_tie_law) refl))
    where
      no_tie_law : (i : ℕ) → i < task_count bytes → tied_at (priority_in bytes) i ≡ false
      no_tie_law zero h = refl
      no_tie_law (suc i) h =
          let back : suc i - 1 ≡ i = omega arith in
          both_fail (ltb 0 (suc i)) (eqb (priority_in bytes (suc i)) (priority_in bytes (suc i - 1)))
          (rw back (ne_eqb (priority_in bytes (suc i)) (priority_in bytes i) (λ same. omega (arith, plain.no_tie (suc i) i h (omega arith) same))))

module _ (bytes : List ℕ) (room : ℕ) where
  -- a clean check does not refuse
  clean_passes : (r : Refusal) → play_check bytes room ≡ Ok tt → ¬ (play_check bytes room ≡ Err r)
  clean_passes r p q = clash (is_clean (play_check bytes room)) (ap is_clean p) (ap is_clean q)

  -- a refusal is given only where it is deserved
  play_deserved : (r : Refusal) → play_check bytes room ≡ Err r → PlayDeserved bytes room r
  play_deserved r given = go (table_check bytes room room) refl
    where
      go : (c : Check) → table_check bytes room room ≡ c → PlayDeserved bytes room r
      go (Err s) e =
          inl (table_deserved 1 bytes room room r (e ∙ sym (table_decides bytes room s e) ∙ given))
      go (Ok _) e =
          elim (bool? (is_plain bytes)) [
            | inl p ↦ absurd (clean_passes r (plain_clean bytes room e p) given)
            | inr p ↦
                let right = table_right 1 bytes room room e in
                let same : Err NotPlayable ≡ Err r = sym (not_plain_law bytes room e p) ∙ given in
                inr (cc, record { right = right.0; room = right.1; not_plain = λ plain. clash (is_plain bytes) (plain_holds bytes plain) p })
          ]

  -- and one that is deserved is given
  play_gives : (r : Refusal) → PlayDeserved bytes room r → play_check bytes room ≡ Err r
  play_gives r (inl d) = table_decides bytes room r (table_gives 1 bytes room room r d)
  play_gives r (inr d) =
      elim (bool? (is_plain bytes)) [
        | inl p ↦ absurd (d.1.not_plain (plain_means bytes d.1.right p))
        | inr p ↦
            not_plain_law bytes room (table_clean 1 bytes room room d.1.right d.1.room) p ∙ ap Err (sym d.0)
      ]

  -- what is played breaks no rule, and is plain
  play_right : play_check bytes room ≡ Ok tt → TableRight bytes × RoomFor bytes room room × Plain bytes
  play_right accepted = go (table_check bytes room room) refl
    where
      go : (c : Check) → table_check bytes room room ≡ c → TableRight bytes × RoomFor bytes room room × Plain bytes
      go (Err s) e = absurd (clean_passes s accepted (table_decides bytes room s e))
      go (Ok _) e =
          elim (bool? (is_plain bytes)) [
            | inl p ↦ let right = table_right 1 bytes room room e in (right.0, right.1, plain_means bytes right.0 p)
            | inr p ↦ absurd (clean_passes NotPlayable accepted (not_plain_law bytes room e p))
          ]

  -- and such a table is played
  play_clean : TableRight bytes → RoomFor bytes room room → Plain bytes → play_check bytes room ≡ Ok tt
  play_clean right enough plain = plain_clean bytes room (table_clean 1 bytes room room right enough) (plain_holds bytes plain)

  -- a verdict that refuses is that of the check
  play_refused : (r : Refusal) → verdict.Refused r ≡ play_verdict bytes room → play_check bytes room ≡ Err r
  unfolding play_verdict
  play_refused r e =
      refused_by (play_check bytes room) (result_of (engine_answer (tasks_of bytes)) (task_count bytes)) r
      (result_cases (engine_answer (tasks_of bytes)) (task_count bytes)) e

  play_given : (r : Refusal) → play_check bytes room ≡ Err r → play_verdict bytes room ≡ verdict.Refused r
  unfolding play_verdict
  play_given r e = rw e

  -- where no verdict refuses, the check is clean
  play_accepted : ((r : Refusal) → ¬ (play_verdict bytes room ≡ verdict.Refused r)) → play_check bytes room ≡ Ok tt
  play_accepted never = go (play_check bytes room) refl
    where
      go : (c : Check) → play_check bytes room ≡ c → play_check bytes room ≡ Ok tt
      go (Ok _) e = e
      go (Err r) e = absurd (never r (play_given r e))

-- a refusal leaves the slice as it was
words_kept : (bytes answers : List ℕ) (r : Refusal) → play_check bytes (length answers) ≡ Err r → play_words bytes answers ≡ answers
unfolding play_words
words_kept bytes answers r e = rw e

pub play_refusals : PlayRefusals
play_refusals =
    record {
      answered = λ bytes answers. (
        play_verdict bytes (length answers),
        play_words bytes answers,
        record { verdict_is = refl; answers_are = refl },
      );
      refused = λ bytes answers left r o.
          let e = play_refused bytes (length answers) r o.verdict_is in
          (play_deserved bytes (length answers) r e, o.answers_are ∙ words_kept bytes answers r e);
      given = λ bytes answers left v r d o.
          o.verdict_is ∙ play_given bytes (length answers) r (play_gives bytes (length answers) r d);
      not_refused = λ bytes answers left v o never.
          play_right bytes (length answers) (play_accepted bytes (length answers) (λ r e. never r (o.verdict_is ∙ e)));
      accepted = λ bytes answers left r right room plain o.
          clean_passes bytes (length answers) r (play_clean bytes (length answers) right room plain)
          (play_refused bytes (length answers) r o.verdict_is);
    }

-- the tasks of a table that breaks no rule are at most 200
few : (bytes : List ℕ) → TableRight bytes → length (tasks_of bytes) ≤ 200
few bytes right =
    omega (arith, tasks_count bytes, (right.head.counts task_count_field).high, (layout_sound bytes right.head.version).few)

pub table_every_tick : TableEveryTick
table_every_tick bytes right falling = every_tick (tasks_of bytes) (tasks_fit_law bytes right.records) falling (few bytes right)

pub code_every_tick : CodeEveryTick
code_every_tick bytes periods costs deadlines latest held falling limit before now t place next start leaves ticks s law h =
    record {
      work = λ p is_task.
          let inside : p < task_count bytes = omega (arith, tasks_count bytes) in
          filled_word (after (word_of periods) (word_of costs) (task_count bytes) t).left (task_count bytes) before.left now.left leaves.state_is.left_is p inside
          ∙ same.left p inside ∙ in_run.work p is_task;
      bits = λ p. ap (λ (word : ℕ). bit_of word (p % 64)) (word_is_law (p / 64) ∙ ap (λ (words : ℕ → ℕ). words (p / 64)) same.ready) ∙ in_run.ready p ∙ bit p;
    }
  where
    tasks : TasksHeld periods costs (task_count bytes)
    tasks = tasks_held bytes periods costs deadlines latest held (task_count bytes) refl

    word_is_law : (w : ℕ) → word_of now.ready w ≡ (after (word_of periods) (word_of costs) (task_count bytes) t).ready w
    word_is_law w =
        elim (dec_lt w (words_for (task_count bytes))) [
          | yes l ↦
              filled_word (after (word_of periods) (word_of costs) (task_count bytes) t).ready (words_for (task_count bytes)) before.ready now.ready
              leaves.state_is.ready_is w l
          | no l ↦
              ap (λ (words : List ℕ). word_of words w) leaves.state_is.ready_is
              ∙ get_d_filled_past (after (word_of periods) (word_of costs) (task_count bytes) t).ready (words_for (task_count bytes)) w before.ready 0 (omega arith)
              ∙ start.no_bit w
              ∙ sym (words_empty (word_of periods) (word_of costs) (task_count bytes) (omega (arith, tasks.few)) tasks.cost_low t w (omega arith))
        ]

    same : Same (task_count bytes) (after (word_of periods) (word_of costs) (task_count bytes) t) (engine_after (tasks_of bytes) t)
    same = same_state bytes periods costs deadlines latest held (task_count bytes) refl t

    in_run : AsInRun (tasks_of bytes) ticks s t
    in_run = table_every_tick bytes (right bytes periods costs deadlines latest held) falling ticks s law t h

    bit : (p : ℕ) →
        on (both (ltb p (length (tasks_of bytes))) (ltb 0 ((engine_after (tasks_of bytes) t).left p))) 1
        ≡ on (both (ltb p (length (tasks_of bytes))) (ltb 0 (work_left (synchronous (tasks_of bytes) ticks) s t p))) 1
    bit p = elim (ltb? p (length (tasks_of bytes))) [ inl l ↦ rw (in_run.work p l.1) | inr l ↦ rw l.0 ]

module _ (bytes : List ℕ) (right : TableRight bytes) (plain : Plain bytes) where
  -- the tasks of a plain table have no delay
  calm : NoDelay (tasks_of bytes)
  calm i h =
      let inside : i < task_count bytes = omega (arith, tasks_count bytes) in
      ap (λ (t : Task). t.latest) (task_is bytes i inside) ∙ plain.no_latest i inside

  -- so the engine's answers are the analysis's
  same_answer : (i : ℕ) → i < task_count bytes → engine_answer (tasks_of bytes) i ≡ answer_of (table_of bytes) i
  same_answer i h =
      played_is_answer (tasks_of bytes) (tasks_fit_law bytes right.records) (plain_falling bytes right plain) calm (few bytes right) i (omega (arith, tasks_count bytes))
      ∙ sym (plain_answer bytes calm plain.no_row i h)

pub plays_equation : PlaysEquation
unfolding play_verdict play_words
plays_equation bytes answers left v o right room plain =
    let clean = play_clean bytes (length answers) right room plain in
    let same = same_answer bytes right plain in
    record {
      answers_are =
          o.answers_are ∙ rw clean (filled_same (engine_answer (tasks_of bytes)) (answer_of (table_of bytes)) (task_count bytes) answers same);
      result_is =
          o.verdict_is
          ∙ rw clean
          (first_same is_schedulable verdict.Schedulable (late_at (engine_answer (tasks_of bytes))) (late_at (answer_of (table_of bytes))) (task_count bytes)
          (λ i h. ap (λ (x : ℕ). late_if x (at i)) (same i h)));
    }

-- where there is room for the rounds, the analysis checks as the engine does
same_check : (bytes : List ℕ) (answers rounds : ℕ) → task_count bytes ≤ rounds → table_check bytes answers answers ≡ table_check bytes answers rounds
unfolding table_check_spanning room_check
same_check bytes answers rounds h =
    elim (bool? (leb (task_count bytes) answers)) [
      | inl p ↦ rw (p, le-leb (task_count bytes) rounds h)
      | inr p ↦ rw p
    ]

pub plays_as_analysis : PlaysAsAnalysis
plays_as_analysis start lent result v left o p enough never =
    go (play_check bytes (length answers)) refl
  where
    bytes : List ℕ
    bytes = lent.bytes

    answers : List ℕ
    answers = lent.answers

    go : (c : Check) → play_check bytes (length answers) ≡ c → (v ≡ result.verdict) × (left ≡ result.answers)
    go (Ok _) e =
        let right = play_right bytes (length answers) e in
        let accepted : Accepted lent = record { right = right.0; room = record { answers_long = right.1.answers_long; rounds_long = enough } } in
        let equal = plays_equation bytes answers left v o right.0 right.1 right.2 in (
          equal.result_is ∙ sym (result_is_law start lent result p accepted),
          equal.answers_are ∙ sym (answers_filled start lent result p accepted),
        )
    go (Err r) e =
        elim (play_deserved bytes (length answers) r e) [
          | inl d ↦
              let refused =
              sym (same_check bytes (length answers) (length lent.rounds) enough) ∙ table_gives 1 bytes (length answers) (length answers) r d in (
                o.verdict_is
                    ∙ play_given bytes (length answers) r e
                    ∙ sym (p.verdict_is ∙ verdict_given bytes answers lent.rounds r refused),
                o.answers_are ∙ words_kept bytes answers r e ∙ sym (p.answers_are ∙ answers_kept bytes answers lent.rounds r refused),
              )
          | inr d ↦ absurd (never (o.verdict_is ∙ play_given bytes (length answers) r e ∙ ap verdict.Refused d.0))
        ]

pub no_second_play : NoSecondPlay
no_second_play bytes answers left left_other v other o p =
    (o.verdict_is ∙ sym p.verdict_is, o.answers_are ∙ sym p.answers_are)

-- the place of every verdict is small
pub play_place : (bytes : List ℕ) (answers : ℕ) → verdict_place (play_verdict bytes answers) < 65536
unfolding play_verdict
play_place bytes answers = go (play_check bytes answers) refl
  where
    go : (c : Check) → play_check bytes answers ≡ c → verdict_place (verdict_for c (result_of (engine_answer (tasks_of bytes)) (task_count bytes))) < 65536
    go (Ok _) e =
        omega (
          arith,
          result_place (engine_answer (tasks_of bytes)) (task_count bytes),
          few bytes (play_right bytes answers e).0,
          tasks_count bytes,
        )
    go (Err r) e =
        elim (play_deserved bytes answers r e) [
          | inl d ↦ refusal_place 1 bytes answers answers r d
          | inr d ↦ rw d.0 (omega arith)
        ]
