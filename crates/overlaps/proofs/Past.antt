-- What is claimed of the second analysis for the bytes of any table.
-- Assumes nothing.
use Rattle.std.specs.Prelude.{Ok, Err}
use Prim.Native.Nat.{ℕ, ◌≤◌, ◌<◌}
use native.Mathlib.Omega.{arith}
use mathlib.Core.Path.{◌≡◌, refl, sym, ◌∙◌, ap, subst}
use mathlib.Core.Bool.{true, false}
use mathlib.Core.Logic.{inl, inr}
use mathlib.Core.List.{List}
use lib.ListN.{length}
use borrow.Author.Tests.{eq-eqb, eqb-true}
use Rattle.model.specs.Lists.{filled, largest_to, word_of}
use Rattle.model.specs.Tables.{task_of}
use Rattle.model.proofs.Filling.{filled_word, is_filled}
use Rattle.model.proofs.First.{first_same}
use Rattle.model.proofs.Lists.{largest_low, largest_high, get_d_filled_past, length_filled}
use Rattle.model.proofs.Tests.{bool?, clash}
use Rattle.tables.specs.declared.Refusal.{Refusal}
use Rattle.tables.specs.Fields.{task_count_field, cost_field, latest_field}
use Rattle.tables.specs.Layout.{task_count, tasks_of, table_of, latest_in}
use Rattle.tables.specs.Refusals.{Check, at}
use Rattle.tables.specs.Meaning.{TableRightSpanning}
use Rattle.tables.proofs.LayoutLaws.{layout_sound, task_is}
use Rattle.tables.proofs.PlaceLaws.{refusal_place}
use Rattle.tables.proofs.CheckLaws.{table_deserved, table_gives, table_right, table_clean}
use Rattle.overlaps.specs.declared.Found.{Found}
use Rattle.overlaps.specs.declared.Found.TheVariants.{Refused, Delayed, Schedulable, Late, Open}
use Rattle.jobs.specs.Overlaps.{studied_of, tried, longest_of, tried_of}
use Rattle.overlaps.specs.Outcome.{is_schedulable, said_by, said_at, result_of, past_check, is_calm, found_of, answers_after, tried_words_after, Call, Left, leaving, PastOutcome}
use Rattle.overlaps.specs.Numbers.{found_place}
use Rattle.overlaps.specs.Statements as says
use Rattle.overlaps.specs.Statements.{LongestRight, ResultRight, Calm, Readable, Unchanged, Written, FoundRight, LeftRight}
use Rattle.overlaps.proofs.EndLaws.{right_by, found_right_law}
use Rattle.overlaps.proofs.ResultLaws.{result_right, result_given, result_place}

module _ (bytes : List ℕ) where
  -- the test for a delay and what it says
  pub calm_holds : Calm bytes → is_calm bytes ≡ true
  calm_holds calm =
      eq-eqb (largest_to (latest_in bytes) (task_count bytes)) 0
      (omega (arith, largest_high (latest_in bytes) (task_count bytes) 0 (λ k h. omega (arith, (calm k h).1))))

  module _ (right : TableRightSpanning 4 bytes) where
    calm_means : is_calm bytes ≡ true → Calm bytes
    calm_means p i h =
        let none = eqb-true (largest_to (latest_in bytes) (task_count bytes)) 0 p in
        let latest = largest_low (latest_in bytes) (task_count bytes) i h in
        (omega (arith, none, latest, (right.records i h latest_field).low), omega (arith, none, latest))

    pub cost_low_law : (i : ℕ) → i < task_count bytes → 1 ≤ (task_of (tasks_of bytes) i).cost
    cost_low_law i h = rw (task_is bytes i h) (right.records i h cost_field).low

    -- the words of a task, both ways
    pub word_right : (i : ℕ) → i < task_count bytes → LongestRight (studied_of (table_of bytes) i) (longest_of (table_of bytes) i) (tried_of (table_of bytes) i)
    unfolding longest_of tried_of
    word_right i h = found_right_law (studied_of (table_of bytes) i) (cost_low_law i h)

    word_given : (i : ℕ) → i < task_count bytes → (answer count : ℕ) → LongestRight (studied_of (table_of bytes) i) answer count →
        (answer ≡ longest_of (table_of bytes) i) × (count ≡ tried_of (table_of bytes) i)
    unfolding longest_of tried_of
    word_given i h answer count d =
        let by = right_by (studied_of (table_of bytes) i) (cost_low_law i h) answer count d in
        (by.word_is, by.tried_is)

module _ (lent : Call) where
  abbrev n : ℕ
  n = task_count lent.bytes

  abbrev words : ℕ → ℕ
  words = longest_of (table_of lent.bytes)

  abbrev counts : ℕ → ℕ
  counts = tried_of (table_of lent.bytes)

  -- what each check leads to
  by_refusal : (r : Refusal) → past_check lent.bytes (length lent.answers) (length lent.tried) ≡ Err r → (result : Left) →
      result.found ≡ Refused r → Unchanged lent result → PastOutcome lent result
  unfolding found_of answers_after tried_words_after
  by_refusal r e result f same =
      record { found_is = rw e f; answers_are = rw e same.answers_stay; tried_are = rw e same.tried_stay }

  by_delay : past_check lent.bytes (length lent.answers) (length lent.tried) ≡ Ok tt → is_calm lent.bytes ≡ false → (result : Left) →
      result.found ≡ Delayed → Unchanged lent result → PastOutcome lent result
  unfolding found_of answers_after tried_words_after
  by_delay e p result f same =
      record { found_is = rw (e, p) f; answers_are = rw (e, p) same.answers_stay; tried_are = rw (e, p) same.tried_stay }

  by_words : past_check lent.bytes (length lent.answers) (length lent.tried) ≡ Ok tt → is_calm lent.bytes ≡ true → (result : Left) →
      result.found ≡ result_of words n → result.answers ≡ filled words n lent.answers → result.tried ≡ filled counts n lent.tried →
      PastOutcome lent result
  unfolding found_of answers_after tried_words_after
  by_words e p result f a t = record { found_is = rw (e, p) f; answers_are = rw (e, p) a; tried_are = rw (e, p) t }

  module _ (result : Left) (o : PastOutcome lent result) where
    pub refused_is : (r : Refusal) → past_check lent.bytes (length lent.answers) (length lent.tried) ≡ Err r →
        (result.found ≡ Refused r) × Unchanged lent result
    unfolding found_of answers_after tried_words_after
    refused_is r e =
        (rw e at o.found_is, record { answers_stay = rw e at o.answers_are; tried_stay = rw e at o.tried_are })

    delayed_is : past_check lent.bytes (length lent.answers) (length lent.tried) ≡ Ok tt → is_calm lent.bytes ≡ false →
        (result.found ≡ Delayed) × Unchanged lent result
    unfolding found_of answers_after tried_words_after
    delayed_is e p =
        (rw (e, p) at o.found_is, record { answers_stay = rw (e, p) at o.answers_are; tried_stay = rw (e, p) at o.tried_are })

    pub words_are : past_check lent.bytes (length lent.answers) (length lent.tried) ≡ Ok tt → is_calm lent.bytes ≡ true →
        (result.found ≡ result_of words n) × (result.answers ≡ filled words n lent.answers) × (result.tried ≡ filled counts n lent.tried)
    unfolding found_of answers_after tried_words_after
    words_are e p = (rw (e, p) at o.found_is, rw (e, p) at o.answers_are, rw (e, p) at o.tried_are)

    -- words that are filled are right, and what is found goes by them
    written : Readable lent → Calm lent.bytes → result.found ≡ result_of words n → result.answers ≡ filled words n lent.answers →
        result.tried ≡ filled counts n lent.tried → Written lent result
    written readable calm f a t =
        let word : (i : ℕ) → i < n → word_of result.answers i ≡ words i = filled_word words n lent.answers result.answers a in
        let count : (i : ℕ) → i < n → word_of result.tried i ≡ counts i = filled_word counts n lent.tried result.tried t in
        record {
          readable = readable;
          calm = calm;
          words_right = λ i h. rw (word i h, count i h) (word_right lent.bytes readable.right i h);
          answers_long = ap length a ∙ length_filled words n lent.answers readable.room.answers_long;
          tried_long = ap length t ∙ length_filled counts n lent.tried readable.room.rounds_long;
          answers_stay = λ i h. ap (λ (l : List ℕ). word_of l i) a ∙ get_d_filled_past words n i lent.answers 0 h;
          tried_stay = λ i h. ap (λ (l : List ℕ). word_of l i) t ∙ get_d_filled_past counts n i lent.tried 0 h;
          found_right =
              subst (ResultRight (word_of result.answers) n)
              (sym
              (f
              ∙ first_same is_schedulable Schedulable (said_at words) (said_at (word_of result.answers)) n
              (λ i h. ap (λ (w : ℕ). said_by w (at i)) (sym (word i h)))))
              (result_right (word_of result.answers) n);
        }

  by_found : (result : Left) (f : Found) → ResultRight (word_of result.answers) n f → Written lent result → FoundRight lent result f
  by_found result (Refused r) d w = absurd d
  by_found result Delayed d w = absurd d
  by_found result Schedulable d w = w
  by_found result (Late place) d w = w
  by_found result (Open place) d w = w

  outcome_right : (result : Left) → PastOutcome lent result → LeftRight lent result
  outcome_right result o = go (past_check lent.bytes (length lent.answers) (length lent.tried)) refl
    where
      go : (c : Check) → past_check lent.bytes (length lent.answers) (length lent.tried) ≡ c → LeftRight lent result
      go (Err r) e =
          let is = refused_is result o r e in
          subst (FoundRight lent result) (sym is.0) (table_deserved 4 lent.bytes (length lent.answers) (length lent.tried) r e, is.1)
      go (Ok _) e =
          let right = table_right 4 lent.bytes (length lent.answers) (length lent.tried) e in
          let readable : Readable lent = record { right = right.0; room = right.1 } in
          elim (bool? (is_calm lent.bytes)) [
            | inl p ↦
                let is = words_are result o e p in
                let w = written result o readable (calm_means lent.bytes right.0 p) is.0 is.1 is.2 in
                by_found result result.found w.found_right w
            | inr p ↦
                let is = delayed_is result o e p in
                subst (FoundRight lent result) (sym is.0)
                (readable, λ calm. clash (is_calm lent.bytes) (calm_holds lent.bytes calm) p, is.1)
          ]

  -- and what is right is the outcome
  written_outcome : (result : Left) → Written lent result → PastOutcome lent result
  written_outcome result w =
      let r = w.readable in
      let given : (i : ℕ) → i < n → (word_of result.answers i ≡ words i) × (word_of result.tried i ≡ counts i) =
      λ i h. word_given lent.bytes r.right i h (word_of result.answers i) (word_of result.tried i) (w.words_right i h) in
      by_words (table_clean 4 lent.bytes (length lent.answers) (length lent.tried) r.right r.room) (calm_holds lent.bytes w.calm) result
      (result_given (word_of result.answers) n result.found w.found_right
      ∙ first_same is_schedulable Schedulable (said_at (word_of result.answers)) (said_at words) n (λ i h. ap (λ (v : ℕ). said_by v (at i)) (given i h).0))
      (is_filled words n lent.answers result.answers r.room.answers_long w.answers_long (λ i h. (given i h).0) w.answers_stay)
      (is_filled counts n lent.tried result.tried r.room.rounds_long w.tried_long (λ i h. (given i h).1) w.tried_stay)

  right_outcome : (result : Left) → LeftRight lent result → PastOutcome lent result
  right_outcome result d = go result.found refl d
    where
      go : (f : Found) → result.found ≡ f → FoundRight lent result f → PastOutcome lent result
      go (Refused r) e d =
          by_refusal r (table_gives 4 lent.bytes (length lent.answers) (length lent.tried) r d.0) result e d.1
      go Delayed e d =
          by_delay (table_clean 4 lent.bytes (length lent.answers) (length lent.tried) d.0.right d.0.room) (not_calm d.0 d.1) result e d.2
        where
          not_calm : Readable lent → ¬ Calm lent.bytes → is_calm lent.bytes ≡ false
          not_calm readable not =
              elim (bool? (is_calm lent.bytes)) [
                | inl p ↦ absurd (not (calm_means lent.bytes readable.right p))
                | inr p ↦ p
              ]
      go Schedulable e w = written_outcome result w
      go (Late place) e w = written_outcome result w
      go (Open place) e w = written_outcome result w

same_left : (result other : Left) → result.found ≡ other.found → result.answers ≡ other.answers → result.tried ≡ other.tried → result ≡ other
same_left result other found answers tried = λ i. record { found = found i; answers = answers i; tried = tried i }

pub no_second_past : says.NoSecondPast
no_second_past lent result other a b =
    same_left result other (a.found_is ∙ sym b.found_is) (a.answers_are ∙ sym b.answers_are) (a.tried_are ∙ sym b.tried_are)

pub past_analysed : says.PastAnalysed
past_analysed =
    record {
      answered = λ lent. (
        leaving (found_of lent.bytes (length lent.answers) (length lent.tried)) (answers_after lent.bytes lent.answers lent.tried)
            (tried_words_after lent.bytes lent.answers lent.tried),
        record { found_is = refl; answers_are = refl; tried_are = refl },
      );
      right = outcome_right;
      only = λ lent result other a b. no_second_past lent result other (right_outcome lent result a) (right_outcome lent other b);
    }

-- the place is small: a task's, or a byte's
pub found_place_law : (lent : Call) (result : Left) → PastOutcome lent result → found_place result.found < 65536
found_place_law lent result o = within result.found refl (outcome_right lent result o)
  where
    few : Written lent result → (f : Found) → result.found ≡ f → found_place f < 65536
    few w f e =
        let head = w.readable.right.head in
        omega (
          arith,
          ap found_place (sym e ∙ result_given (word_of result.answers) (task_count lent.bytes) result.found w.found_right),
          result_place (word_of result.answers) (task_count lent.bytes),
          (head.counts task_count_field).high,
          (layout_sound lent.bytes head.version).few,
        )

    within : (f : Found) → result.found ≡ f → FoundRight lent result f → found_place f < 65536
    within (Refused r) e d = refusal_place 4 lent.bytes (length lent.answers) (length lent.tried) r d.0
    within Delayed e d = omega arith
    within Schedulable e w = omega arith
    within (Late place) e w = few w (Late place) e
    within (Open place) e w = few w (Open place) e
