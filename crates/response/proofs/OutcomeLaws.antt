-- Which outcome each check leads to.
-- Assumes nothing.
use Rattle.std.specs.Prelude.{Ok, Err}
use Prim.Native.Nat.{ℕ, ◌≤◌, ◌<◌}
use mathlib.Core.Path.{◌≡◌, ◌∙◌, ap}
use mathlib.Core.Bool.{false}
use mathlib.Core.List.{List}
use lib.Dec.{leb}
use lib.ListN.{length}
use Rattle.model.specs.Choice.{both}
use Rattle.model.specs.Lists.{filled}
use Rattle.model.proofs.Filling.{filled_same}
use Rattle.model.proofs.First.{first_same}
use Rattle.tables.specs.declared.Refusal.{Refusal}
use Rattle.tables.specs.declared.Refusal.TheVariants.{NoRoom}
use Rattle.tables.specs.Layout.{task_count, table_of}
use Rattle.tables.specs.Refusals.{at}
use Rattle.tables.specs.Checks.{read_check, table_check}
use Rattle.tables.proofs.OrderLaws.{read_decides, room_decides, all_pass}
use Rattle.equation.specs.declared.Start.{Start}
use Rattle.answering.specs.declared.Verdict.{Verdict}
use Rattle.answering.specs.declared.Verdict.TheVariants as verdict
use Rattle.answering.specs.Results.{is_schedulable, result_of, late_if}
use Rattle.response.specs.Analysis.{answer_of, rounds_of}
use Rattle.response.specs.Outcome.{Call, Left, lending, leaving, Outcome, verdict_of, answers_after, rounds_after}
use Rattle.response.specs.Verdicts.{packed}
use Rattle.response.specs.Packing.{PackedOutcome}
use Rattle.answering.specs.Slices.{Decoded, answer_in, rounds_in, slice, Answered}

module _ (start : Start) (bytes answers rounds : List ℕ) where
  -- a refusal leaves both slices as they were
  refused : (r : Refusal) → table_check bytes (length answers) (length rounds) ≡ Err r →
      Outcome start (lending bytes answers rounds) (leaving (verdict.Refused r) answers rounds)
  unfolding verdict_of answers_after rounds_after
  refused r e = record { verdict_is = rw e; answers_are = rw e; rounds_are = rw e }

  pub read_refused : (r : Refusal) → Err r ≡ read_check 1 bytes → Outcome start (lending bytes answers rounds) (leaving (verdict.Refused r) answers rounds)
  read_refused r e = refused r (read_decides 1 bytes (length answers) (length rounds) r e)

  module _ (clean : read_check 1 bytes ≡ Ok tt) (n : ℕ) (counted : n ≡ task_count bytes) where
    pub no_room : both (leb n (length answers)) (leb n (length rounds)) ≡ false →
        Outcome start (lending bytes answers rounds) (leaving (verdict.Refused NoRoom) answers rounds)
    no_room e = refused NoRoom (room_decides 1 bytes (length answers) (length rounds) clean n counted e)

    module _ (answers_long : n ≤ length answers) (rounds_long : n ≤ length rounds) where
      accepted : table_check bytes (length answers) (length rounds) ≡ Ok tt
      accepted = all_pass 1 bytes (length answers) (length rounds) clean n counted answers_long rounds_long

      filled_all : (f g : ℕ → ℕ) (old : List ℕ) → ((i : ℕ) → i < n → f i ≡ g i) → filled f n old ≡ filled g (task_count bytes) old
      filled_all f g old same = filled_same f g n old same ∙ ap (λ (k : ℕ). filled g k old) counted

      -- answers that agree with the table's, task by task, are the outcome
      pub answered : (d : Decoded) (v : Verdict) (answers_left rounds_left : List ℕ) →
          Answered start d n v (slice answers answers_left) (slice rounds rounds_left) →
          ((i : ℕ) → i < n → answer_in d n i ≡ answer_of (table_of bytes) i) → ((i : ℕ) → i < n → rounds_in start d n i ≡ rounds_of start (table_of bytes) i) →
          Outcome start (lending bytes answers rounds) (leaving v answers_left rounds_left)
      unfolding verdict_of answers_after rounds_after
      answered d v answers_left rounds_left a answer round =
          record {
            verdict_is =
                rw accepted
                (a.verdict_is
                ∙ first_same is_schedulable verdict.Schedulable (λ i. late_if (answer_in d n i) (at i)) (λ i. late_if (answer_of (table_of bytes) i) (at i)) n
                (λ i h. ap (λ (x : ℕ). late_if x (at i)) (answer i h))
                ∙ ap (result_of (answer_of (table_of bytes))) counted);
            answers_are = rw accepted (a.answers_are ∙ filled_all (answer_in d n) (answer_of (table_of bytes)) answers answer);
            rounds_are = rw accepted (a.rounds_are ∙ filled_all (rounds_in start d n) (rounds_of start (table_of bytes)) rounds round);
          }

-- and with the verdict in one number it is what C sees
pub packed_is : (start : Start) (lent : Call) (result : Left) → Outcome start lent result → (number : ℕ) → number ≡ packed result.verdict →
    PackedOutcome start lent.bytes lent.answers lent.rounds number result.answers result.rounds
packed_is start lent result o number e =
    record { verdict_is = e ∙ ap packed o.verdict_is; answers_are = o.answers_are; rounds_are = o.rounds_are }
