-- The analysis needs the first 4,590 bytes only: a longer table is refused for its head, whatever stands behind it.
-- Assumes nothing.
use Rattle.std.specs.Prelude.{Err}
use Prim.Native.Nat.{ℕ}
use mathlib.Core.Path.{◌≡◌, refl, sym}
use mathlib.Core.List.{List}
use lib.ListN.{length}
use Rattle.tables.specs.declared.Refusal.{Refusal}
use Rattle.tables.specs.Checks.{head_check, table_check}
use Rattle.tables.proofs.OrderLaws.{head_decides, read_decides}
use Rattle.tables.proofs.FirstLaws.{kept_alike}
use Rattle.equation.specs.declared.Start.{Start}
use Rattle.answering.specs.declared.Verdict.TheVariants as verdict
use Rattle.response.specs.Outcome.{verdict_of, answers_after, rounds_after}
use Rattle.response.specs.FirstBytes.{FirstBytes}

module _ (bytes : List ℕ) (refusal : Refusal) (e : head_check bytes ≡ Err refusal) where
  refused : (answers rounds : ℕ) → table_check bytes answers rounds ≡ Err refusal
  refused answers rounds = read_decides 1 bytes answers rounds refusal (head_decides 1 bytes refusal (sym e))

  pub refused_verdict : (answers rounds : ℕ) → verdict_of bytes answers rounds ≡ verdict.Refused refusal
  unfolding verdict_of
  refused_verdict answers rounds = rw (refused answers rounds) refl

  module _ (answers rounds : List ℕ) where
    refused_answers : answers_after bytes answers rounds ≡ answers
    unfolding answers_after
    refused_answers = rw (refused (length answers) (length rounds)) refl

    refused_rounds : (start : Start) → rounds_after start bytes answers rounds ≡ rounds
    unfolding rounds_after
    refused_rounds start = rw (refused (length answers) (length rounds)) refl

pub first_bytes : FirstBytes
first_bytes =
    record {
      same_verdict =
          λ bytes answers rounds.
          kept_alike (λ (b : List ℕ). verdict_of b answers rounds) verdict.Refused (λ b r e. refused_verdict b r e answers rounds) bytes;
      same_answers =
          λ bytes answers rounds.
          kept_alike (λ (b : List ℕ). answers_after b answers rounds) (λ (r : Refusal). answers) (λ b r e. refused_answers b r e answers rounds) bytes;
      same_rounds =
          λ start bytes answers rounds.
          kept_alike (λ (b : List ℕ). rounds_after start b answers rounds) (λ (r : Refusal). rounds)
          (λ b r e. refused_rounds b r e answers rounds start) bytes;
    }
