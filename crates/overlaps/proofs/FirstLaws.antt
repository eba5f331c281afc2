-- The second analysis needs the first 4,590 bytes only: a longer table is refused for its head.
-- Assumes nothing.
use Rattle.std.specs.Prelude.{Err}
use Prim.Native.Nat.{ℕ}
use mathlib.Core.Path.{◌≡◌, refl, sym}
use mathlib.Core.List.{List}
use lib.ListN.{length}
use Rattle.tables.specs.declared.Refusal.{Refusal}
use Rattle.tables.specs.Checks.{head_check}
use Rattle.tables.proofs.OrderLaws.{head_decides, read_decides}
use Rattle.tables.proofs.FirstLaws.{kept_alike}
use Rattle.overlaps.specs.declared.Found.TheVariants.{Refused}
use Rattle.overlaps.specs.Outcome.{past_check, found_of, answers_after, tried_words_after}
use Rattle.overlaps.specs.Statements.{PastOfFirstBytes}

module _ (bytes : List ℕ) (refusal : Refusal) (e : head_check bytes ≡ Err refusal) where
  refused : (answers tried : ℕ) → past_check bytes answers tried ≡ Err refusal
  refused answers tried = read_decides 4 bytes answers tried refusal (head_decides 4 bytes refusal (sym e))

  refused_found : (answers tried : ℕ) → found_of bytes answers tried ≡ Refused refusal
  unfolding found_of
  refused_found answers tried = rw (refused answers tried) refl

  module _ (answers tried : List ℕ) where
    refused_answers : answers_after bytes answers tried ≡ answers
    unfolding answers_after
    refused_answers = rw (refused (length answers) (length tried)) refl

    refused_tried : tried_words_after bytes answers tried ≡ tried
    unfolding tried_words_after
    refused_tried = rw (refused (length answers) (length tried)) refl

pub past_of_first_bytes : PastOfFirstBytes
past_of_first_bytes =
    record {
      same_found =
          λ bytes answers tried. kept_alike (λ (b : List ℕ). found_of b answers tried) Refused (λ b r e. refused_found b r e answers tried) bytes;
      same_answers =
          λ bytes answers tried.
          kept_alike (λ (b : List ℕ). answers_after b answers tried) (λ (r : Refusal). answers) (λ b r e. refused_answers b r e answers tried) bytes;
      same_tried =
          λ bytes answers tried.
          kept_alike (λ (b : List ℕ). tried_words_after b answers tried) (λ (r : Refusal). tried) (λ b r e. refused_tried b r e answers tried) bytes;
    }
