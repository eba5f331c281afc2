-- The engine needs the first 4,590 bytes only: a longer table is refused for its head.
-- Assumes nothing.
use Rattle.std.specs.Prelude.{Err}
use Prim.Native.Nat.{ℕ}
use mathlib.Core.Path.{◌≡◌, refl, sym}
use mathlib.Core.List.{List}
use lib.ListN.{length}
use Rattle.tables.specs.declared.Refusal.{Refusal}
use Rattle.tables.specs.Refusals.{first_in, or_else}
use Rattle.tables.specs.Checks.{head_check}
use Rattle.tables.proofs.OrderLaws.{head_decides, read_decides}
use Rattle.tables.proofs.FirstLaws.{kept_alike}
use Rattle.answering.specs.declared.Verdict.TheVariants.{Refused}
use Rattle.engine.specs.Outcome.{play_check, play_verdict, play_words}
use Rattle.engine.specs.Statements.{PlayOfFirstBytes}

module _ (bytes : List ℕ) (refusal : Refusal) (e : head_check bytes ≡ Err refusal) where
  refused : (answers : ℕ) → play_check bytes answers ≡ Err refusal
  unfolding play_check first_in or_else
  refused answers = rw (read_decides 1 bytes answers answers refusal (head_decides 1 bytes refusal (sym e))) refl

  refused_verdict : (answers : ℕ) → play_verdict bytes answers ≡ Refused refusal
  unfolding play_verdict
  refused_verdict answers = rw (refused answers) refl

  refused_words : (answers : List ℕ) → play_words bytes answers ≡ answers
  unfolding play_words
  refused_words answers = rw (refused (length answers)) refl

pub play_of_first_bytes : PlayOfFirstBytes
play_of_first_bytes =
    record {
      same_verdict = λ bytes answers. kept_alike (λ (b : List ℕ). play_verdict b answers) Refused (λ b r e. refused_verdict b r e answers) bytes;
      same_words =
          λ bytes answers. kept_alike (λ (b : List ℕ). play_words b answers) (λ (r : Refusal). answers) (λ b r e. refused_words b r e answers) bytes;
    }
