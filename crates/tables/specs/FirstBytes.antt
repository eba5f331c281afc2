-- The first bytes of a table tell all: what stands behind the 4,590th changes nothing (SPECIFICATION 13.13; document 02, L11). The proof
-- is in proofs/FirstLaws.antt.
-- Assumes nothing.
use Rattle.std.specs.Prelude.{ℕ, ◌<◌, ◌≡◌, List, length, take, Err}
use Rattle.tables.specs.declared.Refusal.{Refusal}
use Rattle.tables.specs.Checks.{head_check}

-- "Bytes after the 4,590th are dropped": one byte more is kept than the longest table has (document 02, L9: 5 + 21 · 200 + 6 · 64), so that
-- too long stays too long
abbrev pub most_kept : ℕ
most_kept = 4590

abbrev pub kept_of : List ℕ → List ℕ
kept_of bytes = take most_kept bytes

-- both are refused by their heads, and alike
pub record AlikeRefused (bytes others : List ℕ) : Type 0 where
  pub refusal : Refusal
  pub one : head_check bytes ≡ Err refusal
  pub other : head_check others ≡ Err refusal

-- "with the same refusals"
abbrev pub LongAlike : Type 0
LongAlike = (bytes : List ℕ) → most_kept < length bytes → AlikeRefused bytes (kept_of bytes)
