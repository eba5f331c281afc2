-- "Bytes after the 4,590th are dropped, with the same refusals" (SPECIFICATION 13.13; document 02, L11): whatever is lent, the analysis of
-- the first 4,590 bytes says and leaves what that of all the bytes does. The proof is in proofs/FirstLaws.antt.
-- Assumes nothing.
use Rattle.std.specs.Prelude.{ℕ, ◌≡◌, List}
use Rattle.tables.specs.FirstBytes.{kept_of}
use Rattle.equation.specs.declared.Start.{Start}
use Rattle.response.specs.Outcome.{verdict_of, answers_after, rounds_after}

pub record FirstBytes : Type 0 where
  pub same_verdict : (bytes : List ℕ) (answers rounds : ℕ) → verdict_of (kept_of bytes) answers rounds ≡ verdict_of bytes answers rounds
  pub same_answers : (bytes answers rounds : List ℕ) → answers_after (kept_of bytes) answers rounds ≡ answers_after bytes answers rounds
  pub same_rounds : (start : Start) (bytes answers rounds : List ℕ) →
      rounds_after start (kept_of bytes) answers rounds ≡ rounds_after start bytes answers rounds
