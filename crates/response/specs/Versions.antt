-- Version 3 beside versions 1 and 2 (SPECIFICATION 13.9; document 02, L9): "The version byte alone decides which layout and limits hold."
-- The proofs are in proofs/Versions.antt.
-- Assumes nothing.
use Rattle.std.specs.Prelude.{ℕ, ◌≤◌, ◌≡◌, ◌⊎◌, List, length, set}
use Rattle.tables.specs.Layout.{version_of, task_count, table_of}
use Rattle.tables.specs.Meaning.{TableRight}
use Rattle.encoding.specs.Statements.{HasShape}
use Rattle.equation.specs.declared.Start.{Start}
use Rattle.response.specs.Outcome.{Call, Left, lending, Outcome, verdict_of, answers_after, rounds_after}

-- the same bytes, with 3 for their version
abbrev pub as_three : List ℕ → List ℕ
as_three bytes = set bytes 0 3

abbrev pub lent_as_three : Call → Call
lent_as_three lent = lending (as_three lent.bytes) lent.answers lent.rounds

-- "Version 3 has version 2's layout": with at most 32 tasks the same bytes in either version, right or wrong, get the same verdict, which
-- is a refusal with its place too, and the same words.
pub record VersionThreeSame : Type 0 where
  -- however many tasks they have, they mean the same table
  pub reads : (bytes : List ℕ) → version_of bytes ≡ 2 → table_of (as_three bytes) ≡ table_of bytes
  pub same_verdict : (bytes : List ℕ) → version_of bytes ≡ 2 → task_count bytes ≤ 32 →
      (answers rounds : ℕ) → verdict_of (as_three bytes) answers rounds ≡ verdict_of bytes answers rounds
  pub same_answers : (bytes : List ℕ) → version_of bytes ≡ 2 → task_count bytes ≤ 32 →
      (answers rounds : List ℕ) → answers_after (as_three bytes) answers rounds ≡ answers_after bytes answers rounds
  pub same_rounds : (start : Start) (bytes : List ℕ) → version_of bytes ≡ 2 → task_count bytes ≤ 32 →
      (answers rounds : List ℕ) → rounds_after start (as_three bytes) answers rounds ≡ rounds_after start bytes answers rounds
  -- so that each outcome in one version is an outcome in the other
  pub same_outcome : (start : Start) (lent : Call) (result : Left) → version_of lent.bytes ≡ 2 → task_count lent.bytes ≤ 32 →
      Outcome start lent result → Outcome start (lent_as_three lent) result
  pub and_back : (start : Start) (lent : Call) (result : Left) → version_of lent.bytes ≡ 2 → task_count lent.bytes ≤ 32 →
      Outcome start (lent_as_three lent) result → Outcome start lent result

-- How many tasks the bytes of a table that breaks no rule have.
pub record VersionLimits : Type 0 where
  -- "Versions 1 and 2 keep their limit of 32."
  pub kept : (bytes : List ℕ) → (version_of bytes ≡ 1) ⊎ (version_of bytes ≡ 2) → TableRight bytes → task_count bytes ≤ 32
  -- "n up to 200, so up to 4,589 bytes"
  pub raised : (bytes : List ℕ) → version_of bytes ≡ 3 → TableRight bytes → (task_count bytes ≤ 200) × (length bytes ≤ 4589)
  -- and there is a table of 200 tasks and 64 rows, which has as many
  pub reached : (bytes : List ℕ) × HasShape 3 200 64 bytes × (length bytes ≡ 4589)
