-- The second analysis over the columns that hold a decoded table. These exist for the contracts of functions that know no bytes. What is to be
-- believed is `longest_of` and `tried_of` (crates/jobs/specs/Overlaps.antt), of a table; that both agree for the columns of every accepted table
-- is proved in proofs/ColumnLaws.antt.
-- Assumes nothing.
use Rattle.std.specs.Prelude.{ℕ, ◌≡◌, get_or}
use Rattle.model.specs.Lists.{filled}
use Rattle.answering.specs.Slices.{Decoded, loads_in, Slice}
use Rattle.jobs.specs.Overlaps.{Studied, longest, tried}
use Rattle.jobs.specs.Slices.{studied}
use Rattle.overlaps.specs.declared.Found.{Found}
use Rattle.overlaps.specs.Outcome.{result_of}

-- the task at place i of n
abbrev pub studied_in : Decoded → ℕ → ℕ → Studied
studied_in d n i = studied (get_or d.held i 0) (get_or d.costs i 0) (get_or d.periods i 0) (get_or d.deadlines i 0) (loads_in d n i)

unfoldable pub longest_in : Decoded → ℕ → ℕ → ℕ
longest_in d n i = longest (studied_in d n i)

unfoldable pub tried_in : Decoded → ℕ → ℕ → ℕ
tried_in d n i = tried (studied_in d n i)

-- what is found, and the first n words of both slices, are those of the decoded table
pub record AllFound (d : Decoded) (n : ℕ) (found : Found) (answers counts : Slice) : Type 0 where
  pub found_is : found ≡ result_of (longest_in d n) n
  pub answers_are : answers.after ≡ filled (longest_in d n) n answers.before
  pub counts_are : counts.after ≡ filled (tried_in d n) n counts.before
