-- What `analyse_past_period` answers and leaves in both slices, for any bytes and slices (SPECIFICATION 13.8; document 02, L8).
-- Assumes nothing.
use Rattle.std.specs.Prelude.{ℕ, ◌≡◌, Bool, true, false, List, eqb, length, Ok, Err}
use Rattle.model.specs.Choice.{pick}
use Rattle.model.specs.Lists.{filled, largest_to}
use Rattle.model.specs.Search.{first_of}
use Rattle.model.specs.declared.Place.{Place}
use Rattle.model.specs.Tables.{open_word}
use Rattle.tables.specs.Layout.{task_count, table_of, latest_in}
use Rattle.tables.specs.Refusals.{Check, at}
use Rattle.tables.specs.Checks.{table_check_spanning}
use Rattle.overlaps.specs.declared.Found.{Found}
use Rattle.overlaps.specs.declared.Found.TheVariants.{Refused, Delayed, Schedulable, Late, Open}
use Rattle.jobs.specs.Overlaps.{longest_of, tried_of}

abbrev pub is_schedulable : Found → Bool
is_schedulable (Refused refusal) = false
is_schedulable Delayed = false
is_schedulable Schedulable = true
is_schedulable (Late place) = false
is_schedulable (Open place) = false

-- what a task's word says of it
abbrev pub said_by : ℕ → Place → Found
said_by word place = pick (eqb word 0) (Late place) (pick (eqb word open_word) (Open place) Schedulable)

abbrev pub said_at : (ℕ → ℕ) → ℕ → Found
said_at words i = said_by (words i) (at i)

-- "The result is "schedulable", or "late" or "open" with the place of the first such task."
abbrev pub result_of : (ℕ → ℕ) → ℕ → Found
result_of words n = first_of is_schedulable Schedulable (said_at words) n

-- "D may be up to 4T here and at most 1,000,000": refusals 1 to 8, where a deadline may span four periods
abbrev pub past_check : List ℕ → ℕ → ℕ → Check
past_check bytes answers tried = table_check_spanning 4 bytes answers tried

-- has no task a delay? (No earliest delay is above its latest.)
abbrev pub is_calm : List ℕ → Bool
is_calm bytes = eqb (largest_to (latest_in bytes) (task_count bytes)) 0

-- "Any nonzero delay is refused with 11, after 8, place 0"
abbrev pub found_for : Check → Bool → Found → Found
found_for (Err refusal) calm result = Refused refusal
found_for (Ok _) calm result = pick calm result Delayed

unfoldable pub found_of : List ℕ → ℕ → ℕ → Found
found_of bytes answers tried =
    found_for (past_check bytes answers tried) (is_calm bytes) (result_of (longest_of (table_of bytes)) (task_count bytes))

-- "no word changed" where it refuses; else words 0 to n − 1 are written, and later words stay
abbrev pub words_after : Check → Bool → List ℕ → List ℕ → List ℕ
words_after (Err refusal) calm written old = old
words_after (Ok _) calm written old = pick calm written old

unfoldable pub answers_after : List ℕ → List ℕ → List ℕ → List ℕ
answers_after bytes answers tried =
    words_after (past_check bytes (length answers) (length tried)) (is_calm bytes) (filled (longest_of (table_of bytes)) (task_count bytes) answers) answers

unfoldable pub tried_words_after : List ℕ → List ℕ → List ℕ → List ℕ
tried_words_after bytes answers tried =
    words_after (past_check bytes (length answers) (length tried)) (is_calm bytes) (filled (tried_of (table_of bytes)) (task_count bytes) tried) tried

-- what a call is lent: the bytes of a table, and the words of both slices as they are before
pub record Call : Type 0 where
  pub bytes : List ℕ
  pub answers : List ℕ
  pub tried : List ℕ

-- what it says, and the words of both slices as it leaves them
pub record Left : Type 0 where
  pub found : Found
  pub answers : List ℕ
  pub tried : List ℕ

abbrev pub lending : (bytes answers tried : List ℕ) → Call
lending bytes answers tried = record { bytes = bytes; answers = answers; tried = tried }

abbrev pub leaving : (found : Found) (answers tried : List ℕ) → Left
leaving found answers tried = record { found = found; answers = answers; tried = tried }

-- The whole outcome: what is found, and every word of both slices.
pub record PastOutcome (lent : Call) (result : Left) : Type 0 where
  pub found_is : result.found ≡ found_of lent.bytes (length lent.answers) (length lent.tried)
  pub answers_are : result.answers ≡ answers_after lent.bytes lent.answers lent.tried
  pub tried_are : result.tried ≡ tried_words_after lent.bytes lent.answers lent.tried
