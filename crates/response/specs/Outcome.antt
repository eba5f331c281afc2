-- What `analyse_from` answers and leaves in both slices, for any start, bytes and slices (SPECIFICATION 6; document 01, "Refusals").
-- `analyse` is that with the default start.
-- Assumes nothing.
use Rattle.std.specs.Prelude.{ℕ, ◌≡◌, List, length, Ok, Err}
use Rattle.model.specs.Lists.{filled}
use Rattle.tables.specs.Refusals.{Check}
use Rattle.tables.specs.Layout.{task_count, table_of}
use Rattle.tables.specs.Checks.{table_check}
use Rattle.equation.specs.declared.Start.{Start}
use Rattle.answering.specs.declared.Verdict.{Verdict}
use Rattle.answering.specs.declared.Verdict.TheVariants.{Refused}
use Rattle.answering.specs.Results.{result_of}
use Rattle.response.specs.Analysis.{answer_of, rounds_of}

-- "A refusal returns the number and the place"; otherwise the result
abbrev pub verdict_for : Check → Verdict → Verdict
verdict_for (Ok _) result = result
verdict_for (Err refusal) result = Refused refusal

unfoldable pub verdict_of : List ℕ → ℕ → ℕ → Verdict
verdict_of bytes answers rounds =
    verdict_for (table_check bytes answers rounds) (result_of (answer_of (table_of bytes)) (task_count bytes))

-- "and changes no word. Otherwise words 0 to n−1 of each answer slice are written, .. later words stay"
abbrev pub words_after : Check → List ℕ → List ℕ → List ℕ
words_after (Ok _) written old = written
words_after (Err refusal) written old = old

-- "answers in the first and rounds in the second"
unfoldable pub answers_after : List ℕ → List ℕ → List ℕ → List ℕ
answers_after bytes answers rounds =
    words_after (table_check bytes (length answers) (length rounds)) (filled (answer_of (table_of bytes)) (task_count bytes) answers) answers

unfoldable pub rounds_after : Start → List ℕ → List ℕ → List ℕ → List ℕ
rounds_after start bytes answers rounds =
    words_after (table_check bytes (length answers) (length rounds)) (filled (rounds_of start (table_of bytes)) (task_count bytes) rounds) rounds

-- what a call is lent: the bytes of a table, and the words of both slices as they are before
pub record Call : Type 0 where
  pub bytes : List ℕ
  pub answers : List ℕ
  pub rounds : List ℕ

-- what it says, and the words of both slices as it leaves them
pub record Left : Type 0 where
  pub verdict : Verdict
  pub answers : List ℕ
  pub rounds : List ℕ

abbrev pub lending : (bytes answers rounds : List ℕ) → Call
lending bytes answers rounds = record { bytes = bytes; answers = answers; rounds = rounds }

abbrev pub leaving : (verdict : Verdict) (answers rounds : List ℕ) → Left
leaving verdict answers rounds = record { verdict = verdict; answers = answers; rounds = rounds }

-- The whole outcome: the verdict, and every word of both slices. Only the rounds depend on the start.
pub record Outcome (start : Start) (lent : Call) (result : Left) : Type 0 where
  pub verdict_is : result.verdict ≡ verdict_of lent.bytes (length lent.answers) (length lent.rounds)
  pub answers_are : result.answers ≡ answers_after lent.bytes lent.answers lent.rounds
  pub rounds_are : result.rounds ≡ rounds_after start lent.bytes lent.answers lent.rounds
