-- What a call of the analysis from C answers and leaves.
-- Assumes nothing.
use Rattle.std.specs.Prelude.{ℕ, ◌≡◌, List, length}
use Rattle.equation.specs.declared.Start.{Start}
use Rattle.response.specs.Verdicts.{packed}
use Rattle.response.specs.Outcome.{verdict_of, answers_after, rounds_after}

-- The whole outcome from a start, as C sees it.
pub record PackedOutcome (start : Start) (bytes answers rounds : List ℕ) (number : ℕ) (answers_left rounds_left : List ℕ) : Type 0 where
  pub verdict_is : number ≡ packed (verdict_of bytes (length answers) (length rounds))
  pub answers_are : answers_left ≡ answers_after bytes answers rounds
  pub rounds_are : rounds_left ≡ rounds_after start bytes answers rounds
