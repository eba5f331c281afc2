-- What a call from C of the engine answers and leaves.
-- Assumes nothing.
use Rattle.std.specs.Prelude.{ℕ, ◌≡◌, List, length}
use Rattle.response.specs.Verdicts.{packed}
use Rattle.engine.specs.Outcome.{play_verdict, play_words}

-- The whole outcome, as C sees it.
pub record PackedPlay (bytes answers : List ℕ) (number : ℕ) (left : List ℕ) : Type 0 where
  pub verdict_is : number ≡ packed (play_verdict bytes (length answers))
  pub answers_are : left ≡ play_words bytes answers
