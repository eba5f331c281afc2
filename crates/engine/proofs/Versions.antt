-- The same bytes in version 2 or 3 are played alike.
-- Assumes nothing.
use Prim.Native.Nat.{ℕ, ◌≤◌}
use mathlib.Core.Path.{◌≡◌}
use mathlib.Core.Bool.{Bool, not}
use mathlib.Core.List.{List, [], ◌∷◌}
use lib.Dec.{eqb}
use lib.ListN.{length}
use Rattle.model.specs.Choice.{both}
use Rattle.model.specs.Lists.{filled, largest_to}
use Rattle.model.specs.Search.{any}
use Rattle.model.specs.Tables.{Task}
use Rattle.tables.specs.declared.Refusal.TheVariants.{NotPlayable}
use Rattle.tables.specs.Layout.{task_count, row_count}
use Rattle.tables.specs.Refusals.{unless, first_in}
use Rattle.tables.proofs.VersionLaws.{tasks_same, table_same, check_same, in_three}
use Rattle.answering.specs.Results.{result_of}
use Rattle.response.specs.Outcome.{verdict_for, words_after}
use Rattle.engine.specs.Run.{engine_answer}
use Rattle.engine.specs.Outcome.{tied_at, play_check, play_verdict, play_words}
use Rattle.engine.specs.Statements.{PlayInVersionThree}

-- no row, no delay and no tie, by the tasks as they are read
abbrev plain_by : (rows n : ℕ) (task : ℕ → Task) → Bool
plain_by rows n task =
    both (eqb rows 0) (both (eqb (largest_to (λ i. (task i).latest) n) 0) (not (any (tied_at (λ i. (task i).priority)) n)))

module _ (rest : List ℕ) (few : task_count (2 ∷ rest) ≤ 32) where
  play_check_same : (answers : ℕ) → play_check (2 ∷ rest) answers ≡ play_check (3 ∷ rest) answers
  unfolding play_check
  play_check_same answers =
      λ j.
      first_in (check_same rest few 1 answers answers j
      ∷ unless (plain_by (row_count (2 ∷ rest)) (task_count (2 ∷ rest)) (tasks_same rest j)) NotPlayable ∷ [])

  verdict_same : (answers : ℕ) → play_verdict (2 ∷ rest) answers ≡ play_verdict (3 ∷ rest) answers
  unfolding play_verdict
  verdict_same answers =
      λ j. verdict_for (play_check_same answers j) (result_of (engine_answer (table_same rest j).tasks) (task_count (2 ∷ rest)))

  words_same : (answers : List ℕ) → play_words (2 ∷ rest) answers ≡ play_words (3 ∷ rest) answers
  unfolding play_words
  words_same answers =
      λ j. words_after (play_check_same (length answers) j) (filled (engine_answer (table_same rest j).tasks) (task_count (2 ∷ rest)) answers) answers

pub play_in_version_three : PlayInVersionThree
play_in_version_three =
    record {
      same_verdict = λ bytes version few answers.
          in_three (λ (b : List ℕ). play_verdict b answers) (λ rest h. verdict_same rest h answers) bytes version few;
      same_words = λ bytes version few answers.
          in_three (λ (b : List ℕ). play_words b answers) (λ rest h. words_same rest h answers) bytes version few;
    }
