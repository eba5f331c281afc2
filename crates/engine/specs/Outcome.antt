-- What `play` answers and leaves in its one slice, for any bytes and any slice (SPECIFICATION 9; document 02, L1 and L6).
-- Assumes nothing.
use Rattle.std.specs.Prelude.{ℕ, ◌-◌, ◌≡◌, Bool, not, List, [], ◌∷◌, eqb, ltb, length}
use Rattle.model.specs.Choice.{both}
use Rattle.model.specs.Lists.{filled, largest_to}
use Rattle.model.specs.Search.{any}
use Rattle.tables.specs.declared.Refusal.TheVariants.{NotPlayable}
use Rattle.tables.specs.Layout.{task_count, row_count, tasks_of, priority_in, latest_in}
use Rattle.tables.specs.Refusals.{Check, unless, first_in}
use Rattle.tables.specs.Checks.{table_check}
use Rattle.answering.specs.declared.Verdict.{Verdict}
use Rattle.answering.specs.Results.{result_of}
use Rattle.response.specs.Outcome.{verdict_for, words_after}
use Rattle.engine.specs.Run.{engine_answer}

-- has the task at place i the priority of the task before it?
abbrev pub tied_at : (ℕ → ℕ) → ℕ → Bool
tied_at priority i = both (ltb 0 i) (eqb (priority i) (priority (i - 1)))

-- no row, no latest delay above 0 (so no earliest either, which is at most the latest), and no tie: priorities do not rise, so that equal
-- ones stand together
abbrev pub is_plain : List ℕ → Bool
is_plain bytes =
    both (eqb (row_count bytes) 0)
    (both (eqb (largest_to (latest_in bytes) (task_count bytes)) 0) (not (any (tied_at (priority_in bytes)) (task_count bytes))))

-- "Any nonzero jitter or delay, or any row, gets a new refusal 9, after 8, place 0", and "L1's engine refuses ties with 9" (document 02, L6):
-- the analysis's checks, with the one slice for both of its slices, and then that one
unfoldable pub play_check : List ℕ → ℕ → Check
play_check bytes answers = first_in (table_check bytes answers answers ∷ unless (is_plain bytes) NotPlayable ∷ [])

-- "to give the equation's answers and result, in one answer slice"; "no word changed" where it refuses, and later words stay
unfoldable pub play_verdict : List ℕ → ℕ → Verdict
play_verdict bytes answers = verdict_for (play_check bytes answers) (result_of (engine_answer (tasks_of bytes)) (task_count bytes))

unfoldable pub play_words : List ℕ → List ℕ → List ℕ
play_words bytes answers =
    words_after (play_check bytes (length answers)) (filled (engine_answer (tasks_of bytes)) (task_count bytes) answers) answers

-- The whole outcome: the verdict, and every word of the slice.
pub record Played (bytes answers : List ℕ) (verdict : Verdict) (left : List ℕ) : Type 0 where
  pub verdict_is : verdict ≡ play_verdict bytes (length answers)
  pub answers_are : left ≡ play_words bytes answers
