-- The same bytes in version 2 or 3 get the same answer and words.
-- Assumes nothing.
use Prim.Native.Nat.{ℕ, ◌≤◌}
use mathlib.Core.Path.{◌≡◌}
use mathlib.Core.List.{List, ◌∷◌}
use lib.Dec.{eqb}
use lib.ListN.{length}
use Rattle.model.specs.Lists.{filled, largest_to}
use Rattle.tables.specs.Layout.{task_count}
use Rattle.tables.proofs.VersionLaws.{tasks_same, table_same, check_same, in_three}
use Rattle.jobs.specs.Overlaps.{longest_of, tried_of}
use Rattle.overlaps.specs.Outcome.{result_of, is_calm, found_for, words_after, found_of, answers_after, tried_words_after}
use Rattle.overlaps.specs.Statements.{PastInVersionThree}

module _ (rest : List ℕ) (few : task_count (2 ∷ rest) ≤ 32) where
  calm_same : is_calm (2 ∷ rest) ≡ is_calm (3 ∷ rest)
  calm_same = λ j. eqb (largest_to (λ (i : ℕ). (tasks_same rest j i).latest) (task_count (2 ∷ rest))) 0

  found_same : (answers tried : ℕ) → found_of (2 ∷ rest) answers tried ≡ found_of (3 ∷ rest) answers tried
  unfolding found_of
  found_same answers tried =
      λ j. found_for (check_same rest few 4 answers tried j) (calm_same j) (result_of (longest_of (table_same rest j)) (task_count (2 ∷ rest)))

  answers_same : (answers tried : List ℕ) → answers_after (2 ∷ rest) answers tried ≡ answers_after (3 ∷ rest) answers tried
  unfolding answers_after
  answers_same answers tried =
      λ j.
      words_after (check_same rest few 4 (length answers) (length tried) j) (calm_same j)
      (filled (longest_of (table_same rest j)) (task_count (2 ∷ rest)) answers) answers

  tried_same : (answers tried : List ℕ) → tried_words_after (2 ∷ rest) answers tried ≡ tried_words_after (3 ∷ rest) answers tried
  unfolding tried_words_after
  tried_same answers tried =
      λ j.
      words_after (check_same rest few 4 (length answers) (length tried) j) (calm_same j)
      (filled (tried_of (table_same rest j)) (task_count (2 ∷ rest)) tried) tried

pub past_in_version_three : PastInVersionThree
past_in_version_three =
    record {
      same_found = λ bytes version few answers tried.
          in_three (λ (b : List ℕ). found_of b answers tried) (λ rest h. found_same rest h answers tried) bytes version few;
      same_answers = λ bytes version few answers tried.
          in_three (λ (b : List ℕ). answers_after b answers tried) (λ rest h. answers_same rest h answers tried) bytes version few;
      same_tried = λ bytes version few answers tried.
          in_three (λ (b : List ℕ). tried_words_after b answers tried) (λ rest h. tried_same rest h answers tried) bytes version few;
    }
