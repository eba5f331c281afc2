-- Do two calls say and leave the same?
-- Assumes nothing.
use Rattle.std.specs.Prelude.{ℕ, Bool, true, false, List, [], ◌∷◌, eqb}
use Rattle.model.specs.Choice.{pick, both}
use Rattle.printing.specs.Text.{bytes_of}
use Rattle.answering.specs.declared.Verdict.{Verdict}
use Rattle.response.specs.Verdicts.{code_of, verdict_place}

-- are two lists the same, word by word?
unfoldable pub same_words : List ℕ → List ℕ → Bool
same_words [] [] = true
same_words [] (y ∷ ys) = false
same_words (x ∷ xs) [] = false
same_words (x ∷ xs) (y ∷ ys) = both (eqb x y) (same_words xs ys)

-- the same verdict, by number and place, and the same words
abbrev pub same_outcome : (verdict other : Verdict) (answers others : List ℕ) → Bool
same_outcome verdict other answers others =
    both (eqb (code_of verdict) (code_of other)) (both (eqb (verdict_place verdict) (verdict_place other)) (same_words answers others))

-- the line that says so where they do not
abbrev pub unless_agreed : Bool → List ℕ
unless_agreed agreed = pick agreed [] (bytes_of "differs\n")
