-- Many tables end to end in one file: where one ends and the next begins (SPECIFICATION 13.12; document 02, L10). The proofs are in
-- proofs/CuttingLaws.antt.
-- Assumes nothing.
use Rattle.std.specs.Prelude.{ℕ, zero, suc, ◌≤◌, ◌≡◌, Bool, ltb, length, take, drop}
use mathlib.Core.List.{List, [], ◌∷◌, ◌++◌, flatten}
use Rattle.model.specs.Choice.{pick, either}
use Rattle.tables.specs.Layout.{stated_length}

-- "a stated length below 5 or past the end, or one to four bytes left over": no table stands at the beginning of these bytes. None does
-- where nothing is left, either.
abbrev pub is_closed : List ℕ → Bool
is_closed rest = either (ltb (length rest) 5) (either (ltb (stated_length rest) 5) (ltb (length rest) (stated_length rest)))

-- "stepping by each stated length": the tables at the beginning of these bytes, no more than `most`, and what is left behind the last
unfoldable pub tables_from : ℕ → List ℕ → List (List ℕ)
tables_from zero rest = []
tables_from (suc most) rest =
    pick (is_closed rest) [] (take (stated_length rest) rest ∷ tables_from most (drop (stated_length rest) rest))

unfoldable pub left_from : ℕ → List ℕ → List ℕ
left_from zero rest = rest
left_from (suc most) rest = pick (is_closed rest) rest (left_from most (drop (stated_length rest) rest))

-- and of a whole file, which has no more tables than bytes
abbrev pub tables_in : List ℕ → List (List ℕ)
tables_in bytes = tables_from (length bytes) bytes

abbrev pub left_in : List ℕ → List ℕ
left_in bytes = left_from (length bytes) bytes

-- "closes the report .. with a line "broken"": where something is left
abbrev pub is_broken : List ℕ → Bool
is_broken bytes = ltb 0 (length (left_in bytes))

-- The same without a search. A table begins the bytes. (That there are five follows from the rest; it is said because document 02 says it.)
pub record Begins (rest : List ℕ) : Type 0 where
  pub head : 5 ≤ length rest
  pub low : 5 ≤ stated_length rest
  pub inside : stated_length rest ≤ length rest

-- each piece is as long as it states, and no shorter than 5 bytes
pub record Stated (piece : List ℕ) : Type 0 where
  pub low : 5 ≤ length piece
  pub stated : stated_length piece ≡ length piece

abbrev pub AllStated : List (List ℕ) → Type 0
AllStated [] = Unit
AllStated (piece ∷ pieces) = Stated piece × AllStated pieces

-- The bytes are these pieces end to end and what is left, at the beginning of which no table stands.
pub record Cut (bytes : List ℕ) (pieces : List (List ℕ)) (left : List ℕ) : Type 0 where
  pub whole : flatten pieces ++ left ≡ bytes
  pub stated : AllStated pieces
  pub closed : ¬ Begins left

-- Any bytes are cut so, and in one way only.
pub record CutRight : Type 0 where
  pub cut : (bytes : List ℕ) → Cut bytes (tables_in bytes) (left_in bytes)
  pub only : (bytes : List ℕ) (pieces : List (List ℕ)) (left : List ℕ) → Cut bytes pieces left →
      (pieces ≡ tables_in bytes) × (left ≡ left_in bytes)
