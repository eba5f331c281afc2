-- Numbers that are printed are read back: whatever separators stand between them.
-- Assumes nothing.
use Rattle.std.specs.Prelude.{ℕ, ◌≤◌, ◌<◌, ◌≡◌, Bool, true, List, [], ◌∷◌, ◌++◌, map, length, get_or}
use Rattle.model.specs.Choice.{both}
use Rattle.printing.specs.Text.{decimal_of}
use Rattle.scanning.specs.Reading.{numbers, largest, is_separator, reading_of}

-- does a text hold nothing but separators?
unfoldable pub separators_only : List ℕ → Bool
separators_only [] = true
separators_only (byte ∷ rest) = both (is_separator byte) (separators_only rest)

-- a number, and what stands between it and the next
pub record Spaced : Type 0 where
  pub value : ℕ
  pub gap : List ℕ

abbrev pub spaced : ℕ → List ℕ → Spaced
spaced value gap = record { value = value; gap = gap }

abbrev pub value_in : Spaced → ℕ
value_in part = part.value

-- the number is no larger than can be read, and at least one separator stands behind it
pub record Apart (part : Spaced) : Type 0 where
  pub fits : part.value ≤ largest
  pub some : 0 < length part.gap
  pub separates : separators_only part.gap ≡ true

abbrev pub EachApart : List Spaced → Type 0
EachApart parts = (i : ℕ) → i < length parts → Apart (get_or parts i (spaced 0 []))

-- the digits of each number, and its gap behind them
unfoldable pub spaced_text : List Spaced → List ℕ
spaced_text [] = []
spaced_text (part ∷ parts) = decimal_of part.value ++ (part.gap ++ spaced_text parts)

-- each number's digits on a line of their own, as `printing` prints them
unfoldable pub lines_of : List ℕ → List ℕ
lines_of [] = []
lines_of (word ∷ words) = decimal_of word ++ (10 ∷ lines_of words)

abbrev pub EachFits : List ℕ → Type 0
EachFits words = (i : ℕ) → i < length words → get_or words i 0 ≤ largest

-- The proof is in proofs/BackLaws.antt.
pub record ReadsBack : Type 0 where
  -- one number to a line
  pub lines : (words : List ℕ) → EachFits words → reading_of (lines_of words) ≡ numbers words
  -- any gaps, and separators before the first number
  pub any_gaps : (lead : List ℕ) (parts : List Spaced) → separators_only lead ≡ true → EachApart parts →
      reading_of (lead ++ spaced_text parts) ≡ numbers (map value_in parts)
  -- the text may end behind the last number's digits
  pub last : (lead : List ℕ) (parts : List Spaced) (word : ℕ) → separators_only lead ≡ true → EachApart parts → word ≤ largest →
      reading_of (lead ++ (spaced_text parts ++ decimal_of word)) ≡ numbers (map value_in parts ++ (word ∷ []))
