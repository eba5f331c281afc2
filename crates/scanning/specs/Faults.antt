-- What it means that a text can't be read from a byte on.
-- Assumes nothing.
use Rattle.std.specs.Prelude.{ℕ, ◌+◌, ◌-◌, ◌*◌, ◌≤◌, ◌<◌, ◌≡◌, Bool, true, false, ◌⊎◌, List, [], ◌∷◌, eqb, length, get_or, take, drop}
use Rattle.model.specs.Choice.{both, either}
use Rattle.scanning.specs.Reading.{numbers, unreadable, largest, is_digit, is_separator, reading_of}

-- does a text hold nothing but digits?
unfoldable pub digits_only : List ℕ → Bool
digits_only [] = true
digits_only (byte ∷ rest) = both (is_digit byte) (digits_only rest)

-- the number that these digits make of one that stands before them, however large it is
unfoldable pub with_digits : ℕ → List ℕ → ℕ
with_digits value [] = value
with_digits value (byte ∷ rest) = with_digits (10 * value + (byte - 48)) rest

-- so many bytes from a place on
abbrev pub bytes_from : List ℕ → ℕ → ℕ → List ℕ
bytes_from text place count = take count (drop place text)

-- can a number begin here: at the text's first byte, or behind a separator?
unfoldable pub may_begin : List ℕ → ℕ → Bool
may_begin text place = either (eqb place 0) (is_separator (get_or text (place - 1) 0))

-- a byte that is no digit and no separator
pub record Foreign (text : List ℕ) (place : ℕ) : Type 0 where
  pub within : place < length text
  pub no_digit : is_digit (get_or text place 0) ≡ false
  pub no_separator : is_separator (get_or text place 0) ≡ false

-- a number begins here whose first `count` digits already make it too large
pub record TooLarge (text : List ℕ) (place count : ℕ) : Type 0 where
  pub within : place + count ≤ length text
  pub begins : may_begin text place ≡ true
  pub digits : digits_only (bytes_from text place count) ≡ true
  pub large : largest < with_digits 0 (bytes_from text place count)

-- all that stands before the place can be read, and what stands there can't
pub record Fault (text : List ℕ) (place : ℕ) : Type 0 where
  pub before : (values : List ℕ) × (reading_of (take place text) ≡ numbers values)
  pub here : Foreign text place ⊎ ((count : ℕ) × TooLarge text place count)

-- A text is unreadable at a place just where it has a fault there. The proof is in proofs/FaultLaws.antt.
pub record UnreadableMeans : Type 0 where
  pub told : (text : List ℕ) (place : ℕ) → reading_of text ≡ unreadable place → Fault text place
  pub within : (text : List ℕ) (place : ℕ) → reading_of text ≡ unreadable place → place < length text
  pub all_told : (text : List ℕ) (place : ℕ) → Fault text place → reading_of text ≡ unreadable place
