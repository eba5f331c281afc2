-- What a text of whole decimal numbers is read as.
-- Assumes nothing.
use Rattle.std.specs.Prelude.{ℕ, suc, ◌+◌, ◌-◌, ◌*◌, Bool, List, [], ◌∷◌, leb, eqb}
use Rattle.model.specs.Choice.{pick, both, either}

-- a text is read as a list of numbers, or can't be read from a byte on
pub data Reading : Type 0 where
  numbers : List ℕ → Reading
  unreadable : ℕ → Reading

-- the largest number that can be read
abbrev pub largest : ℕ
largest = 4294967295

-- the characters `0` to `9`
unfoldable pub is_digit : ℕ → Bool
is_digit byte = both (leb 48 byte) (leb byte 57)

-- a blank, a tab, a comma, and the two characters of line ends
unfoldable pub is_separator : ℕ → Bool
is_separator byte = either (eqb byte 32) (either (eqb byte 9) (either (eqb byte 44) (either (eqb byte 10) (eqb byte 13))))

-- a number, and behind it what the rest is read as
abbrev pub prepend : ℕ → Reading → Reading
prepend value (numbers values) = numbers (value ∷ values)
prepend value (unreadable place) = unreadable place

-- The text from the byte at the place `at` on: outside of a number, and inside of one that began at `start` and is `value` so far.
-- (The `let` has the checker look only at the case that is picked.)
unfoldable mutual
  pub outside : ℕ → List ℕ → Reading
  outside at [] = numbers []
  outside at (byte ∷ rest) =
      let begun = inside (suc at) at (byte - 48) rest in
      let skipped = outside (suc at) rest in
      pick (is_digit byte) begun (pick (is_separator byte) skipped (unreadable at))

  pub inside : ℕ → ℕ → ℕ → List ℕ → Reading
  inside at start value [] = numbers (value ∷ [])
  inside at start value (byte ∷ rest) =
      let longer = 10 * value + (byte - 48) in
      let gone = inside (suc at) start longer rest in
      let ended = prepend value (outside (suc at) rest) in
      pick (is_digit byte) (pick (leb longer largest) gone (unreadable start)) (pick (is_separator byte) ended (unreadable at))

-- a text begins outside of a number
abbrev pub reading_of : List ℕ → Reading
reading_of text = outside 0 text
