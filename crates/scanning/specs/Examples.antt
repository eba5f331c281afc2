-- Texts and what they are read as, counted by hand: as rows of one list under one statement, which the checker computes. The proof is in
-- proofs/ExampleLaws.antt.
-- Assumes nothing.
use Rattle.std.specs.Prelude.{ℕ, ◌≡◌}
use mathlib.Core.List.{List, [], ◌∷◌, map, flatten}
use Rattle.printing.specs.Text.{bytes_of}
use Rattle.scanning.specs.Reading.{Reading, numbers, unreadable, reading_of}

pub record Example : Type 0 where
  pub text : List ℕ
  pub reading : Reading

abbrev pub reads : List ℕ → Reading → Example
reads text reading = record { text = text; reading = reading }

unfoldable pub examples : List Example
examples =
    -- nothing, and nothing but separators
    reads (bytes_of "") (numbers [])
    ∷ reads (bytes_of " ,\t\r\n") (numbers [])
    -- one digit, with the text's end behind it
    ∷ reads (bytes_of "7") (numbers (7 ∷ []))
    -- each separator alone between two numbers, and a line end of two characters
    ∷ reads (bytes_of "1,2 3\t4\n5\r6\r\n70") (numbers (1 ∷ 2 ∷ 3 ∷ 4 ∷ 5 ∷ 6 ∷ 70 ∷ []))
    -- a run of separators holds no number, nor does one at the beginning or the end
    ∷ reads (bytes_of ",,5, ,6,") (numbers (5 ∷ 6 ∷ []))
    -- leading zeros, more of them than a number has digits, and zero itself
    ∷ reads (bytes_of "007 0 00") (numbers (7 ∷ 0 ∷ 0 ∷ []))
    ∷ reads (bytes_of "0000000000000000000000000000005") (numbers (5 ∷ []))
    -- the largest number, also behind zeros, and one more
    ∷ reads (bytes_of "4294967295") (numbers (4294967295 ∷ []))
    ∷ reads (bytes_of "00000000004294967295") (numbers (4294967295 ∷ []))
    ∷ reads (bytes_of "4294967296") (unreadable 0)
    -- a number that is too large is told at its first byte, a zero if that stands there, before what stands behind it
    ∷ reads (bytes_of "1 04294967296 x") (unreadable 2)
    ∷ reads (bytes_of "99999999999x") (unreadable 0)
    -- another character is told at its own byte, also inside a number
    ∷ reads (bytes_of "12x") (unreadable 2)
    ∷ reads (bytes_of "1.5") (unreadable 1)
    ∷ reads (bytes_of "3 -1") (unreadable 2)
    -- the characters next to the digits, and the least and the greatest byte
    ∷ reads (47 ∷ []) (unreadable 0)
    ∷ reads (48 ∷ 57 ∷ 58 ∷ []) (unreadable 2)
    ∷ reads (32 ∷ 0 ∷ []) (unreadable 1)
    ∷ reads (49 ∷ 10 ∷ 255 ∷ []) (unreadable 2)
    -- pieces, one of them empty, and a number that is cut in two
    ∷ reads (flatten (bytes_of "4" ∷ bytes_of "2," ∷ bytes_of "" ∷ bytes_of "7" ∷ [])) (numbers (42 ∷ 7 ∷ []))
    ∷ []

abbrev pub reading_found : Example → Reading
reading_found example = reading_of example.text

abbrev pub reading_given : Example → Reading
reading_given example = example.reading

abbrev pub ExamplesRight : Type 0
ExamplesRight = map reading_found examples ≡ map reading_given examples
