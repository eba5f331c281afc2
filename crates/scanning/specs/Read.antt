-- What reading the numbers of a text into lent words answers and leaves.
-- Assumes nothing.
use Rattle.std.specs.Prelude.{ℕ, ◌≡◌, Result, Ok, Err, List, ◌++◌, length, take, drop}
use Rattle.scanning.specs.declared.TextPlace.{TextPlace}
use Rattle.scanning.specs.declared.Unreadable.{Unreadable}
use Rattle.scanning.specs.Reading.{Reading, numbers, unreadable, reading_of}

abbrev pub place_at : ℕ → TextPlace
place_at place = record { 0 = place }

abbrev pub from_byte : TextPlace → Unreadable
from_byte place = record { 0 = place }

-- the answer is how many numbers there are, or the first byte of what can't be read
abbrev pub scanned_for : Reading → Result ℕ Unreadable
scanned_for (numbers values) = Ok (length values)
scanned_for (unreadable place) = Err (from_byte (place_at place))

-- the first words become the numbers that have room, and later words stay; a text that can't be read changes no word
abbrev pub words_after : Reading → List ℕ → List ℕ
words_after (numbers values) old = take (length old) values ++ drop (length values) old
words_after (unreadable place) old = old

pub record Read (text old : List ℕ) (result : Result ℕ Unreadable) (new : List ℕ) : Type 0 where
  pub result_is : result ≡ scanned_for (reading_of text)
  pub words_are : new ≡ words_after (reading_of text) old

-- No second answer satisfies it: the result and each word are determined. The proof is in proofs/ReadLaws.antt.
abbrev pub NoSecondRead : Type 0
NoSecondRead =
    (text old : List ℕ) (result other : Result ℕ Unreadable) (new another : List ℕ) →
    Read text old result new → Read text old other another → (result ≡ other) × (new ≡ another)
