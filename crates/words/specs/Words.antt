-- What the lines and words of a text are (SPECIFICATION 14.1).
-- Assumes nothing.
use Rattle.std.specs.Prelude.{ℕ, ◌+◌, ◌-◌, ◌*◌, min, Bool, false, List, [], ◌∷◌, ◌++◌, eqb, ltb}
use Rattle.model.specs.Choice.{pick, both, either}
use Rattle.scanning.specs.Reading.{is_digit}
use Rattle.scanning.specs.Faults.{digits_only, with_digits}

-- "words are separated by blanks or tabs"
unfoldable pub is_blank : ℕ → Bool
is_blank byte = either (eqb byte 32) (eqb byte 9)

-- LF, which ends a line; CR; and `#`, which begins a comment
abbrev pub line_feed : ℕ
line_feed = 10

abbrev pub return : ℕ
return = 13

abbrev pub hash : ℕ
hash = 35

-- what ends a word that stands before it
unfoldable pub is_end : ℕ → Bool
is_end byte = either (eqb byte line_feed) (either (eqb byte hash) (is_blank byte))

-- "a line ends with LF or CR LF": a CR directly before an LF is left out, and every other one is a letter
unfoldable pub begins_with_feed : List ℕ → Bool
begins_with_feed [] = false
begins_with_feed (byte ∷ rest) = eqb byte line_feed

unfoldable pub unreturned : List ℕ → List ℕ
unreturned [] = []
unreturned (byte ∷ rest) = pick (both (eqb byte return) (begins_with_feed rest)) (unreturned rest) (byte ∷ unreturned rest)

-- A word is told from others by its spelling: its letters as the digits of a number to the base 256, behind a 1. Words of more than seven
-- letters are all spelled alike, and no word that means something has as many.
abbrev pub no_letter : ℕ
no_letter = 1

abbrev pub many_letters : ℕ
many_letters = 9223372036854775808

unfoldable pub spelled_after : ℕ → ℕ → ℕ
spelled_after spelling letter = pick (ltb spelling 72057594037927936) (256 * spelling + letter) many_letters

unfoldable pub spelled_from : ℕ → List ℕ → ℕ
spelled_from spelling [] = spelling
spelled_from spelling (letter ∷ rest) = spelled_from (spelled_after spelling letter) rest

abbrev pub spelling_of : List ℕ → ℕ
spelling_of word = spelled_from no_letter word

-- Its amount is the number that it is; one number stands for all that are too large, and one for a word that is no whole number.
abbrev pub too_large : ℕ
too_large = 4294967296

abbrev pub not_whole : ℕ
not_whole = 4294967297

unfoldable pub amount_of : List ℕ → ℕ
amount_of word = pick (digits_only word) (min (with_digits 0 word) too_large) not_whole

-- the same, letter by letter
unfoldable pub amount_after : ℕ → ℕ → ℕ
amount_after amount letter =
    pick (is_digit letter) (pick (ltb amount too_large) (min (10 * amount + (letter - 48)) too_large) amount) not_whole

-- what comes one after the other in a text: a word, by its spelling and its amount, and a line's end
pub data Event : Type 0 where
  word : ℕ → ℕ → Event
  line_end : Event

-- the word so far, if there is one, and what comes behind it
unfoldable pub ended : List ℕ → List Event → List Event
ended [] events = events
ended (letter ∷ letters) events = word (spelling_of (letter ∷ letters)) (amount_of (letter ∷ letters)) ∷ events

-- The text behind the letters of a word, if any, and inside of a comment. (The `let` has the checker look only at the case that is picked.)
unfoldable mutual
  pub in_word : List ℕ → List ℕ → List Event
  in_word letters [] = []
  in_word letters (byte ∷ rest) =
      let line = ended letters (line_end ∷ in_word [] rest) in
      let comment = ended letters (in_comment rest) in
      let blank = ended letters (in_word [] rest) in
      let longer = in_word (letters ++ (byte ∷ [])) rest in
      pick (eqb byte line_feed) line (pick (eqb byte hash) comment (pick (is_blank byte) blank longer))

  pub in_comment : List ℕ → List Event
  in_comment [] = []
  in_comment (byte ∷ rest) =
      let line = line_end ∷ in_word [] rest in
      let on = in_comment rest in
      pick (eqb byte line_feed) line on

-- a text's end ends its last line as an LF does
unfoldable pub events_of : List ℕ → List Event
events_of text = in_word [] (unreturned (text ++ (line_feed ∷ [])))
