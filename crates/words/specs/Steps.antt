-- How the code goes through a text: what stands before each byte, and what the byte does to it. That these are the words of
-- specs/Words.antt is `WordsHeard` of specs/Heard.antt.
-- Assumes nothing.
use Rattle.std.specs.Prelude.{ℕ, Bool, true, false, not, List, [], ◌∷◌, ◌++◌, eqb, ltb}
use Rattle.model.specs.Choice.{pick, both}
use Rattle.words.specs.declared.Spot.{Spot}
use Rattle.words.specs.declared.Amount.{Amount}
use Rattle.words.specs.declared.Amount.TheVariants.{Whole, TooLarge, NotWhole}
use Rattle.words.specs.Words.{is_blank, is_end, line_feed, return, hash, no_letter, spelled_after, too_large, not_whole, amount_after, Event, word, line_end}

-- what an amount says (specs/Words.antt): a whole number, that it is too large, or that the word is none
unfoldable pub whole_for : ℕ → Amount
whole_for number = pick (ltb number too_large) (Whole number) TooLarge

unfoldable pub amount_for : ℕ → Amount
amount_for number = pick (eqb number not_whole) NotWhole (whole_for number)

abbrev pub begun : Spot
begun = record { returned = false; commented = false; spelling = no_letter; amount = 0 }

abbrev pub comment_begun : Spot
comment_begun = record { returned = false; commented = true; spelling = no_letter; amount = 0 }

abbrev pub returned_after : Spot → Spot
returned_after spot =
    record { returned = true; commented = spot.commented; spelling = spot.spelling; amount = spot.amount }

abbrev pub longer : Spot → ℕ → Spot
longer spot letter =
    record {
      returned = false;
      commented = false;
      spelling = spelled_after spot.spelling letter;
      amount = amount_after spot.amount letter;
    }

unfoldable pub grown_by : Spot → ℕ → Spot
grown_by spot letter = pick spot.commented comment_begun (longer spot letter)

-- a CR before another byte than LF is a letter
unfoldable pub settled_by : Spot → ℕ → Spot
settled_by spot byte = pick (both spot.returned (not (eqb byte line_feed))) (grown_by spot return) spot

unfoldable pub ends_word : Spot → ℕ → Bool
ends_word spot byte = both (not (eqb spot.spelling no_letter)) (is_end byte)

unfoldable pub went_by : Spot → ℕ → Spot
went_by spot byte =
    pick (eqb byte line_feed) begun
    (pick (eqb byte return) (returned_after spot)
    (pick spot.commented spot (pick (eqb byte hash) comment_begun (pick (is_blank byte) begun (grown_by spot byte)))))

-- what comes with the byte
abbrev pub word_by : Spot → ℕ → List Event
word_by spot byte = pick (ends_word spot byte) (word spot.spelling spot.amount ∷ []) []

abbrev pub line_by : ℕ → List Event
line_by byte = pick (eqb byte line_feed) (line_end ∷ []) []

unfoldable pub heard_by : Spot → ℕ → List Event
heard_by spot byte = word_by (settled_by spot byte) byte ++ line_by byte

-- what stands behind the byte
abbrev pub spot_by : Spot → ℕ → Spot
spot_by spot byte = went_by (settled_by spot byte) byte

-- and behind some bytes
unfoldable pub heard_in : Spot → List ℕ → List Event
heard_in spot [] = []
heard_in spot (byte ∷ rest) = heard_by spot byte ++ heard_in (spot_by spot byte) rest

unfoldable pub spot_after : Spot → List ℕ → Spot
spot_after spot [] = spot
spot_after spot (byte ∷ rest) = spot_after (spot_by spot byte) rest
