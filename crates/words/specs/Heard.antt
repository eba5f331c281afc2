-- What is heard byte by byte are the words and line ends of the text, wherever it is cut into pieces; and no other word is spelled as a word
-- of at most seven letters. The proofs are in proofs/HeardLaws.antt and proofs/SpellingLaws.antt.
-- Assumes nothing.
use Rattle.std.specs.Prelude.{ℕ, ◌≤◌, ◌<◌, ◌≡◌, List, [], ◌∷◌, ◌++◌, length, get_or}
use Rattle.words.specs.declared.Spot.{Spot}
use Rattle.words.specs.Words.{spelling_of, line_feed, events_of}
use Rattle.words.specs.Steps.{begun, heard_in, spot_after}

pub record WordsHeard : Type 0 where
  -- the LF that ends the text's last line is heard last
  pub whole : (text : List ℕ) → heard_in begun (text ++ (line_feed ∷ [])) ≡ events_of text
  pub joins : (spot : Spot) (piece rest : List ℕ) → heard_in spot (piece ++ rest) ≡ heard_in spot piece ++ heard_in (spot_after spot piece) rest
  pub spots : (spot : Spot) (piece rest : List ℕ) → spot_after spot (piece ++ rest) ≡ spot_after (spot_after spot piece) rest

-- each letter is a byte
abbrev pub Letters : List ℕ → Type 0
Letters letters = (i : ℕ) → i < length letters → get_or letters i 0 < 256

abbrev pub SpelledApart : Type 0
SpelledApart =
    (letters others : List ℕ) → Letters letters → Letters others → length others ≤ 7 → spelling_of letters ≡ spelling_of others →
    letters ≡ others
