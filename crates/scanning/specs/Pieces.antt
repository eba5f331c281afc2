-- A text that comes in pieces is read as their join, wherever it is cut: also inside of a number.
-- Assumes nothing.
use Rattle.std.specs.Prelude.{ℕ, suc, ◌+◌, ◌≤◌, ◌<◌, ◌≡◌, Result, Ok, Err, Bool, true, false, length}
use mathlib.Core.List.{List, [], ◌∷◌, ◌++◌, flatten}
use Rattle.std.proofs.lemmas.List.Edits.{sets}
use Rattle.scanning.specs.declared.Unreadable.{Unreadable}
use Rattle.scanning.specs.declared.State.{State}
use Rattle.scanning.specs.declared.State.TheVariants.{Outside, Inside, Stuck}
use Rattle.scanning.specs.declared.Scan.{Scan}
use Rattle.scanning.specs.Reading.{numbers, reading_of}
use Rattle.scanning.specs.Read.{place_at, from_byte, scanned_for, words_after}
use Rattle.scanning.specs.Steps.{after_of, ended_by}

-- the state behind a piece whose first byte stands at the place `at` of the text
unfoldable pub state_after : State → ℕ → List ℕ → State
state_after state at [] = state
state_after state at (byte ∷ rest) = state_after (after_of state (place_at at) byte) (suc at) rest

-- the numbers that end in the piece
unfoldable pub ended_in : State → ℕ → List ℕ → List ℕ
ended_in state at [] = []
ended_in state at (byte ∷ rest) = ended_by state byte ++ ended_in (after_of state (place_at at) byte) (suc at) rest

abbrev pub start : Scan
start = record { state = Outside; at = place_at 0; count = 0 }

-- how far the text is gone through behind the piece
abbrev pub scan_after : Scan → List ℕ → Scan
scan_after scan piece =
    record {
      state = state_after scan.state scan.at.0 piece;
      at = place_at (scan.at.0 + length piece);
      count = scan.count + length (ended_in scan.state scan.at.0 piece);
    }

-- and the words: what ends is kept behind what ended before, as far as there are words
abbrev pub kept_after : Scan → List ℕ → List ℕ → List ℕ
kept_after scan piece words = sets words scan.count (ended_in scan.state scan.at.0 piece)

pub record More (scan : Scan) (piece old : List ℕ) (result : Scan) (new : List ℕ) : Type 0 where
  pub scan_is : result ≡ scan_after scan piece
  pub words_are : new ≡ kept_after scan piece old

-- where the number began that is not ended, or what can't be read
abbrev pub behind : State → ℕ
behind Outside = 0
behind (Inside start value) = start.0
behind (Stuck place) = place.0

-- each number took a byte at least, and the places fit into the machine's words with so many bytes more
pub record Within (scan : Scan) (more : ℕ) : Type 0 where
  pub few : scan.count + length (ended_by scan.state 32) ≤ scan.at.0
  pub placed : behind scan.state ≤ scan.at.0
  pub most : scan.at.0 + more < 18446744073709551616

-- has something been found that can't be read?
abbrev pub stuck : State → Bool
stuck Outside = false
stuck (Inside start value) = false
stuck (Stuck place) = true

-- what the text holds, once it is gone through, if so many numbers ended
abbrev pub answer_of : State → ℕ → Result ℕ Unreadable
answer_of Outside count = Ok count
answer_of (Inside start value) count = Ok count
answer_of (Stuck place) count = Err (from_byte place)

-- the text's end ends a number as a blank does
abbrev pub answer_at : Scan → Result ℕ Unreadable
answer_at scan = answer_of scan.state (scan.count + length (ended_by scan.state 32))

abbrev pub words_at : Scan → List ℕ → List ℕ
words_at scan words = sets words scan.count (ended_by scan.state 32)

pub record Ended (scan : Scan) (old : List ℕ) (result : Result ℕ Unreadable) (new : List ℕ) : Type 0 where
  pub result_is : result ≡ answer_at scan
  pub words_are : new ≡ words_at scan old

-- a whole text as one piece: each word is said, also where something can't be read
pub record Passed (text old : List ℕ) (result : Result ℕ Unreadable) (new : List ℕ) : Type 0 where
  pub result_is : result ≡ answer_at (scan_after start text)
  pub words_are : new ≡ words_at (scan_after start text) (kept_after start text old)

-- what is known behind each piece: how far the text is gone through, and the words
pub record Gone : Type 0 where
  pub scan : Scan
  pub words : List ℕ

abbrev pub gone : Scan → List ℕ → Gone
gone scan words = record { scan = scan; words = words }

-- piece by piece
unfoldable pub through : Gone → List (List ℕ) → Gone
through before [] = before
through before (piece ∷ pieces) =
    through (gone (scan_after before.scan piece) (kept_after before.scan piece before.words)) pieces

abbrev pub all_through : List ℕ → List (List ℕ) → Gone
all_through old pieces = through (gone start old) pieces

-- For any pieces and any words. The proof is in proofs/PieceLaws.antt.
pub record PiecesRight : Type 0 where
  -- where the text is cut makes no difference
  pub joins : (old : List ℕ) (pieces : List (List ℕ)) → all_through old pieces ≡ all_through old (flatten pieces ∷ [])
  -- the answer is that for what the text is read as
  pub answers : (old : List ℕ) (pieces : List (List ℕ)) →
      answer_at (all_through old pieces).scan ≡ scanned_for (reading_of (flatten pieces))
  -- also where it is known before the text's end: what comes behind something that can't be read makes no difference
  pub early : (old : List ℕ) (pieces more : List (List ℕ)) → stuck (all_through old pieces).scan.state ≡ true →
      answer_at (all_through old pieces).scan ≡ scanned_for (reading_of (flatten (pieces ++ more)))
  -- and the words of a text that can be read hold its numbers
  pub keeps : (old : List ℕ) (pieces : List (List ℕ)) (values : List ℕ) → reading_of (flatten pieces) ≡ numbers values →
      words_at (all_through old pieces).scan (all_through old pieces).words ≡ words_after (numbers values) old
  -- places and counts fit into the machine's words as long as the text's length does
  pub fits : (old : List ℕ) (pieces : List (List ℕ)) (more : ℕ) → length (flatten pieces) + more < 18446744073709551616 →
      Within (all_through old pieces).scan more
