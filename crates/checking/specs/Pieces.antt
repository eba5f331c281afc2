-- The text of a list may come in pieces: the line is that for their join (SPECIFICATION 10.2).
-- Assumes nothing.
use Rattle.std.specs.Prelude.{ℕ, min, ◌≡◌, Result, Ok, Err, true, length, take}
use mathlib.Core.List.{List, ◌++◌, flatten}
use Rattle.scanning.specs.declared.Unreadable.{Unreadable}
use Rattle.scanning.specs.Pieces.{stuck, answer_at, words_at, Gone, all_through}
use Rattle.claims.specs.Claims.{claimed_of}
use Rattle.checking.specs.Text.{claimed_line, unreadable_line, check_text}

-- one word more than any table has tasks
abbrev pub words_kept : ℕ
words_kept = 201

-- what is said where so many numbers were found, of which the words hold the first, or where something can't be read
abbrev pub line_for : Result ℕ Unreadable → List ℕ → List ℕ → List ℕ
line_for (Ok count) words bytes = claimed_line (claimed_of bytes (take (min count words_kept) words))
line_for (Err fault) words bytes = unreadable_line fault.0.0

-- the line for what is known behind the last piece
unfoldable pub line_after : Gone → List ℕ → List ℕ
line_after known bytes = line_for (answer_at known.scan) (words_at known.scan known.words) bytes

-- For any table and any pieces of any list. The proof is in proofs/ListLaws.antt.
pub record AnyPieces : Type 0 where
  pub whole : (old bytes : List ℕ) (pieces : List (List ℕ)) → length old ≡ words_kept →
      line_after (all_through old pieces) bytes ≡ check_text (flatten pieces) bytes
  -- where something can't be read, the line is known before the rest of the list is
  pub early : (old bytes : List ℕ) (pieces more : List (List ℕ)) → stuck (all_through old pieces).scan.state ≡ true →
      line_after (all_through old pieces) bytes ≡ check_text (flatten (pieces ++ more)) bytes
