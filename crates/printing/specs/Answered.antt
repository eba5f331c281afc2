-- The text of what the analysis says of a table's bytes: what the program prints for them (SPECIFICATION 10).
-- Assumes nothing.
use Rattle.std.specs.Prelude.{ℕ, ◌≡◌, List, length, replicate}
use Rattle.tables.specs.Meaning.{TableRightSpanning, RoomFor}
use Rattle.tables.specs.FirstBytes.{kept_of}
use Rattle.equation.specs.declared.Start.{Start}
use Rattle.response.specs.Outcome.{verdict_of, answers_after, rounds_after}
use Rattle.printing.specs.Text.{text_of}

-- what each of both slices holds before the call: a word for every task of the longest table
abbrev pub zeros : List ℕ
zeros = replicate 200 0

-- They are enough for every table within the rules, however many periods a deadline may span: no program refuses one for want of room. The
-- proof is in proofs/LongestLaws.antt.
abbrev pub RoomForAll : Type 0
RoomForAll = (span : ℕ) (bytes : List ℕ) → TableRightSpanning span bytes → RoomFor bytes (length zeros) (length zeros)

-- what `analyse_from` answers and leaves, as text
unfoldable pub answer_text : Start → List ℕ → List ℕ
answer_text start bytes =
    text_of bytes (verdict_of bytes 200 200) (answers_after bytes zeros zeros) (rounds_after start bytes zeros zeros)

-- "Bytes after the 4,590th are dropped, with the same refusals" (SPECIFICATION 13.13; document 02, L11): the text for the first 4,590 bytes
-- is that for all. The proof is in proofs/AnsweredLaws.antt.
abbrev pub TextOfFirstBytes : Type 0
TextOfFirstBytes = (start : Start) (bytes : List ℕ) → answer_text start (kept_of bytes) ≡ answer_text start bytes
