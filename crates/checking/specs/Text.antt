-- What the program prints for the text of a list of claims and the bytes of a table (SPECIFICATION 10.2; document 02, L7).
-- Assumes nothing.
use Rattle.std.specs.Prelude.{ℕ, List}
use Rattle.claims.specs.declared.Claimed.{Claimed}
use Rattle.claims.specs.declared.Claimed.TheVariants.{Refused, WrongCount, Pass, Fails}
use Rattle.claims.specs.Claims.{claimed_of}
use Rattle.printing.specs.Text.{bytes_of, line_with_number, refusal_line, refused_line}
use Rattle.scanning.specs.Reading.{Reading, numbers, unreadable, reading_of}

-- "pass, or the first place that fails", or the refusal, as for the analysis; "refused with 10, place 0" for a list of a wrong length
abbrev pub claimed_line : Claimed → List ℕ
claimed_line (Refused refusal) = refused_line refusal
claimed_line WrongCount = refusal_line 10 0
claimed_line Pass = bytes_of "pass\n"
claimed_line (Fails place) = line_with_number (bytes_of "fails ") place.0

-- the first byte of what can't be read
abbrev pub unreadable_line : ℕ → List ℕ
unreadable_line place = line_with_number (bytes_of "unreadable at ") place

-- a list that is read is checked
abbrev pub text_for : Reading → List ℕ → List ℕ
text_for (numbers claims) bytes = claimed_line (claimed_of bytes claims)
text_for (unreadable place) bytes = unreadable_line place

unfoldable pub check_text : List ℕ → List ℕ → List ℕ
check_text list bytes = text_for (reading_of list) bytes
