-- Sample lists and lines, to the letter, with the tables of examples/ (crates/encoding/specs/Examples.antt) and with two of version 3
-- (crates/encoding/specs/VersionThree.antt): as rows of one list under one statement, which the checker computes (SPECIFICATION 10.2; document 02,
-- L9). The first two lists are examples/fifth.claims and examples/fails.claims. The proof is in proofs/SampleLines.antt.
-- Assumes nothing.
use Rattle.std.specs.Prelude.{ℕ, ◌≡◌, List, [], ◌∷◌, map}
use Prim.Native.String.{String}
use Rattle.encoding.specs.Examples.{fifth, late, delays, refused}
use Rattle.encoding.specs.VersionThree.{delays_three, crowd}
use Rattle.printing.specs.Text.{bytes_of}
use Rattle.checking.specs.Text.{check_text}

pub record Sample : Type 0 where
  pub list : String
  pub bytes : List ℕ
  pub line : String

abbrev pub sample : String → List ℕ → String → Sample
sample list bytes line = record { list = list; bytes = bytes; line = line }

unfoldable pub samples : List Sample
samples =
    sample "1\n3\n10\n" fifth "pass\n"
    ∷ sample "1\n2\n10\n" fifth "fails 1\n"
    ∷ sample "4, 6\t10" fifth "pass\n"
    ∷ sample "1,3" fifth "refused 10 at 0\n"
    ∷ sample "" fifth "refused 10 at 0\n"
    ∷ sample "1 3 10 10" fifth "refused 10 at 0\n"
    ∷ sample "1 3 ten" fifth "unreadable at 4\n"
    ∷ sample "1 3 4294967296" fifth "unreadable at 4\n"
    ∷ sample "1 3 10" refused "refused 5 at 31\n"
    ∷ sample "20 25" delays "pass\n"
    ∷ sample "20 25" late "fails 1\n"
    ∷ sample "20 25" delays_three "pass\n"
    ∷ sample "3 6 9 12 15 18 21 24 27 30 33 36 39 42 45 48 51 54 57 60 63 66 69 72 75 78 81 84 87 90 93 96 99" (crowd 3) "fails 32\n"
    ∷ sample "3 6 9 12 15 18 21 24 27 30 33 36 39 42 45 48 51 54 57 60 63 66 69 72 75 78 81 84 87 90 93 96 99 102" (crowd 3) "refused 10 at 0\n"
    ∷ sample "3 6 9 12 15 18 21 24 27 30 33 36 39 42 45 48 51 54 57 60 63 66 69 72 75 78 81 84 87 90 93 96 99" (crowd 2) "refused 3 at 3\n"
    ∷ []

abbrev pub line_found : Sample → List ℕ
line_found s = check_text (bytes_of s.list) s.bytes

abbrev pub line_given : Sample → List ℕ
line_given s = bytes_of s.line

abbrev pub SampleLinesRight : Type 0
SampleLinesRight = map line_found samples ≡ map line_given samples
