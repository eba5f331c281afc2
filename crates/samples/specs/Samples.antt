-- The sample texts, whole and to the letter, from the bytes of their tables: those of examples/ (crates/encoding/specs/Examples.antt) and
-- four more. They are rows of one list under one statement, which the checker computes (SPECIFICATION 10 and 12; document 01, "Worked
-- tables"; document 02, L9). The proof is in proofs/SampleTexts.antt.
-- Assumes nothing.
use Rattle.std.specs.Prelude.{ℕ, ◌≡◌, List, [], ◌∷◌, ◌++◌, map}
use Prim.Native.String.{String}
use Rattle.encoding.specs.Bytes.{joined}
use Rattle.encoding.specs.Examples.{fifth, late, sections, delays, groups, refused}
use Rattle.encoding.specs.VersionThree.{delays_three, crowd}
use Rattle.equation.specs.declared.Start.{Start}
use Rattle.equation.specs.declared.Start.TheVariants.{EveryCost, OwnCost}
use Rattle.printing.specs.Text.{bytes_of}
use Rattle.printing.specs.Answered.{answer_text}

-- the fifth table and a byte behind it
abbrev pub longer : List ℕ
longer = fifth ++ (0 ∷ [])

abbrev pub crowd_lines : List String
crowd_lines =
    "tasks 33\n"
    ∷ "0 response 3 deadline 98 rounds 1\n" ∷ "1 response 6 deadline 98 rounds 1\n" ∷ "2 response 9 deadline 98 rounds 1\n"
    ∷ "3 response 12 deadline 98 rounds 1\n" ∷ "4 response 15 deadline 98 rounds 1\n" ∷ "5 response 18 deadline 98 rounds 1\n"
    ∷ "6 response 21 deadline 98 rounds 1\n" ∷ "7 response 24 deadline 98 rounds 1\n" ∷ "8 response 27 deadline 98 rounds 1\n"
    ∷ "9 response 30 deadline 98 rounds 1\n" ∷ "10 response 33 deadline 98 rounds 1\n" ∷ "11 response 36 deadline 98 rounds 1\n"
    ∷ "12 response 39 deadline 98 rounds 1\n" ∷ "13 response 42 deadline 98 rounds 1\n" ∷ "14 response 45 deadline 98 rounds 1\n"
    ∷ "15 response 48 deadline 98 rounds 1\n" ∷ "16 response 51 deadline 98 rounds 1\n" ∷ "17 response 54 deadline 98 rounds 1\n"
    ∷ "18 response 57 deadline 98 rounds 1\n" ∷ "19 response 60 deadline 98 rounds 1\n" ∷ "20 response 63 deadline 98 rounds 1\n"
    ∷ "21 response 66 deadline 98 rounds 1\n" ∷ "22 response 69 deadline 98 rounds 1\n" ∷ "23 response 72 deadline 98 rounds 1\n"
    ∷ "24 response 75 deadline 98 rounds 1\n" ∷ "25 response 78 deadline 98 rounds 1\n" ∷ "26 response 81 deadline 98 rounds 1\n"
    ∷ "27 response 84 deadline 98 rounds 1\n" ∷ "28 response 87 deadline 98 rounds 1\n" ∷ "29 response 90 deadline 98 rounds 1\n"
    ∷ "30 response 93 deadline 98 rounds 1\n" ∷ "31 response 96 deadline 98 rounds 1\n" ∷ "32 late deadline 98 rounds 1\n"
    ∷ "late 32\n"
    ∷ []

pub record Sample : Type 0 where
  pub start : Start
  pub bytes : List ℕ
  pub lines : List String

abbrev pub sample : Start → List ℕ → String → Sample
sample start bytes text = record { start = start; bytes = bytes; lines = text ∷ [] }

-- Document 01's rounds are those from `OwnCost`; from `EveryCost` is what the program prints (SPECIFICATION 5.1; document 02, L5).
unfoldable pub samples : List Sample
samples =
    sample OwnCost fifth "tasks 3\n0 response 1 deadline 4 rounds 1\n1 response 3 deadline 6 rounds 2\n2 response 10 deadline 10 rounds 5\nschedulable\n"
    ∷ sample EveryCost fifth "tasks 3\n0 response 1 deadline 4 rounds 1\n1 response 3 deadline 6 rounds 1\n2 response 10 deadline 10 rounds 4\nschedulable\n"
    ∷ sample OwnCost late "tasks 2\n0 response 20 deadline 20 rounds 1\n1 late deadline 25 rounds 2\nlate 1\n"
    ∷ sample EveryCost late "tasks 2\n0 response 20 deadline 20 rounds 1\n1 late deadline 25 rounds 1\nlate 1\n"
    ∷ sample EveryCost sections "tasks 4\n0 response 2 deadline 5 rounds 1\n1 response 10 deadline 12 rounds 1\n2 response 19 deadline 40 rounds 2\n3 response 26 deadline 50 rounds 3\nschedulable\n"
    ∷ sample EveryCost delays "tasks 2\n0 response 20 deadline 20 rounds 1\n1 response 25 deadline 25 rounds 1\nschedulable\n"
    ∷ sample OwnCost groups "tasks 3\n0 response 1 deadline 4 rounds 1\n1 late deadline 6 rounds 2\n2 response 10 deadline 10 rounds 5\nlate 1\n"
    ∷ sample EveryCost groups "tasks 3\n0 response 1 deadline 4 rounds 1\n1 late deadline 6 rounds 1\n2 response 10 deadline 10 rounds 4\nlate 1\n"
    ∷ sample EveryCost delays_three "tasks 2\n0 response 20 deadline 20 rounds 1\n1 response 25 deadline 25 rounds 1\nschedulable\n"
    ∷ record { start = EveryCost; bytes = crowd 3; lines = crowd_lines }
    ∷ sample EveryCost (crowd 2) "refused 3 at 3\n"
    ∷ sample EveryCost longer "refused 4 at 0\n"
    ∷ sample EveryCost refused "refused 5 at 31\n"
    ∷ []

abbrev pub text_found : Sample → List ℕ
text_found s = answer_text s.start s.bytes

abbrev pub text_given : Sample → List ℕ
text_given s = joined bytes_of s.lines

abbrev pub SamplesRight : Type 0
SamplesRight = map text_found samples ≡ map text_given samples
