-- Sample texts of the second analysis, whole and to the letter, from the bytes of their tables: those of examples/
-- (crates/encoding/specs/Examples.antt) and a few more. They are rows of one list under one statement, which the checker computes
-- (SPECIFICATION 10 and 13.8; document 02, L8 and L9). The proof is in proofs/PastSampleTexts.antt.
-- Assumes nothing.
use Rattle.std.specs.Prelude.{ℕ, ◌≡◌, List, [], ◌∷◌, map}
use Prim.Native.String.{String}
use Rattle.encoding.specs.Bytes.{encode}
use Rattle.encoding.specs.Examples.{task, fifth, refused, delays, past_period, left_open}
use Rattle.encoding.specs.VersionThree.{delays_three, crowd}
use Rattle.printing.specs.Text.{bytes_of}
use Rattle.past_text.specs.Answered.{past_text}

-- the example of 001 with a cost of 7 for 5, so that the second q exceeds its D
abbrev pub costlier : List ℕ
costlier = encode 1 (record { tasks = task 2 20 10 20 0 0 ∷ task 1 10 7 20 0 0 ∷ []; rows = [] })

-- and with a D of 4T and one tick
abbrev pub past_four : List ℕ
past_four = encode 1 (record { tasks = task 2 20 10 20 0 0 ∷ task 1 10 5 41 0 0 ∷ []; rows = [] })

-- the example of 001 in version 3 (document 02, L9)
abbrev pub past_period_three : List ℕ
past_period_three = encode 3 (record { tasks = task 2 20 10 20 0 0 ∷ task 1 10 5 20 0 0 ∷ []; rows = [] })

pub record Sample : Type 0 where
  pub bytes : List ℕ
  pub text : String

abbrev pub sample : List ℕ → String → Sample
sample bytes text = record { bytes = bytes; text = text }

-- The first is "The example in 001"; the answers to the fifth table are the first analysis's, and `refused` is a table that it refuses.
unfoldable pub samples : List Sample
samples =
    sample past_period "tasks 2\n0 response 10 deadline 20 tried 1\n1 response 15 deadline 20 tried 2\nschedulable\n"
    ∷ sample past_period_three "tasks 2\n0 response 10 deadline 20 tried 1\n1 response 15 deadline 20 tried 2\nschedulable\n"
    ∷ sample costlier "tasks 2\n0 response 10 deadline 20 tried 1\n1 late deadline 20 tried 2\nlate 1\n"
    ∷ sample left_open "tasks 2\n0 open deadline 4 tried 64\n1 late deadline 100 tried 1\nopen 0\n"
    ∷ sample fifth "tasks 3\n0 response 1 deadline 4 tried 1\n1 response 3 deadline 6 tried 1\n2 response 10 deadline 10 tried 1\nschedulable\n"
    ∷ sample refused "tasks 3\n0 response 1 deadline 4 tried 1\n1 response 3 deadline 7 tried 1\n2 response 10 deadline 10 tried 1\nschedulable\n"
    ∷ sample delays "refused 11 at 0\n"
    ∷ sample delays_three "refused 11 at 0\n"
    ∷ sample (crowd 2) "refused 3 at 3\n"
    ∷ sample past_four "refused 5 at 31\n"
    ∷ []

abbrev pub text_found : Sample → List ℕ
text_found s = past_text s.bytes

abbrev pub text_given : Sample → List ℕ
text_given s = bytes_of s.text

abbrev pub PastSamplesRight : Type 0
PastSamplesRight = map text_found samples ≡ map text_given samples
