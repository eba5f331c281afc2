-- Sample forms, whole and to the letter, from the bytes of their tables: those of examples/ (crates/encoding/specs/Examples.antt) and a few
-- more. They are rows of one list under one statement, which the checker computes (SPECIFICATION 14). The proof is in proofs/SampleForms.antt.
-- Assumes nothing.
use Rattle.std.specs.Prelude.{ℕ, ◌≡◌, List, [], ◌∷◌, map}
use Prim.Native.String.{String}
use Rattle.encoding.specs.Bytes.{joined, encode}
use Rattle.encoding.specs.Examples.{task, row, fifth, late, sections, delays, groups, refused}
use Rattle.printing.specs.Text.{bytes_of}
use Rattle.samples.specs.Samples.{longer}
use Rattle.writing.specs.Text.{form_text}

-- version 3, with the three ways to say delays, two priorities alike, and a section
abbrev pub three : List ℕ
three =
    encode 3
    (record {
      tasks = task 255 1000000 1 1000000 20 30 ∷ task 7 50 5 40 0 9 ∷ task 7 10 3 40 0 0 ∷ [];
      rows = row 1 16 5 ∷ [];
    })

pub record Sample : Type 0 where
  pub bytes : List ℕ
  pub lines : List String

abbrev pub sample : List ℕ → List String → Sample
sample bytes lines = record { bytes = bytes; lines = lines }

abbrev pub comment : String
comment = "# task PRIORITY PERIOD COST DEADLINE; section PLACE SEMAPHORE LENGTH\n"

-- `refused` is refused by the first analysis alone, since one of its deadlines is past its period: it has a form. In `longer` a byte stands
-- behind the table.
unfoldable pub samples : List Sample
samples =
    sample fifth (comment ∷ "version 1\n" ∷ "task 3 4 1 4\n" ∷ "task 2 6 2 6\n" ∷ "task 1 10 3 10\n" ∷ [])
    ∷ sample late (comment ∷ "version 1\n" ∷ "task 2 30 10 20 jitter 10\n" ∷ "task 1 1000 15 25\n" ∷ [])
    ∷ sample sections
    (comment ∷ "version 1\n"
    ∷ "task 4 10 2 5\n" ∷ "task 3 20 3 12\n" ∷ "task 2 40 10 40\n" ∷ "task 1 100 4 50\n"
    ∷ "section 1 1 1\n" ∷ "section 1 2 1\n" ∷ "section 2 2 5\n" ∷ "section 3 1 2\n" ∷ [])
    ∷ sample delays (comment ∷ "version 2\n" ∷ "task 2 30 10 20 delays 10 10\n" ∷ "task 1 1000 15 25\n" ∷ [])
    ∷ sample groups (comment ∷ "version 1\n" ∷ "task 2 4 1 4\n" ∷ "task 1 6 2 6\n" ∷ "task 1 10 3 10\n" ∷ [])
    ∷ sample refused (comment ∷ "version 1\n" ∷ "task 3 4 1 4\n" ∷ "task 2 6 2 7\n" ∷ "task 1 10 3 10\n" ∷ [])
    ∷ sample three
    (comment ∷ "version 3\n"
    ∷ "task 255 1000000 1 1000000 delays 20 30\n" ∷ "task 7 50 5 40 jitter 9\n" ∷ "task 7 10 3 40\n"
    ∷ "section 1 16 5\n" ∷ [])
    ∷ sample longer ("refused 4 at 0\n" ∷ [])
    ∷ []

abbrev pub form_found : Sample → List ℕ
form_found s = form_text s.bytes

abbrev pub form_given : Sample → List ℕ
form_given s = joined bytes_of s.lines

abbrev pub FormSamples : Type 0
FormSamples = map form_found samples ≡ map form_given samples
