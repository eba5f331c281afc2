-- Reports, whole and to the letter, from the bytes of their files (SPECIFICATION 13.12; document 02, L10). The proofs are in
-- proofs/SampleReports.antt.
-- Assumes nothing.
use Rattle.std.specs.Prelude.{ℕ, ◌≡◌, List, [], ◌∷◌, ◌++◌, map, replicate}
use Prim.Native.String.{String}
use Rattle.encoding.specs.Bytes.{joined}
use Rattle.encoding.specs.Examples.{fifth, refused}
use Rattle.printing.specs.Text.{bytes_of}
use Rattle.reporting.specs.Report.{report_of}

-- (T, C, D): (1, 1, 1), (1000000, 1, 1000000). The first task takes all the time that there is.
abbrev pub full : List ℕ
full =
    1 ∷ 0 ∷ 39 ∷ 2 ∷ 0
    ∷ 2 ∷ 0 ∷ 0 ∷ 0 ∷ 1 ∷ 0 ∷ 0 ∷ 0 ∷ 1 ∷ 0 ∷ 0 ∷ 0 ∷ 1 ∷ 0 ∷ 0 ∷ 0 ∷ 0
    ∷ 1 ∷ 0 ∷ 15 ∷ 66 ∷ 64 ∷ 0 ∷ 0 ∷ 0 ∷ 1 ∷ 0 ∷ 15 ∷ 66 ∷ 64 ∷ 0 ∷ 0 ∷ 0 ∷ 0
    ∷ []

-- (999961, 1, 999961), (999979, 1, 999979), (999983, 1, 999983). The periods are primes.
abbrev pub primes : List ℕ
primes =
    1 ∷ 0 ∷ 56 ∷ 3 ∷ 0
    ∷ 3 ∷ 0 ∷ 15 ∷ 66 ∷ 25 ∷ 0 ∷ 0 ∷ 0 ∷ 1 ∷ 0 ∷ 15 ∷ 66 ∷ 25 ∷ 0 ∷ 0 ∷ 0 ∷ 0
    ∷ 2 ∷ 0 ∷ 15 ∷ 66 ∷ 43 ∷ 0 ∷ 0 ∷ 0 ∷ 1 ∷ 0 ∷ 15 ∷ 66 ∷ 43 ∷ 0 ∷ 0 ∷ 0 ∷ 0
    ∷ 1 ∷ 0 ∷ 15 ∷ 66 ∷ 47 ∷ 0 ∷ 0 ∷ 0 ∷ 1 ∷ 0 ∷ 15 ∷ 66 ∷ 47 ∷ 0 ∷ 0 ∷ 0 ∷ 0
    ∷ []

-- the four tables of examples/term.tables and two bytes more
abbrev pub file : List ℕ
file = fifth ++ (full ++ (primes ++ (refused ++ (97 ∷ 98 ∷ []))))

abbrev pub file_lines : List String
file_lines =
    "0 schedulable utilisation 883334 bound 779763 hyperperiod 60\n"
    ∷ "1 late utilisation 1000001 bound 828427 hyperperiod 1000000\n"
    ∷ "2 schedulable utilisation 6 bound 779763 hyperperiod over\n"
    ∷ "3 refused 5 at 31\n"
    ∷ "schedulable 2 late 1 refused 1\n"
    ∷ "broken\n"
    ∷ []

abbrev pub ReportSample : Type 0
ReportSample = report_of file ≡ joined bytes_of file_lines

-- The edges: a file's bytes, and its report.
pub record Edge : Type 0 where
  pub bytes : List ℕ
  pub text : String

abbrev pub edge : List ℕ → String → Edge
edge bytes text = record { bytes = bytes; text = text }

-- Nothing; "one to four bytes left over", also of a table that states no more; five bytes that state 5; "a stated length below 5", with
-- what would be a table behind it; a stated length that is just past the end, and at it; a table that states less than its counts make, so
-- that the next one begins inside it; version 4; and a piece of one byte more than the longest table has, whole, and without its last byte.
unfoldable pub edges : List Edge
edges =
    edge [] "schedulable 0 late 0 refused 0\n"
    ∷ edge (1 ∷ []) "schedulable 0 late 0 refused 0\nbroken\n"
    ∷ edge (1 ∷ 0 ∷ 4 ∷ 0 ∷ []) "schedulable 0 late 0 refused 0\nbroken\n"
    ∷ edge (1 ∷ 0 ∷ 5 ∷ 1 ∷ 0 ∷ []) "0 refused 4 at 0\nschedulable 0 late 0 refused 1\n"
    ∷ edge (1 ∷ 0 ∷ 5 ∷ 1 ∷ 0 ∷ 1 ∷ 0 ∷ 4 ∷ 1 ∷ 0 ∷ 1 ∷ 0 ∷ 5 ∷ 1 ∷ 0 ∷ []) "0 refused 4 at 0\nschedulable 0 late 0 refused 1\nbroken\n"
    ∷ edge (1 ∷ 0 ∷ 7 ∷ 33 ∷ 0 ∷ 0 ∷ []) "schedulable 0 late 0 refused 0\nbroken\n"
    ∷ edge (1 ∷ 0 ∷ 6 ∷ 33 ∷ 0 ∷ 0 ∷ []) "0 refused 3 at 3\nschedulable 0 late 0 refused 1\n"
    ∷ edge (1 ∷ 0 ∷ 5 ∷ 1 ∷ 0 ∷ 4 ∷ 0 ∷ 5 ∷ 0 ∷ 0 ∷ 3 ∷ 0 ∷ 6 ∷ 1 ∷ 65 ∷ 0 ∷ []) "0 refused 4 at 0\n1 refused 2 at 0\n2 refused 3 at 4\nschedulable 0 late 0 refused 3\n"
    ∷ edge (3 ∷ 17 ∷ 238 ∷ 200 ∷ 64 ∷ replicate 4585 0) "0 refused 4 at 0\nschedulable 0 late 0 refused 1\n"
    ∷ edge (3 ∷ 17 ∷ 238 ∷ 200 ∷ 64 ∷ replicate 4584 0) "schedulable 0 late 0 refused 0\nbroken\n"
    ∷ []

abbrev pub report_found : Edge → List ℕ
report_found e = report_of e.bytes

abbrev pub report_given : Edge → List ℕ
report_given e = bytes_of e.text

abbrev pub ReportEdges : Type 0
ReportEdges = map report_found edges ≡ map report_given edges
