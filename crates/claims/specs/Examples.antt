-- Small lists of claims and what is said of them, as rows of one list under one statement, which the checker computes (SPECIFICATION 13.7;
-- document 02, L7). The tables are those of examples/ (crates/encoding/specs/Examples.antt) and two more. The proof is in
-- proofs/ExampleLaws.antt.
-- Assumes nothing.
use Rattle.std.specs.Prelude.{ℕ, ◌≡◌, List, [], ◌∷◌, map}
use Rattle.tables.specs.declared.Refusal.TheVariants.{TooShort, NumberOutOfRange}
use Rattle.tables.specs.Refusals.{at, offset}
use Rattle.encoding.specs.Bytes.{encode}
use Rattle.encoding.specs.Examples.{task, fifth, sections, delays, groups, refused}
use Rattle.claims.specs.declared.Claimed.{Claimed}
use Rattle.claims.specs.declared.Claimed.TheVariants.{Refused, WrongCount, Pass, Fails}
use Rattle.claims.specs.Claims.{claimed_of}

-- (T, C, D) = (4, 2, 4) above (10, 2, 10): their answers are 2 and 4
abbrev pub pair : List ℕ
pair = encode 1 (record { tasks = task 2 4 2 4 0 0 ∷ task 1 10 2 10 0 0 ∷ []; rows = [] })

-- (2, 1, 2) twice, of one priority: each answers 2
abbrev pub twins : List ℕ
twins = encode 1 (record { tasks = task 1 2 1 2 0 0 ∷ task 1 2 1 2 0 0 ∷ []; rows = [] })

pub record Example : Type 0 where
  pub bytes : List ℕ
  pub claims : List ℕ
  pub said : Claimed

abbrev pub example : List ℕ → List ℕ → Claimed → Example
example bytes claims said = record { bytes = bytes; claims = claims; said = said }

unfoldable pub examples : List Example
examples =
    -- the true answers; claims above them; no tick; one too small; past the deadline; the first of two that fail
    example fifth (1 ∷ 3 ∷ 10 ∷ []) Pass
    ∷ example fifth (4 ∷ 6 ∷ 10 ∷ []) Pass
    ∷ example fifth (0 ∷ 3 ∷ 10 ∷ []) (Fails (at 0))
    ∷ example fifth (1 ∷ 2 ∷ 10 ∷ []) (Fails (at 1))
    ∷ example fifth (1 ∷ 3 ∷ 11 ∷ []) (Fails (at 2))
    ∷ example fifth (1 ∷ 2 ∷ 11 ∷ []) (Fails (at 1))
    -- a claim above one that passes may fail: demand(4) is 4, demand(5) is 6, and demand(6) is 6
    ∷ example pair (2 ∷ 4 ∷ []) Pass
    ∷ example pair (2 ∷ 5 ∷ []) (Fails (at 1))
    ∷ example pair (2 ∷ 6 ∷ []) Pass
    -- the latest delay is taken off: of 20, 10 are left; of 19, one too few; of 10, none
    ∷ example delays (20 ∷ 25 ∷ []) Pass
    ∷ example delays (19 ∷ 25 ∷ []) (Fails (at 0))
    ∷ example delays (10 ∷ 25 ∷ []) (Fails (at 0))
    -- the second task is blocked for 5 ticks
    ∷ example sections (2 ∷ 10 ∷ 19 ∷ 26 ∷ []) Pass
    ∷ example sections (2 ∷ 9 ∷ 19 ∷ 26 ∷ []) (Fails (at 1))
    -- tasks of one priority interfere with each other
    ∷ example twins (2 ∷ 2 ∷ []) Pass
    ∷ example twins (1 ∷ 2 ∷ []) (Fails (at 0))
    ∷ example groups (1 ∷ 6 ∷ 10 ∷ []) (Fails (at 1))
    -- "fewer or more words than tasks"; refusals 1 to 7 come before
    ∷ example fifth (1 ∷ 3 ∷ []) WrongCount
    ∷ example fifth (1 ∷ 3 ∷ 10 ∷ 10 ∷ []) WrongCount
    ∷ example fifth [] WrongCount
    ∷ example refused (1 ∷ 3 ∷ []) (Refused (NumberOutOfRange (offset 31)))
    ∷ example [] [] (Refused TooShort)
    ∷ []

abbrev pub found_of : Example → Claimed
found_of e = claimed_of e.bytes e.claims

abbrev pub said_of : Example → Claimed
said_of e = e.said

abbrev pub ClaimExamples : Type 0
ClaimExamples = map found_of examples ≡ map said_of examples
