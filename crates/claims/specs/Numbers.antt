-- The number and the place of each case (SPECIFICATION 11 and 13.7; document 02, L7).
-- Assumes nothing.
use Rattle.std.specs.Prelude.{ℕ, ◌+◌, ◌*◌, List}
use Rattle.tables.specs.Refusals.{number_of, place_of}
use Rattle.claims.specs.declared.Claimed.{Claimed}
use Rattle.claims.specs.declared.Claimed.TheVariants.{Refused, WrongCount, Pass, Fails}
use Rattle.claims.specs.Claims.{claimed_of}

-- the refusal's number, "refused with 10" for the list; 0 for "pass", and 255 for the place that fails, which no refusal has
abbrev pub code_of : Claimed → ℕ
code_of (Refused refusal) = number_of refusal
code_of WrongCount = 10
code_of Pass = 0
code_of (Fails place) = 255

-- the refusal's place, "place 0" for the list, or "the first place that fails"
abbrev pub claimed_place : Claimed → ℕ
claimed_place (Refused refusal) = place_of refusal
claimed_place WrongCount = 0
claimed_place Pass = 0
claimed_place (Fails place) = place.0

-- what C gets: both in one number, the code in the upper 32 bits, the place in the lower 32
abbrev pub packed_claimed : Claimed → ℕ
packed_claimed claimed = code_of claimed * 4294967296 + claimed_place claimed

abbrev pub packed : List ℕ → List ℕ → ℕ
packed bytes claims = packed_claimed (claimed_of bytes claims)
