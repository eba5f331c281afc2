-- The number and the place of each case (SPECIFICATION 11 and 13.8; document 02, L8).
-- Assumes nothing.
use Rattle.std.specs.Prelude.{ℕ, ◌+◌, ◌*◌, ◌≡◌, List, length}
use Rattle.tables.specs.Refusals.{number_of, place_of}
use Rattle.overlaps.specs.declared.Found.{Found}
use Rattle.overlaps.specs.declared.Found.TheVariants.{Refused, Delayed, Schedulable, Late, Open}
use Rattle.overlaps.specs.Outcome.{found_of, answers_after, tried_words_after}

-- the refusal's number, "refused with 11" for a delay; 0 for "schedulable", 255 for "late" and 254 for "open", which no refusal has
abbrev pub code_of : Found → ℕ
code_of (Refused refusal) = number_of refusal
code_of Delayed = 11
code_of Schedulable = 0
code_of (Late place) = 255
code_of (Open place) = 254

-- the refusal's place, "place 0" for a delay, or "the place of the first such task"
abbrev pub found_place : Found → ℕ
found_place (Refused refusal) = place_of refusal
found_place Delayed = 0
found_place Schedulable = 0
found_place (Late place) = place.0
found_place (Open place) = place.0

-- what C gets: both in one number, the code in the upper 32 bits, the place in the lower 32
abbrev pub packed : Found → ℕ
packed found = code_of found * 4294967296 + found_place found

-- The whole outcome, as C sees it.
pub record PackedOutcome (bytes answers tried : List ℕ) (number : ℕ) (answers_left tried_left : List ℕ) : Type 0 where
  pub found_is : number ≡ packed (found_of bytes (length answers) (length tried))
  pub answers_are : answers_left ≡ answers_after bytes answers tried
  pub tried_are : tried_left ≡ tried_words_after bytes answers tried
