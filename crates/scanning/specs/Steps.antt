-- How the code goes through a text: the state before each byte, and what one byte does to it. That this is the reading of
-- specs/Reading.antt is `PiecesRight` of specs/Pieces.antt.
-- Assumes nothing.
use Rattle.std.specs.Prelude.{ℕ, ◌+◌, ◌-◌, ◌*◌, ◌≡◌, Bool, List, [], ◌∷◌, leb, length}
use Rattle.std.proofs.lemmas.List.Edits.{sets}
use Rattle.model.specs.Choice.{pick}
use Rattle.scanning.specs.declared.TextPlace.{TextPlace}
use Rattle.scanning.specs.declared.State.{State}
use Rattle.scanning.specs.declared.State.TheVariants.{Outside, Inside, Stuck}
use Rattle.scanning.specs.Reading.{largest, is_digit, is_separator}

-- a number of this value, unless it is too large
unfoldable pub with_value : TextPlace → ℕ → State
with_value start value = pick (leb value largest) (Inside start value) (Stuck start)

-- the state after one byte more
abbrev pub after_outside : TextPlace → ℕ → State
after_outside at byte = pick (is_digit byte) (Inside at (byte - 48)) (pick (is_separator byte) Outside (Stuck at))

abbrev pub after_inside : TextPlace → TextPlace → ℕ → ℕ → State
after_inside at start value byte =
    pick (is_digit byte) (with_value start (10 * value + (byte - 48))) (pick (is_separator byte) Outside (Stuck at))

abbrev pub after_of : State → TextPlace → ℕ → State
after_of Outside at byte = after_outside at byte
after_of (Inside start value) at byte = after_inside at start value byte
after_of (Stuck place) at byte = Stuck place

-- the number that a byte ends, if it ends one
abbrev pub one_if : Bool → ℕ → List ℕ
one_if ends value = pick ends (value ∷ []) []

abbrev pub ended_by : State → ℕ → List ℕ
ended_by Outside byte = []
ended_by (Inside start value) byte = one_if (is_separator byte) value
ended_by (Stuck place) byte = []

-- the numbers kept from the word at `count` on, as far as there are words
pub record Kept (more old : List ℕ) (count result : ℕ) (new : List ℕ) : Type 0 where
  pub result_is : result ≡ count + length more
  pub words_are : new ≡ sets old count more
