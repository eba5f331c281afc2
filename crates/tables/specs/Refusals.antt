-- The number and the place of each refusal (SPECIFICATION 3.2 and 3.3; document 01, "Refusals"; the places as document 02, L3, amends
-- them).
-- Assumes nothing.
use Rattle.std.specs.Prelude.{ℕ, Bool, true, false, List, [], ◌∷◌, map, Ok, Err, Result}
use Rattle.model.specs.declared.Place.{Place}
use Rattle.tables.specs.declared.Offset.{Offset}
use Rattle.tables.specs.declared.Refusal.{Refusal}
use Rattle.tables.specs.declared.Refusal.TheVariants.{TooShort, UnknownVersion, CountOutOfRange, LengthsDiffer, NumberOutOfRange, PriorityOutOfOrder, SectionRow, NoRoom, NotPlayable}

abbrev pub number_of : Refusal → ℕ
number_of TooShort = 1
number_of UnknownVersion = 2
number_of (CountOutOfRange place) = 3
number_of LengthsDiffer = 4
number_of (NumberOutOfRange place) = 5
number_of (PriorityOutOfOrder place) = 6
number_of (SectionRow place) = 7
number_of NoRoom = 8
-- "a new refusal 9, after 8, place 0" (SPECIFICATION 9; document 02, L1)
number_of NotPlayable = 9

-- "the byte offset of the first faulty field", and 0 for the others
abbrev pub place_of : Refusal → ℕ
place_of TooShort = 0
place_of UnknownVersion = 0
place_of (CountOutOfRange place) = place.0
place_of LengthsDiffer = 0
place_of (NumberOutOfRange place) = place.0
place_of (PriorityOutOfOrder place) = place.0
place_of (SectionRow place) = place.0
place_of NoRoom = 0
place_of NotPlayable = 0

-- a task's place, and a byte's
abbrev pub at : ℕ → Place
at i = record { 0 = i }

abbrev pub offset : ℕ → Offset
offset i = record { 0 = i }

-- what a check finds: nothing, or the refusal
abbrev pub Check : Type 0
Check = Result (Unit {0}) Refusal

abbrev pub is_clean : Check → Bool
is_clean (Ok _) = true
is_clean (Err r) = false

-- clean where the test passes, and else that refusal
unfoldable pub unless : Bool → Refusal → Check
unless true r = Ok tt
unless false r = Err r

-- the first check, and the second where the first is clean
unfoldable pub or_else : Check → Check → Check
or_else (Ok _) second = second
or_else (Err r) second = Err r

-- "the first that applies is given"
unfoldable pub first_in : List Check → Check
first_in [] = Ok tt
first_in (check ∷ checks) = or_else check (first_in checks)

-- the check of one field, and of fields in the order in which they are tested: the refusal of the first whose test fails
abbrev pub field_check : {F : Type 0} → (F → Bool) → (F → Refusal) → F → Check
field_check test refusal field = unless (test field) (refusal field)

unfoldable pub fields_check : {F : Type 0} → (F → Bool) → (F → Refusal) → List F → Check
fields_check test refusal order = first_in (map (field_check test refusal) order)
