-- The code goes through a text as it is read: the state before a byte, the numbers found so far, and the rest of the text give the reading.
-- Assumes nothing.
use Prim.Native.Nat.{ℕ, suc, ◌+◌, ◌-◌, ◌*◌, ◌≤◌}
use native.Mathlib.Omega.{arith}
use mathlib.Core.Path.{◌≡◌, refl, ap}
use mathlib.Core.Logic.{inl, inr}
use mathlib.Core.List.{List, [], ◌∷◌, ◌++◌}
use lib.Dec.{leb}
use lib.ListN.{length}
use Rattle.model.proofs.Tests.{bool?}
use Rattle.scanning.specs.declared.TextPlace.{TextPlace}
use Rattle.scanning.specs.declared.State.{State}
use Rattle.scanning.specs.declared.State.TheVariants.{Outside, Inside, Stuck}
use Rattle.scanning.specs.Reading.{Reading, numbers, unreadable, largest, is_digit, is_separator, prepend, outside, inside}
use Rattle.scanning.specs.Read.{place_at, scanned_for}
use Rattle.scanning.specs.Steps.{with_value, after_of, ended_by}
use Rattle.scanning.specs.Pieces.{answer_of}
use Rattle.scanning.proofs.ByteLaws.{digit_separates_not}

-- numbers before what the rest is read as
unfoldable pub prepend_all : List ℕ → Reading → Reading
prepend_all [] reading = reading
prepend_all (v ∷ vs) reading = prepend v (prepend_all vs reading)

pub prepend_append : (xs ys : List ℕ) (reading : Reading) → prepend_all (xs ++ ys) reading ≡ prepend_all xs (prepend_all ys reading)
unfolding prepend_all
prepend_append [] ys reading = refl
prepend_append (x ∷ xs) ys reading = ap (prepend x) (prepend_append xs ys reading)

pub prepend_none : (xs : List ℕ) → prepend_all xs (numbers []) ≡ numbers xs
unfolding prepend_all
prepend_none [] = refl
prepend_none (x ∷ xs) = ap (prepend x) (prepend_none xs)

pub prepend_stuck : (xs : List ℕ) (place : ℕ) → prepend_all xs (unreadable place) ≡ unreadable place
unfolding prepend_all
prepend_stuck [] place = refl
prepend_stuck (x ∷ xs) place = ap (prepend x) (prepend_stuck xs place)

-- what the rest of a text is read as in a state, and what its end is read as once the last number is taken off
unfoldable pub onward : State → ℕ → List ℕ → Reading
onward Outside at rest = outside at rest
onward (Inside start value) at rest = inside at start.0 value rest
onward (Stuck place) at rest = unreadable place.0

abbrev pub end_of : State → Reading
end_of Outside = numbers []
end_of (Inside start value) = numbers []
end_of (Stuck place) = unreadable place.0

pub onward_end : (state : State) (at : ℕ) → onward state at [] ≡ prepend_all (ended_by state 32) (end_of state)
unfolding outside onward prepend_all is_separator
onward_end Outside at = refl
onward_end (Inside start value) at = refl
onward_end (Stuck place) at = refl

-- one byte more
pub onward_step : (state : State) (at byte : ℕ) (rest : List ℕ) →
    onward state at (byte ∷ rest) ≡ prepend_all (ended_by state byte) (onward (after_of state (place_at at) byte) (suc at) rest)
unfolding outside onward prepend_all with_value
onward_step Outside at byte rest =
    elim (bool? (is_digit byte)) [
      | inl p ↦ rw p
      | inr p ↦ elim (bool? (is_separator byte)) [ inl q ↦ rw (p, q) | inr q ↦ rw (p, q) ]
    ]
onward_step (Inside start value) at byte rest =
    elim (bool? (is_digit byte)) [
      | inl p ↦
          elim (bool? (leb (10 * value + (byte - 48)) largest)) [
            | inl q ↦ rw (digit_separates_not byte p, p, q)
            | inr q ↦ rw (digit_separates_not byte p, p, q)
          ]
      | inr p ↦ elim (bool? (is_separator byte)) [ inl q ↦ rw (p, q) | inr q ↦ rw (p, q) ]
    ]
onward_step (Stuck place) at byte rest = refl

-- what the answer then is
pub answer_is : (state : State) (found : List ℕ) → answer_of state (length found) ≡ scanned_for (prepend_all found (end_of state))
answer_is Outside found = rw (prepend_none found)
answer_is (Inside start value) found = rw (prepend_none found)
answer_is (Stuck place) found = rw (prepend_stuck found place.0)

-- and the numbers that a text that can be read is read as
pub found_all : (state : State) (found values : List ℕ) → prepend_all found (end_of state) ≡ numbers values → values ≡ found
found_all Outside found values p = let e : numbers found ≡ numbers values = rw (prepend_none found) at p in cc
found_all (Inside start value) found values p = let e : numbers found ≡ numbers values = rw (prepend_none found) at p in cc
found_all (Stuck place) found values p =
    let e : unreadable place.0 ≡ numbers values = rw (prepend_stuck found place.0) at p in
    let z : ◌≡◌ {A = ℕ} 0 1 = cc in
    absurd (omega arith)

-- a byte ends at most the one number that the text's end would end
pub ended_few : (state : State) (byte : ℕ) → length (ended_by state byte) ≤ length (ended_by state 32)
unfolding is_separator
ended_few Outside byte = omega arith
ended_few (Inside start value) byte = elim (bool? (is_separator byte)) [ inl p ↦ rw p (omega arith) | inr p ↦ rw p (omega arith) ]
ended_few (Stuck place) byte = omega arith

ended_one : (state : State) → length (ended_by state 32) ≤ 1
unfolding is_separator
ended_one Outside = omega arith
ended_one (Inside start value) = omega arith
ended_one (Stuck place) = omega arith

pub ended_then : (state : State) (at : TextPlace) (byte : ℕ) →
    length (ended_by state byte) + length (ended_by (after_of state at byte) 32) ≤ length (ended_by state 32) + 1
unfolding is_separator
ended_then Outside at byte = omega (arith, ended_one (after_of Outside at byte))
ended_then (Inside start value) at byte =
    omega (arith, ended_few (Inside start value) byte, ended_one (after_of (Inside start value) at byte))
ended_then (Stuck place) at byte = omega arith
