-- The first of the first n words of a slice that passes a test, as `position` tells it.
-- Assumes nothing.
use Prim.Native.Nat.{ℕ, ◌≤◌, ◌<◌}
use native.Mathlib.Omega.{arith}
use native.Mathlib.Decide.{dec_lt}
use mathlib.Core.Path.{◌≡◌, sym, ◌∙◌, ap}
use mathlib.Core.Bool.{Bool, true, false}
use mathlib.Core.List.{List}
use lib.ListN.{length, take}
use borrow.Author.Tests.{lt-ltb}
use Rattle.std.specs.Prelude.{Some, None}
use Rattle.std.specs.List.{position, position_or_len}
use Rattle.std.proofs.lemmas.List.{get_or-take, length-take-le}
use Rattle.std.proofs.lemmas.List.Quantifiers.{position-Some}
use Rattle.std.proofs.lemmas.List.Sums.{fails_before_first}
use Rattle.model.specs.Lists.{word_of}

module _ (test : ℕ → Bool) (words : List ℕ) (n : ℕ) (room : n ≤ length words) where
  abbrev front : List ℕ
  front = take n words

  taken : (k : ℕ) → k < n → word_of front k ≡ word_of words k
  taken k h = get_or-take n words k 0 h

  -- it passes, and none before it does
  pub first_passes : (i : ℕ) → position test front ≡ Some i →
      (i < n) × (test (word_of words i) ≡ true) × ((k : ℕ) → k < i → test (word_of words k) ≡ false)
  first_passes i found =
      let first = position-Some test front i 0 found in
      let inside : i < n = omega (arith, first.0, length-take-le n words room) in (
        inside,
        sym (ap test (taken i inside)) ∙ first.1,
        λ k h. sym (ap test (taken k (omega arith))) ∙ first.2 k h,
      )

  -- where there is none, all fail
  pub none_passes : position test front ≡ None → (k : ℕ) → k < n → test (word_of words k) ≡ false
  none_passes missed k h =
      sym (ap test (taken k h)) ∙ fails_before_first test front k 0 (omega (arith, past, length-take-le n words room))
    where
      past : length front ≤ position_or_len test front
      past =
          elim (dec_lt (position_or_len test front) (length front)) [
            | yes l ↦ absurd (let found = rw (lt-ltb _ _ l) at missed in cc)
            | no l ↦ omega arith
          ]
