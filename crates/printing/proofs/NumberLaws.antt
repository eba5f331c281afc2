-- The digits that `io::decimal` gives are those of `decimal_of`.
-- Assumes nothing.
use Prim.Native.Nat.{ℕ, ◌-◌, ◌^◌, ◌≤◌, ◌<◌}
use native.Mathlib.Omega.{arith}
use native.Mathlib.Nat.{pow-le-pow_right, zero-lt-suc}
use native.Mathlib.Decide.{dec_le}
use mathlib.Core.Path.{◌≡◌, refl, sym, ◌∙◌, ap}
use mathlib.Core.Bool.{true, false}
use mathlib.Core.Logic.{inl, inr}
use mathlib.Core.List.{List}
use lib.ListN.{take}
use Rattle.io.specs.Digits.{last_digits, IsDigitCount}
use Rattle.model.proofs.Search.{Found, finds}
use Rattle.model.proofs.Tests.{ltb?}
use Rattle.printing.specs.Text.{is_held, decimal_of}

power_more : (i j : ℕ) → i ≤ j → 10 ^ i ≤ 10 ^ j
power_more i j h = pow-le-pow_right (zero-lt-suc 9) h

pub is_held_law : (number count : ℕ) → number < 10 ^ count → is_held number count ≡ true
is_held_law number count h =
    elim (ltb? number (10 ^ count)) [
      | inl p ↦ p.0
      | inr p ↦ absurd (omega (arith, p.1))
    ]

is_not_held : (number count : ℕ) → 10 ^ count ≤ number → is_held number count ≡ false
is_not_held number count h =
    elim (ltb? number (10 ^ count)) [
      | inl p ↦ absurd (omega (arith, p.1))
      | inr p ↦ p.0
    ]

fewest_found : (number count : ℕ) → IsDigitCount 10 1 number count → count ≤ 20 → Found (is_held number) 1 20 count
fewest_found number count f most =
    record {
      passes = is_held_law number count f.1;
      low = f.0;
      high = omega arith;
      first = λ v l h.
          let smaller : 10 ^ v ≤ 10 ^ (count - 1) = power_more v (count - 1) (omega arith) in
          is_not_held number v (omega (arith, smaller, f.2 (omega arith)));
    }

-- 20 digits hold every number of 64 bits
few_digits : (number count : ℕ) → IsDigitCount 10 1 number count → number < 18446744073709551616 → count ≤ 20
few_digits number count f small =
    elim (dec_le count 20) [
      | yes h ↦ h
      | no h ↦
          let large : 10 ^ 20 ≤ 10 ^ (count - 1) = power_more 20 (count - 1) (omega arith) in
          let value : 10 ^ 20 ≡ 100000000000000000000 = refl in
          absurd (omega (arith, large, value, f.2 (omega arith)))
    ]

pub decimal_is : (text : List ℕ) (number count : ℕ) → number < 18446744073709551616 → IsDigitCount 10 1 number count →
    take count text ≡ last_digits 10 count number → take count text ≡ decimal_of number
unfolding decimal_of
decimal_is text number count small f e =
    let found = fewest_found number count f (few_digits number count f small) in
    e ∙ ap (λ (k : ℕ). last_digits 10 k number) (sym (finds (is_held number) 1 20 count found))
