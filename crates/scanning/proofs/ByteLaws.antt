-- What the tests of a byte say of it.
-- Assumes nothing.
use Prim.Native.Nat.{ℕ, ◌≤◌}
use native.Mathlib.Omega.{arith}
use mathlib.Core.Path.{◌≡◌, sym, ◌∙◌}
use mathlib.Core.Bool.{Bool, true, false}
use mathlib.Core.Logic.{inl, inr}
use lib.Dec.{leb}
use Rattle.std.specs.Char.{is_ascii_digit}
use Rattle.std.proofs.lemmas.Bool.Decides.{nat_tests}
use borrow.Author.Tests.{le-leb, leb-true, ne_eqb}
use Rattle.model.proofs.Tests.{bool?, clash, both_true, both_pass}
use Rattle.scanning.specs.Reading.{is_digit, is_separator}

-- the library's test of a digit
pub digit_same : (byte : ℕ) → is_ascii_digit byte ≡ is_digit byte
unfolding is_digit
digit_same byte = grind (arith, nat_tests)

pub digit_range : (byte : ℕ) → is_digit byte ≡ true → (48 ≤ byte) × (byte ≤ 57)
unfolding is_digit
digit_range byte p =
    let tests = both_true (leb 48 byte) (leb byte 57) p in
    (leb-true 48 byte tests.0, leb-true byte 57 tests.1)

pub digit_here : (byte : ℕ) → 48 ≤ byte → byte ≤ 57 → is_digit byte ≡ true
unfolding is_digit
digit_here byte low high = both_pass (le-leb 48 byte low) (le-leb byte 57 high)

-- a digit is no separator, and a separator no digit
pub digit_separates_not : (byte : ℕ) → is_digit byte ≡ true → is_separator byte ≡ false
unfolding is_separator
digit_separates_not byte p =
    let range = digit_range byte p in
    rw (
      ne_eqb byte 32 (λ e. omega (arith, range)),
      ne_eqb byte 9 (λ e. omega (arith, range)),
      ne_eqb byte 44 (λ e. omega (arith, range)),
      ne_eqb byte 10 (λ e. omega (arith, range)),
      ne_eqb byte 13 (λ e. omega (arith, range)),
    )

pub separator_counts_not : (byte : ℕ) → is_separator byte ≡ true → is_digit byte ≡ false
separator_counts_not byte p =
    elim (bool? (is_digit byte)) [
      | inl q ↦ absurd (clash (is_separator byte) p (digit_separates_not byte q))
      | inr q ↦ q
    ]

-- what a function answered, and how the code then went on
pub went : {r b d : Bool} → r ≡ b → r ≡ d → b ≡ d
went e t = sym e ∙ t
