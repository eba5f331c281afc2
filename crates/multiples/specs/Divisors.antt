-- The greatest common divisor of two numbers (SPECIFICATION 13.12; document 02, L10).
-- Assumes nothing.
use Rattle.std.specs.Prelude.{ℕ, ◌≤◌, ◌≡◌}
use Rattle.std.specs.Int.{◌∣◌}

-- "the common divisor": it divides both, and every common divisor divides it
pub record GreatestDivisor (a b g : ℕ) : Type 0 where
  pub first : g ∣ a
  pub second : g ∣ b
  pub greatest : (d : ℕ) → d ∣ a → d ∣ b → d ∣ g

-- so that none is greater, where it is not 0: that is where a and b are not both 0
abbrev pub NoneGreater : Type 0
NoneGreater = (a b g d : ℕ) → GreatestDivisor a b g → 1 ≤ g → d ∣ a → d ∣ b → d ≤ g

-- and there is only one
abbrev pub NoSecondDivisor : Type 0
NoSecondDivisor = (a b g h : ℕ) → GreatestDivisor a b g → GreatestDivisor a b h → g ≡ h
