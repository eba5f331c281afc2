-- The delays of a task by what their two numbers are.
-- Assumes nothing.
use Prim.Native.Nat.{ℕ}
use mathlib.Core.Path.{◌≡◌}
use mathlib.Core.Logic.{inl, inr}
use mathlib.Core.List.{[], ◌++◌}
use Rattle.model.proofs.Tests.{eqb?}
use Rattle.printing.specs.Text.{bytes_of, with_number}
use Rattle.writing.specs.Text.{next_number, delays_text}

-- what stands behind a deadline
module _ (earliest latest : ℕ) where
  pub delays_both : (earliest ≡ 0 → ⊥) → with_number (bytes_of " delays ") earliest ++ next_number latest ≡ delays_text earliest latest
  unfolding delays_text
  delays_both some =
      elim (eqb? earliest 0) [
        | inl p ↦ absurd (some p.1)
        | inr p ↦ rw p.0
      ]

  pub delays_latest : earliest ≡ 0 → (latest ≡ 0 → ⊥) → with_number (bytes_of " jitter ") latest ≡ delays_text earliest latest
  unfolding delays_text
  delays_latest none some =
      elim (eqb? latest 0) [
        | inl p ↦ absurd (some p.1)
        | inr p ↦ rw (none, p.0)
      ]

  pub delays_none : earliest ≡ 0 → latest ≡ 0 → [] ≡ delays_text earliest latest
  unfolding delays_text
  delays_none none neither = rw (none, neither)
