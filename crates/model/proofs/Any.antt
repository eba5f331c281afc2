-- Whether one of the first numbers passes a test.
-- Assumes nothing.
use Prim.Native.Nat.{ℕ, zero, suc, ◌<◌}
use native.Mathlib.Omega.{arith}
use native.Mathlib.Decide.{ℕ_discrete}
use mathlib.Core.Path.{◌≡◌, refl, subst}
use mathlib.Core.Bool.{Bool, true, false}
use Rattle.model.specs.Search.{any}
use Rattle.model.proofs.Tests.{either_left, either_right, either_neither}

module _ (test : ℕ → Bool) where
  pub any_none : (n : ℕ) → ((k : ℕ) → k < n → test k ≡ false) → any test n ≡ false
  unfolding any
  any_none zero fails = refl
  any_none (suc n) fails = either_neither (any test n) (test n) (any_none n (λ k l. fails k (omega arith))) (fails n (omega arith))

  pub any_some : (n k : ℕ) → k < n → test k ≡ true → any test n ≡ true
  unfolding any
  any_some zero k h p = absurd (omega arith)
  any_some (suc n) k h p =
      elim (ℕ_discrete k n) [
        | yes e ↦ either_right (any test n) (test n) (subst (λ (j : ℕ). test j ≡ true) e p)
        | no d ↦ either_left (any test n) (test n) (any_some n k (omega arith) p)
      ]
