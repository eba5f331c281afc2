-- A test and what it says, in one case split.
-- Assumes nothing.
use Prim.Native.Nat.{ℕ, ◌≤◌, ◌<◌}
use mathlib.Core.Path.{◌≡◌, refl, sym, ◌∙◌}
use mathlib.Core.Bool.{Bool, true, false, not}
use mathlib.Core.Logic.{◌⊎◌, inl, inr}
use native.Mathlib.Omega.{arith}
use lib.Dec.{ltb, leb, eqb}
use borrow.Author.Tests.{ltb-true, ltb-false, leb-true, leb-false, eqb-true, eqb-false, not-true, not-false}
use Rattle.model.specs.Choice.{both, either, on}

pub bool? : (b : Bool) → (b ≡ true) ⊎ (b ≡ false)
bool? true = inl refl
bool? false = inr refl

pub ltb? : (m n : ℕ) → ((ltb m n ≡ true) × (m < n)) ⊎ ((ltb m n ≡ false) × (n ≤ m))
ltb? m n =
    elim (bool? (ltb m n)) [
      | inl p ↦ inl (p, ltb-true m n p)
      | inr p ↦ inr (p, ltb-false m n p)
    ]

pub leb? : (m n : ℕ) → ((leb m n ≡ true) × (m ≤ n)) ⊎ ((leb m n ≡ false) × (n < m))
leb? m n =
    elim (bool? (leb m n)) [
      | inl p ↦ inl (p, leb-true m n p)
      | inr p ↦ inr (p, leb-false m n p)
    ]

pub eqb? : (m n : ℕ) → ((eqb m n ≡ true) × (m ≡ n)) ⊎ ((eqb m n ≡ false) × (m ≡ n → ⊥))
eqb? m n =
    elim (bool? (eqb m n)) [
      | inl p ↦ inl (p, eqb-true m n p)
      | inr p ↦ inr (p, eqb-false m n p)
    ]

-- a test that both passes and fails
pub clash : (b : Bool) → b ≡ true → b ≡ false → ⊥
clash b p q = let z : ◌≡◌ {A = ℕ} 0 1 = cc in omega arith

-- either of two tests
pub either_left : (a b : Bool) → a ≡ true → either a b ≡ true
either_left a b p = rw p

pub either_right : (a b : Bool) → b ≡ true → either a b ≡ true
either_right true b p = refl
either_right false b p = p

pub either_neither : (a b : Bool) → a ≡ false → b ≡ false → either a b ≡ false
either_neither a b p q = rw p q

pub not_either : (a b : Bool) → either a b ≡ false → (a ≡ false) × (b ≡ false)
not_either true b p = absurd (clash true refl p)
not_either false b p = (refl, p)

-- what a function answered, where the code tests its opposite
pub refuted : {r b : Bool} → r ≡ b → not r ≡ true → b ≡ false
refuted {r} e p = sym e ∙ not-true r p

pub confirmed : {r b : Bool} → r ≡ b → not r ≡ false → b ≡ true
confirmed {r} e p = sym e ∙ not-false r p

-- both of two tests
pub both_true : (a b : Bool) → both a b ≡ true → (a ≡ true) × (b ≡ true)
both_true true b p = (refl, p)
both_true false b p = absurd (clash false p refl)

pub both_pass : {a b : Bool} → a ≡ true → b ≡ true → both a b ≡ true
both_pass p q = rw p q

pub either_true : (a b : Bool) → either a b ≡ true → (a ≡ false → b ≡ true)
either_true true b p q = absurd (clash true refl q)
either_true false b p q = p

-- what stands behind a test is no more than it is
pub on_high : (b : Bool) (n : ℕ) → on b n ≤ n
on_high true n = omega arith
on_high false n = omega arith

pub both_fail : (a b : Bool) → b ≡ false → both a b ≡ false
both_fail true b p = p
both_fail false b p = refl

pub both_unit : (b : Bool) → both b true ≡ b
both_unit true = refl
both_unit false = refl
