-- The first answer that is not clean, and how many stand before it: what a loop that stops there has found.
-- Assumes nothing.
use Prim.Native.Nat.{ℕ, zero, suc, ◌+◌, ◌<◌}
use native.Mathlib.Omega.{arith}
use native.Mathlib.Decide.{ℕ_discrete}
use native.Mathlib.Numerals.{add-one}
use mathlib.Core.Path.{◌≡◌, refl, sym, ◌∙◌, ap, subst}
use mathlib.Core.Bool.{Bool, true, false}
use mathlib.Core.Logic.{inl, inr}
use Rattle.model.specs.Search.{first_of, clean_count}
use Rattle.model.proofs.Tests.{bool?, clash}

module _ {A : Type 0} (clean : A → Bool) (none : A) (none_clean : clean none ≡ true) (f : ℕ → A) where
  pub first_none : first_of clean none f 0 ≡ none
  unfolding first_of
  first_none = refl

  after_clean : (n : ℕ) → clean (first_of clean none f n) ≡ true → first_of clean none f (suc n) ≡ f n
  unfolding first_of
  after_clean n p = rw p

  after_fault : (n : ℕ) → clean (first_of clean none f n) ≡ false → first_of clean none f (suc n) ≡ first_of clean none f n
  unfolding first_of
  after_fault n p = rw p

  -- clean so far, and clean at k
  pub first_on : (k : ℕ) → first_of clean none f k ≡ none → f k ≡ none → first_of clean none f (k + 1) ≡ none
  first_on k p q = rw add-one (after_clean k (rw p none_clean) ∙ q)

  -- clean so far, and a fault at k: that one is the first of any more
  pub first_stop : (k : ℕ) → first_of clean none f k ≡ none → clean (f k) ≡ false → (n : ℕ) → k < n → first_of clean none f n ≡ f k
  first_stop k p q zero h = absurd (omega arith)
  first_stop k p q (suc n) h =
      elim (ℕ_discrete k n) [
        | yes e ↦
            subst (λ (m : ℕ). first_of clean none f (suc m) ≡ f k) e (after_clean k (rw p none_clean))
        | no e ↦
            let earlier = first_stop k p q n (omega arith) in
            after_fault n (rw earlier q) ∙ earlier
      ]

  count_clean : (n : ℕ) → clean (first_of clean none f (suc n)) ≡ true → clean_count clean none f (suc n) ≡ suc n
  unfolding clean_count
  count_clean n p = rw p

  count_fault : (n : ℕ) → clean (first_of clean none f (suc n)) ≡ false → clean_count clean none f (suc n) ≡ clean_count clean none f n
  unfolding clean_count
  count_fault n p = rw p

  pub count_on : (k : ℕ) → first_of clean none f k ≡ none → clean_count clean none f k ≡ k
  unfolding clean_count
  count_on zero p = refl
  count_on (suc k) p = count_clean k (rw p none_clean)

  pub count_stop : (k : ℕ) → first_of clean none f k ≡ none → clean (f k) ≡ false → (n : ℕ) → k < n → clean_count clean none f n ≡ k
  count_stop k p q zero h = absurd (omega arith)
  count_stop k p q (suc n) h =
      count_fault n (rw (first_stop k p q (suc n) h) q)
      ∙ elim (ℕ_discrete k n) [
        | yes e ↦ subst (λ (m : ℕ). clean_count clean none f m ≡ k) e (count_on k p)
        | no e ↦ count_stop k p q n (omega arith)
      ]

  module _ (only : (x : A) → clean x ≡ true → x ≡ none) where
    -- where none is found, each is clean
    pub all_clean : (n : ℕ) → first_of clean none f n ≡ none → (k : ℕ) → k < n → f k ≡ none
    all_clean zero p k h = absurd (omega arith)
    all_clean (suc n) p k h =
        elim (bool? (clean (first_of clean none f n))) [
          | inl y ↦
              elim (ℕ_discrete k n) [
                | yes e ↦ ap f e ∙ sym (after_clean n y) ∙ p
                | no e ↦ all_clean n (only (first_of clean none f n) y) k (omega arith)
              ]
          | inr x ↦ absurd (clash (clean none) none_clean (ap clean (sym p ∙ after_fault n x) ∙ x))
        ]

    -- where each is clean, none is found
    pub none_found : (n : ℕ) → ((k : ℕ) → k < n → f k ≡ none) → first_of clean none f n ≡ none
    unfolding first_of
    none_found zero p = refl
    none_found (suc n) p =
        after_clean n (rw (none_found n (λ k h. p k (omega arith))) none_clean) ∙ p n (omega arith)

    -- a fault that is found is that of some k, and all before it are clean
    pub first_found : (n : ℕ) → clean (first_of clean none f n) ≡ false →
        (k : ℕ) × (k < n) × (first_of clean none f n ≡ f k) × ((j : ℕ) → j < k → f j ≡ none)
    unfolding first_of
    first_found zero p = absurd (clash (clean none) none_clean p)
    first_found (suc n) p =
        elim (bool? (clean (first_of clean none f n))) [
          | inl y ↦ (n, omega arith, after_clean n y, all_clean n (only (first_of clean none f n) y))
          | inr x ↦
              let g = first_found n x in
              (g.0, omega (arith, g.1), after_fault n x ∙ g.2, g.3)
        ]

module _ {A : Type 0} (clean : A → Bool) (none : A) where
  -- two functions that agree below n have the same first answer that is not clean
  pub first_same : (f g : ℕ → A) (n : ℕ) → ((k : ℕ) → k < n → f k ≡ g k) → first_of clean none f n ≡ first_of clean none g n
  unfolding first_of
  first_same f g zero h = refl
  first_same f g (suc n) h = rw (first_same f g n (λ k l. h k (omega arith)), h n (omega arith))

-- what is found, told in another way: where clean answers are told as clean ones
module _ {A : Type 0} {B : Type 0} (clean : A → Bool) (none : A) (other : B → Bool) (nothing : B) (told : A → B) where
  pub first_told : told none ≡ nothing → ((x : A) → clean x ≡ other (told x)) → (f : ℕ → A) (g : ℕ → B) (n : ℕ) →
      ((k : ℕ) → k < n → told (f k) ≡ g k) → told (first_of clean none f n) ≡ first_of other nothing g n
  unfolding first_of
  first_told base agree f g zero same = base
  first_told base agree f g (suc n) same =
      let before = first_told base agree f g n (λ k h. same k (omega arith)) in
      elim (bool? (clean (first_of clean none f n))) [
        | inl p ↦ rw (p, sym (ap other before) ∙ sym (agree (first_of clean none f n)) ∙ p) (same n (omega arith))
        | inr p ↦ rw (p, sym (ap other before) ∙ sym (agree (first_of clean none f n)) ∙ p) before
      ]
