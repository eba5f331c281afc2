-- Whether one of the delays is above 0.
-- Assumes nothing.
use Prim.Native.Nat.{ℕ, zero, suc, ◌+◌, ◌≤◌, ◌<◌}
use native.Mathlib.Omega.{arith}
use native.Mathlib.Numerals.{add-one}
use mathlib.Core.Path.{◌≡◌, refl, sym, ◌∙◌, ap}
use mathlib.Core.List.{List}
use lib.Bits.{bit_or, and_le_l, and_le_r, or_add_and}
use lib.Dec.{ltb}
use borrow.Author.Tests.{lt-ltb}
use Rattle.model.specs.Lists.{largest_to, word_of}

-- the words put together before place i: 0 where all of them are, and only there
pub record Together (latest : List ℕ) (n i together : ℕ) : Type 0 where
  pub within : i ≤ n
  pub above : largest_to (word_of latest) i ≤ together
  pub calm : largest_to (word_of latest) i ≡ 0 → together ≡ 0

pub together_first : (latest : List ℕ) (n : ℕ) → Together latest n 0 0
unfolding largest_to
together_first latest n = record { within = omega arith; above = omega arith; calm = λ e. refl }

pub together_more : {latest : List ℕ} {n i together : ℕ} → Together latest n i together → i < n →
    Together latest n (i + 1) (bit_or together (word_of latest i))
unfolding largest_to
together_more {latest} {n} {i} {together} t h =
    let low = and_le_l together (word_of latest i) in
    let high = and_le_r together (word_of latest i) in
    let summed = or_add_and together (word_of latest i) in
    record {
      within = omega arith;
      above = rw (add-one i) (omega (arith, t.above, low, high, summed));
      calm = rw (add-one i) (λ e. omega (arith, t.calm (omega (arith, e)), e, summed));
    }

pub together_all : {latest : List ℕ} {n i together : ℕ} → Together latest n i together → n ≤ i →
    ltb 0 together ≡ ltb 0 (largest_to (word_of latest) n)
together_all {latest} {n} {i} {together} t h =
    let all : i ≡ n = omega (arith, t.within) in
    above_same together (largest_to (word_of latest) i) t.above t.calm ∙ ap (λ (k : ℕ). ltb 0 (largest_to (word_of latest) k)) all
  where
    above_same : (a b : ℕ) → b ≤ a → (b ≡ 0 → a ≡ 0) → ltb 0 a ≡ ltb 0 b
    above_same zero b low calm =
        let none : b ≡ 0 = omega arith in
        ap (ltb 0) (sym none)
    above_same (suc a) zero low calm = absurd (omega (arith, calm refl))
    above_same (suc a) (suc b) low calm = lt-ltb 0 (suc a) (omega arith) ∙ sym (lt-ltb 0 (suc b) (omega arith))
