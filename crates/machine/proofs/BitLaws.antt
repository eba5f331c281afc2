-- The bits of a word, one place at a time: of words put together, of words of one bit, and the lowest that is set.
-- Assumes nothing.
use Prim.Native.Nat.{ℕ, zero, suc, ◌-◌, ◌/◌, ◌%◌, ◌^◌, ◌≤◌, ◌<◌, min, max}
use native.Mathlib.Nat.{pow-suc, div-eq_of_lt, lt_of_lt_of_le}
use native.Mathlib.Numerals.{one-add}
use native.Mathlib.Decide.{ℕ_discrete}
use native.Mathlib.Omega.{arith}
use mathlib.Core.Path.{◌≡◌, refl, sym, ◌∙◌, ap}
use mathlib.Core.Bool.{not}
use lib.Dec.{eqb, eqb-zero-suc, eqb-suc-zero, eqb-suc-suc}
use borrow.Author.Tests.{eq-eqb, ne_eqb}
use lib.Pow.{pow-lt, pow_mono, pow_pos, shr-shr}
use lib.Bits.{bit_or, bit_and, or_step, and_step, or_shr, and_shr}
use lib.Count.{count_trailing_zeros}
use Rattle.model.specs.Choice.{on}
use Rattle.machine.specs.Machine.{bit_of}

-- the bits above the lowest are those of the half
pub bit_suc : (w p : ℕ) → bit_of w (suc p) ≡ bit_of (w / 2) p
bit_suc w p = ap (λ (x : ℕ). x % 2) (sym (shr-shr w 1 p ∙ ap (λ (x : ℕ). w / 2 ^ x) (one-add p)))

-- a word below 2 ^ k has no bit from k on
pub high_bits : (k w p : ℕ) → w < 2 ^ k → k ≤ p → bit_of w p ≡ 0
high_bits k w p h l = ap (λ (x : ℕ). x % 2) (div-eq_of_lt (lt_of_lt_of_le h (pow_mono l)))

-- and is 0 where it has none before k either
pub no_bits : (k w : ℕ) → w < 2 ^ k → ((p : ℕ) → p < k → bit_of w p ≡ 0) → w ≡ 0
no_bits zero w h f = omega arith
no_bits (suc k) w h f =
    omega (
      arith,
      no_bits k (w / 2) (omega (arith, pow-suc 2 k)) (λ p l. sym (bit_suc w p) ∙ f (suc p) (omega arith)),
      f 0 (omega arith),
    )

pub bit_or_law : (a b p : ℕ) → bit_of (bit_or a b) p ≡ max (bit_of a p) (bit_of b p)
bit_or_law a b p = ap (λ (x : ℕ). x % 2) (or_shr a b p) ∙ lowest_or (a / 2 ^ p) (b / 2 ^ p)
  where
    lowest_or : (x y : ℕ) → bit_or x y % 2 ≡ max (x % 2) (y % 2)
    lowest_or x y = omega (arith, or_step x y)

pub bit_and_law : (a b p : ℕ) → bit_of (bit_and a b) p ≡ min (bit_of a p) (bit_of b p)
bit_and_law a b p = ap (λ (x : ℕ). x % 2) (and_shr a b p) ∙ lowest_and (a / 2 ^ p) (b / 2 ^ p)
  where
    lowest_and : (x y : ℕ) → bit_and x y % 2 ≡ min (x % 2) (y % 2)
    lowest_and x y = omega (arith, and_step x y)

-- the word of one bit
abbrev pub single : ℕ → ℕ
single q = 2 ^ q

-- it has that bit and no other
pub bit_single : (q p : ℕ) → bit_of (single q) p ≡ on (eqb p q) 1
bit_single zero zero = refl
bit_single zero (suc p) = rw eqb-suc-zero (high_bits 1 1 (suc p) (omega arith) (omega arith))
bit_single (suc q) zero = rw eqb-zero-suc (omega (arith, pow-suc 2 q))
bit_single (suc q) (suc p) =
    let half : 2 ^ suc q / 2 ≡ 2 ^ q = omega (arith, pow-suc 2 q) in
    rw (eqb-suc-suc p q) (bit_suc (2 ^ suc q) p ∙ ap (λ (x : ℕ). bit_of x p) half ∙ bit_single q p)

pub single_small : (k p : ℕ) → p < k → single p < 2 ^ k
single_small k p h = pow-lt h

-- all bits before k are set
bit_ones : (k p : ℕ) → p < k → bit_of (2 ^ k - 1) p ≡ 1
bit_ones zero p h = absurd (omega arith)
bit_ones (suc k) zero h = omega (arith, pow-suc 2 k, pow_pos k)
bit_ones (suc k) (suc p) h =
    let half : (2 ^ suc k - 1) / 2 ≡ 2 ^ k - 1 = omega (arith, pow-suc 2 k, pow_pos k) in
    bit_suc (2 ^ suc k - 1) p ∙ ap (λ (x : ℕ). bit_of x p) half ∙ bit_ones k p (omega arith)

-- the opposite of such a word, in k bits, has all bits but that of its place
pub bit_inverse : (k q p : ℕ) → q < k → p < k → bit_of (2 ^ k - 1 - single q) p ≡ on (not (eqb p q)) 1
bit_inverse zero q p h l = absurd (omega arith)
bit_inverse (suc k) zero zero h l = omega (arith, pow-suc 2 k, pow_pos k)
bit_inverse (suc k) zero (suc p) h l =
    let half : (2 ^ suc k - 1 - 1) / 2 ≡ 2 ^ k - 1 = omega (arith, pow-suc 2 k, pow_pos k) in
    rw eqb-suc-zero (bit_suc (2 ^ suc k - 1 - 1) p ∙ ap (λ (x : ℕ). bit_of x p) half ∙ bit_ones k p (omega arith))
bit_inverse (suc k) (suc q) zero h l =
    rw eqb-zero-suc (omega (arith, pow-suc 2 k, pow-suc 2 q, pow-lt {i = q} {j = k} (omega arith)))
bit_inverse (suc k) (suc q) (suc p) h l =
    let half : (2 ^ suc k - 1 - 2 ^ suc q) / 2 ≡ 2 ^ k - 1 - 2 ^ q =
    omega (arith, pow-suc 2 k, pow-suc 2 q, pow-lt {i = q} {j = k} (omega arith)) in
    rw (eqb-suc-suc p q)
    (bit_suc (2 ^ suc k - 1 - 2 ^ suc q) p ∙ ap (λ (x : ℕ). bit_of x p) half ∙ bit_inverse k q p (omega arith) (omega arith))

-- a bit is set by a word of one bit, and cleared by its opposite; the others stay
pub set_own : (w q p : ℕ) → p ≡ q → bit_of (bit_or w (single q)) p ≡ 1
set_own w q p e = omega (arith, bit_or_law w (single q) p, rw (eq-eqb p q e) at (bit_single q p))

pub set_other : (w q p : ℕ) → ¬ (p ≡ q) → bit_of (bit_or w (single q)) p ≡ bit_of w p
set_other w q p e = omega (arith, bit_or_law w (single q) p, rw (ne_eqb p q e) at (bit_single q p))

pub clear_own : (k w q p : ℕ) → q < k → p ≡ q → bit_of (bit_and w (2 ^ k - 1 - single q)) p ≡ 0
clear_own k w q p h e =
    omega (arith, bit_and_law w (2 ^ k - 1 - single q) p, rw (eq-eqb p q e) at (bit_inverse k q p h (omega arith)))

pub clear_other : (k w q p : ℕ) → q < k → p < k → ¬ (p ≡ q) → bit_of (bit_and w (2 ^ k - 1 - single q)) p ≡ bit_of w p
clear_other k w q p h l e =
    omega (arith, bit_and_law w (2 ^ k - 1 - single q) p, rw (ne_eqb p q e) at (bit_inverse k q p h l))

-- the zeros below the lowest bit: one more than the half has, or none
trailing_even : (k w : ℕ) → w % 2 ≡ 0 → count_trailing_zeros (suc k) w ≡ suc (count_trailing_zeros k (w / 2))
unfolding count_trailing_zeros
trailing_even k w e = rw e

trailing_odd : (k w : ℕ) → w % 2 ≡ 1 → count_trailing_zeros (suc k) w ≡ 0
unfolding count_trailing_zeros
trailing_odd k w e = rw e

-- no bit before the place that they give is set
pub lowest_first : (k w p : ℕ) → p < count_trailing_zeros k w → bit_of w p ≡ 0
unfolding count_trailing_zeros
lowest_first zero w p h = absurd (omega arith)
lowest_first (suc k) w zero h =
    elim (ℕ_discrete (w % 2) 0) [ no e ↦ absurd (omega (arith, trailing_odd k w (omega arith))) | yes e ↦ omega arith ]
lowest_first (suc k) w (suc p) h =
    elim (ℕ_discrete (w % 2) 0) [
      | no e ↦ absurd (omega (arith, trailing_odd k w (omega arith)))
      | yes e ↦ bit_suc w p ∙ lowest_first k (w / 2) p (omega (arith, trailing_even k w e))
    ]

-- and the one at that place is, where it is one of the k
pub lowest_set : (k w : ℕ) → count_trailing_zeros k w < k → bit_of w (count_trailing_zeros k w) ≡ 1
lowest_set zero w h = absurd (omega arith)
lowest_set (suc k) w h =
    elim (ℕ_discrete (w % 2) 0) [
      | no e ↦ rw (trailing_odd k w (omega arith)) (omega arith)
      | yes e ↦
          rw (trailing_even k w e)
          (bit_suc w (count_trailing_zeros k (w / 2)) ∙ lowest_set k (w / 2) (omega (arith, trailing_even k w e)))
    ]
