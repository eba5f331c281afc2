-- Laws of sums over the first numbers.
-- Assumes nothing.
use Prim.Native.Nat.{ℕ, zero, suc, ◌+◌, ◌*◌, ◌≤◌, ◌<◌}
use native.Mathlib.Nat.{lt-suc_self, le_refl}
use native.Mathlib.Numerals.{add-one}
use native.Mathlib.Omega.{arith}
use native.Mathlib.Decide.{ℕ_discrete}
use mathlib.Core.Path.{◌≡◌, refl, ap}
use Rattle.model.specs.Lists.{total}

pub total_none : (f : ℕ → ℕ) → total f 0 ≡ 0
unfolding total
total_none f = refl

pub total_more : (f : ℕ → ℕ) (n : ℕ) → total f (n + 1) ≡ total f n + f n
unfolding total
total_more f n = rw add-one

pub total_mono : (f g : ℕ → ℕ) (n : ℕ) → ((k : ℕ) → k < n → f k ≤ g k) → total f n ≤ total g n
unfolding total
total_mono f g zero h = le_refl 0
total_mono f g (suc n) h = omega (arith, total_mono f g n (λ k l. h k (omega arith)), h n (lt-suc_self n))

pub total_same : (f g : ℕ → ℕ) (n : ℕ) → ((k : ℕ) → k < n → f k ≡ g k) → total f n ≡ total g n
unfolding total
total_same f g zero h = refl
total_same f g (suc n) h = omega (arith, total_same f g n (λ k l. h k (omega arith)), h n (lt-suc_self n))

pub total_add : (f g : ℕ → ℕ) (n : ℕ) → total (λ k. f k + g k) n ≡ total f n + total g n
unfolding total
total_add f g zero = refl
total_add f g (suc n) = omega (arith, total_add f g n)

-- a sum of numbers within a limit
pub total_high : (f : ℕ → ℕ) (n high : ℕ) → ((k : ℕ) → k < n → f k ≤ high) → total f n ≤ n * high
unfolding total
total_high f zero high each = omega arith
total_high f (suc n) high each = omega (arith, total_high f n high (λ k l. each k (omega arith)), each n (omega arith))

-- a longer sum is no smaller
pub total_longer : (f : ℕ → ℕ) (n m : ℕ) → n ≤ m → total f n ≤ total f m
unfolding total
total_longer f n zero h = let e : n ≡ 0 = omega arith in omega (arith, ap (total f) e)
total_longer f n (suc m) h =
    elim (ℕ_discrete n (suc m)) [
      | yes e ↦ omega (arith, ap (total f) e)
      | no e ↦ omega (arith, total_longer f n m (omega arith))
    ]
