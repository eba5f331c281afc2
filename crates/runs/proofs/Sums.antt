-- Sums over the first numbers, and their link to sums over lists.
-- Assumes nothing.
use Prim.Native.Nat.{ℕ, zero, suc, ◌+◌, ◌*◌, ◌≤◌, ◌<◌}
use native.Mathlib.Nat.{mul-zero, mul-suc, mul-add, not-suc-le-zero, lt-suc_self, le_refl}
use native.Mathlib.Decide.{ℕ_discrete}
use native.Mathlib.Omega.{arith}
use mathlib.Core.Path.{◌≡◌, refl, sym, ap}
use mathlib.Core.Logic.{◌≢◌, inl, inr}
use mathlib.Core.Bool.{Bool, true, false}
use mathlib.Core.List.{List, [], ◌∷◌}
use lib.ListN.{length, get_or}
use Rattle.model.specs.Choice.{both, on}
use Rattle.model.specs.Lists.{sum_of, total}
use Rattle.model.specs.Tables.{is_other}
use Rattle.model.proofs.Tests.{bool?}
use Rattle.model.proofs.Totals.{total_mono, total_same, total_add}
use Rattle.model.proofs.Loads.{other_own, other_is}

pub total_times : (c : ℕ) (f : ℕ → ℕ) (n : ℕ) → total (λ k. c * f k) n ≡ c * total f n
unfolding total
total_times c f zero = sym (mul-zero c)
total_times c f (suc n) = rw mul-add (omega (arith, total_times c f n))

pub total_zero : (f : ℕ → ℕ) (n : ℕ) → ((k : ℕ) → k < n → f k ≡ 0) → total f n ≡ 0
unfolding total
total_zero f zero h = refl
total_zero f (suc n) h = omega (arith, total_zero f n (λ k l. h k (omega arith)), h n (lt-suc_self n))

-- a sum of sums, either way round
pub total_swap : (f : ℕ → ℕ → ℕ) (m n : ℕ) → total (λ j. total (f j) m) n ≡ total (λ p. total (λ j. f j p) n) m
unfolding total
total_swap f m zero = sym (total_zero (λ p. 0) m (λ p l. refl))
total_swap f m (suc n) = omega (arith, total_swap f m n, total_add (λ p. total (λ j. f j p) n) (f n) m)

-- a sum of which all counts or nothing
pub total_on : (b : Bool) (f : ℕ → ℕ) (n : ℕ) → total (λ k. on b (f k)) n ≡ on b (total f n)
total_on true f n = refl
total_on false f n = total_zero (λ k. 0) n (λ k l. refl)

-- a sum in which one summand alone counts
pub total_point : (f : ℕ → ℕ) (p n : ℕ) → p < n → ((k : ℕ) → k < n → k ≢ p → f k ≡ 0) → total f n ≡ f p
unfolding total
total_point f p zero l h = absurd (not-suc-le-zero l)
total_point f p (suc n) l h =
    elim (ℕ_discrete n p) [
      | yes e ↦ rw (← e) (omega (arith, total_zero f n (λ k m. h k (omega arith) (omega arith))))
      | no e ↦ omega (arith, total_point f p n (omega arith) (λ k m d. h k (omega arith) d), h n (lt-suc_self n) e)
    ]

-- of two sums over what passes a test
pub total_mono_on : (test : ℕ → Bool) (f g : ℕ → ℕ) (n : ℕ) → ((k : ℕ) → k < n → f k ≤ g k) →
    total (λ k. on (test k) (f k)) n ≤ total (λ k. on (test k) (g k)) n
total_mono_on test f g n h =
    total_mono (λ k. on (test k) (f k)) (λ k. on (test k) (g k)) n
    (λ k l. elim (bool? (test k)) [ inl p ↦ rw p (h k l) | inr p ↦ rw p (le_refl 0) ])

-- what passes a test, number i apart from the others
pub total_apart : (test : ℕ → Bool) (f : ℕ → ℕ) (i n : ℕ) → i < n →
    total (λ p. on (test p) (f p)) n ≡ on (test i) (f i) + total (λ p. on (both (is_other i p) (test p)) (f p)) n
unfolding total
total_apart test f i zero l = absurd (not-suc-le-zero l)
total_apart test f i (suc n) l =
    elim (ℕ_discrete n i) [
      | yes e ↦
          rw (e, other_own i)
          (omega (
            arith,
            total_same (λ p. on (test p) (f p)) (λ p. on (both (is_other i p) (test p)) (f p)) i
                (λ p m. rw (other_is i p (omega arith)) refl),
          ))
      | no d ↦ rw (other_is i n d) (omega (arith, total_apart test f i n (omega arith)))
    ]

-- a sum whose first m summands are c each, and whose later ones are 0
pub total_first : (c : ℕ) (f : ℕ → ℕ) (m n : ℕ) → m ≤ n → ((k : ℕ) → k < m → f k ≡ c) → ((k : ℕ) → m ≤ k → k < n → f k ≡ 0) →
    total f n ≡ c * m
unfolding total
total_first c f zero zero h first later = sym (mul-zero c)
total_first c f (suc m) zero h first later = absurd (not-suc-le-zero h)
total_first c f m (suc n) h first later =
    elim (ℕ_discrete m (suc n)) [
      | yes e ↦
          rw (e, mul-suc)
          (omega (
            arith,
            total_first c f n n (le_refl n) (λ k l. first k (omega arith)) (λ k l u. absurd (omega arith)),
            first n (omega arith),
          ))
      | no d ↦ omega (arith, total_first c f m n (omega arith) first (λ k l u. later k l (omega arith)), later n (omega arith) (lt-suc_self n))
    ]

-- where no summand of f is above g's and the sums are the same, so are the summands
pub total_tight : (f g : ℕ → ℕ) (n : ℕ) → ((k : ℕ) → k < n → f k ≤ g k) → total g n ≤ total f n → (k : ℕ) → k < n → g k ≤ f k
unfolding total
total_tight f g zero h t k l = absurd (not-suc-le-zero l)
total_tight f g (suc n) h t k l =
    let smaller : total f n ≤ total g n = total_mono f g n (λ i m. h i (omega arith)) in
    let here : f n ≤ g n = h n (lt-suc_self n) in
    elim (ℕ_discrete k n) [
      | yes e ↦ rw e (omega arith)
      | no e ↦ total_tight f g n (λ i m. h i (omega arith)) (omega arith) k (omega arith)
    ]

-- a test that at most one number passes
pub total_once : (f : ℕ → ℕ) (n : ℕ) → ((k : ℕ) → k < n → f k ≤ 1) →
    ((a b : ℕ) → a < n → b < n → 1 ≤ f a → 1 ≤ f b → a ≡ b) → total f n ≤ 1
unfolding total
total_once f zero small only = omega arith
total_once f (suc n) small only =
    elim (ℕ_discrete (f n) 0) [
      | yes e ↦ omega (arith, total_once f n (λ k l. small k (omega arith)) (λ a b l m. only a b (omega arith) (omega arith)))
      | no e ↦
          let none : total f n ≡ 0 = total_zero f n (λ k l. elim (ℕ_discrete (f k) 0) [
            | yes z ↦ z
            | no z ↦ absurd (omega (arith, only k n (omega arith) (lt-suc_self n) (omega arith) (omega arith)))
          ]) in
          omega (arith, small n (lt-suc_self n))
    ]

-- the first summand apart from the others
pub total_front : (f : ℕ → ℕ) (n : ℕ) → total f (suc n) ≡ f 0 + total (λ k. f (suc k)) n
unfolding total
total_front f zero = omega arith
total_front f (suc n) = omega (arith, total_front f n)

module _ {A : Type 0} where
  -- a sum over a list is the sum over its numbers
  pub sum_total : (f : A → ℕ) (d : A) (xs : List A) → sum_of f xs ≡ total (λ k. f (get_or xs k d)) (length xs)
  unfolding sum_of total
  sum_total f d [] = refl
  sum_total f d (x ∷ xs) = rw total_front (ap (λ (n : ℕ). f x + n) (sum_total f d xs))
