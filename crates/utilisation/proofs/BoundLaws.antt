-- The Liu and Layland bound: the search finds it for any number of tasks, there is no second, and how an entry of a table is tested.
-- Assumes nothing.
use Prim.Native.Nat.{ℕ, zero, suc, ◌+◌, ◌*◌, ◌-◌, ◌^◌, ◌≤◌, ◌<◌}
use native.Mathlib.Omega.{arith}
use native.Mathlib.Decide.{dec_le}
use native.Mathlib.Nat.{le_trans, lt_of_lt_of_le, lt_irrefl, mul-pos, mul-le-mul_right, lt_of_mul-lt-mul_right, add-zero, pow-zero, pow-suc, pow-le-pow_left, one-le-pow}
use mathlib.Core.Path.{◌≡◌, refl, sym, ◌∙◌, ap, subst}
use mathlib.Core.Bool.{Bool, true, false}
use mathlib.Core.List.{List}
use lib.Dec.{leb}
use lib.ListN.{length, get_or}
use borrow.Author.Tests.{leb-true, ltb-true, ltb-false, lt-ltb}
use Rattle.model.specs.Choice.{both}
use Rattle.model.specs.Search.{first_from}
use Rattle.model.proofs.Tests.{clash, both_true}
use Rattle.model.proofs.Search.{Found, found, missed}
use Rattle.utilisation.specs.Bound.{Passes, Largest, is_over, bound_of, BoundRight, NoSecondBound, FirstBounds, MoreBounds}
use Rattle.utilisation.proofs.TableLaws.{every, at_entry}

-- a number that passes is smaller than one that is over
smaller : (n v w : ℕ) → 2 * (1000000 * n) ^ n < (1000000 * n + v) ^ n → Passes n w → w < v
smaller n v w over passes =
    elim (dec_le v w) [
      | yes l ↦
          absurd
          (lt_irrefl (2 * (1000000 * n) ^ n)
          (lt_of_lt_of_le over (le_trans (pow-le-pow_left {n = 1000000 * n + v} {m = 1000000 * n + w} (omega arith) n) passes)))
      | no l ↦ omega arith
    ]

-- a number that passes, where the next is over, is the largest
largest : (n v : ℕ) → Passes n v → 2 * (1000000 * n) ^ n < (1000000 * n + (v + 1)) ^ n → Largest n v
largest n v passes over =
    record {
      passes = passes;
      over = λ p. omega (arith, smaller n (v + 1) (v + 1) over p);
      largest = λ w p. omega (arith, smaller n (v + 1) w over p);
    }

pub no_second_bound : NoSecondBound
no_second_bound n v w a b = omega (arith, a.largest w b.passes, b.largest v a.passes)

-- (a + b)^n a is at least a^n (a + n b)
grows_step : (a b p q n : ℕ) → p * (a + n * b) ≤ q * a → p * a * (a + suc n * b) ≤ q * (a + b) * a
grows_step a b p q n h = omega (arith, mul-le-mul_right (a + b) h)

grows : (a b n : ℕ) → a ^ n * (a + n * b) ≤ (a + b) ^ n * a
grows a b zero = rw (pow-zero a, pow-zero (a + b)) (omega arith)
grows a b (suc n) = rw (pow-suc a n, pow-suc (a + b) n) (grows_step a b (a ^ n) ((a + b) ^ n) n (grows a b n))

-- so that 1,000,001 is over, for any number of tasks
over_step : (n p q : ℕ) → 1 ≤ n → 1 ≤ p → p * (1000000 * n + n * 1000001) ≤ q * (1000000 * n) → 2 * p * (1000000 * n) < q * (1000000 * n)
over_step n p q one pos h = omega (arith, mul-pos pos one)

last_over : (n : ℕ) → 1 ≤ n → 2 * (1000000 * n) ^ n < (1000000 * n + 1000001) ^ n
last_over n one =
    lt_of_mul-lt-mul_right (1000000 * n)
    (over_step n ((1000000 * n) ^ n) ((1000000 * n + 1000001) ^ n) one (one-le-pow n (1000000 * n) (omega arith)) (grows (1000000 * n) 1000001 n))

-- the search finds the first that is over
search_finds : (n : ℕ) → 1 ≤ n → Found (is_over n) 1 1000001 (first_from (is_over n) 1 1000001)
search_finds n one =
    elim (dec_le 1 (first_from (is_over n) 1 1000001)) [
      | yes h ↦ found (is_over n) 1 1000001 (omega arith) h
      | no h ↦
          let none : is_over n 1000001 ≡ false = missed (is_over n) 1 1000001 (omega arith) (omega arith) 1000001 (omega arith) (omega arith) in
          absurd (clash (is_over n 1000001) (lt-ltb _ _ (last_over n one)) none)
    ]

-- the search begins at 1: 0 passes
zero_passes : (n : ℕ) → Passes n 0
zero_passes n = rw (add-zero (1000000 * n)) (omega arith)

-- the number before the first that is over passes
before_passes : (n first : ℕ) → Found (is_over n) 1 1000001 first → Passes n (first - 1)
before_passes n first f =
    elim (dec_le first 1) [
      | yes l ↦ let e : first - 1 ≡ 0 = omega arith in rw e (zero_passes n)
      | no l ↦ ltb-false (2 * (1000000 * n) ^ n) ((1000000 * n + (first - 1)) ^ n) (f.first (first - 1) (omega arith) (omega arith))
    ]

pub bound_right : BoundRight
unfolding bound_of
bound_right n one =
    let first = first_from (is_over n) 1 1000001 in
    let f = search_finds n one in
    let e : first ≡ first - 1 + 1 = omega (arith, f.low) in
    largest n (first - 1) (before_passes n first f)
    (subst (λ (w : ℕ). 2 * (1000000 * n) ^ n < (1000000 * n + w) ^ n) e (ltb-true _ _ f.passes))

-- the test of a table's entry: that at place k, which is for k + 1 tasks, passes, and the next number doesn't
abbrev passed : ℕ → ℕ → Bool
passed k v = leb ((1000000 * suc k + v) ^ suc k) (2 * (1000000 * suc k) ^ suc k)

unfoldable pub right : ℕ → ℕ → Bool
right k v = both (passed k v) (is_over (suc k) (v + 1))

right_means : (k v : ℕ) → right k v ≡ true → v ≡ bound_of (suc k)
unfolding right
right_means k v p =
    let tests = both_true (passed k v) (is_over (suc k) (v + 1)) p in
    no_second_bound (suc k) v (bound_of (suc k))
    (largest (suc k) v (leb-true _ _ tests.0) (ltb-true _ _ tests.1))
    (bound_right (suc k) (omega arith))

pub first_bounds : FirstBounds
unfolding right
first_bounds = (sym (right_means 0 1000000 refl), sym (right_means 1 828427 refl))

pub more_bounds : MoreBounds
unfolding right
more_bounds = (sym (right_means 2 779763 refl), sym (right_means 199 694349 refl))

-- an entry of a table of 200 at each of which the test passes
pub entry_is : (entries : List ℕ) → length entries ≡ 200 → every right 0 entries ≡ true → (n : ℕ) → (1 ≤ n) × (n ≤ 200) →
    get_or entries (n - 1) 0 ≡ bound_of n
entry_is entries long passes n within =
    let e : suc (n - 1) ≡ n = omega arith in
    right_means (n - 1) (get_or entries (n - 1) 0) (at_entry right entries passes (n - 1) (omega arith)) ∙ ap bound_of e
