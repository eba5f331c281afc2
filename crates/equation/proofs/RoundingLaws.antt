-- Rounding up: the least k with k · d ≥ n.
-- Assumes nothing.
use Prim.Native.Nat.{ℕ, zero, suc, ◌+◌, ◌*◌, ◌-◌, ◌/◌, ◌≤◌, ◌<◌}
use native.Mathlib.Omega.{arith}
use native.Mathlib.Nat.{div-zero, div-mul-le_self, le-div_iff_mul-le, div-lt_iff_lt-mul, lt-div-mul-add, div-eq_of_lt-le, le-mul_of_pos_right}
use mathlib.Core.Path.{◌≡◌}
use Rattle.equation.specs.Rounding.{ceil_div}

pub enough : (n d : ℕ) → 1 ≤ d → n ≤ ceil_div n d * d
enough n d h = omega (arith, lt-div-mul-add {a = n + (d - 1)} {b = d} h)

pub least : (n d k : ℕ) → 1 ≤ d → n ≤ k * d → ceil_div n d ≤ k
least n d k h p =
    let q : ceil_div n d < suc k = (div-lt_iff_lt-mul {k = d} {x = n + (d - 1)} {y = suc k} h).1 (omega arith) in
    omega arith

pub monotone : (m n d : ℕ) → m ≤ n → ceil_div m d ≤ ceil_div n d
monotone m n zero h = omega (arith, div-zero (m + (0 - 1)), div-zero (n + (0 - 1)))
monotone m n (suc d) h =
    (le-div_iff_mul-le {k = suc d} {x = ceil_div m (suc d)} {y = n + (suc d - 1)} (omega arith)).1
    (omega (arith, div-mul-le_self (m + (suc d - 1)) (suc d)))

pub exact : (k d : ℕ) → 1 ≤ d → ceil_div (k * d) d ≡ k
exact k d h = div-eq_of_lt-le {k = k} d {m = k * d + (d - 1)} (omega arith) (omega arith)

-- at 0 the quotient is 0, and elsewhere one more than that of the number before
pub at_zero : (d : ℕ) → 1 ≤ d → ceil_div 0 d ≡ 0
at_zero d h = omega (arith, least 0 d 0 h (omega arith))

pub after_one : (n d : ℕ) → 1 ≤ d → 1 ≤ n → ceil_div n d ≡ (n - 1) / d + 1
after_one n d h p =
    div-eq_of_lt-le {k = (n - 1) / d + 1} d {m = n + (d - 1)}
    (omega (arith, div-mul-le_self (n - 1) d))
    (omega (arith, lt-div-mul-add {a = n - 1} {b = d} h))

-- a number of at least 1 rounds up to at least 1
pub positive : (n d : ℕ) → 1 ≤ d → 1 ≤ n → 1 ≤ ceil_div n d
positive n d h p = omega (arith, after_one n d h p)

-- the quotient is at most the number
pub at_most : (n d : ℕ) → 1 ≤ d → ceil_div n d ≤ n
at_most n d h = least n d n h (le-mul_of_pos_right n h)
