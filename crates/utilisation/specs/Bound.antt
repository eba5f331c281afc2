-- The Liu and Layland bound for n tasks, in millionths (SPECIFICATION 13.12; document 02, L10).
-- Assumes nothing.
use Rattle.std.specs.Prelude.{ℕ, ◌+◌, ◌*◌, ◌-◌, ◌^◌, ◌≤◌, ◌≡◌, Bool, ltb}
use Rattle.model.specs.Search.{first_from}

-- "(1,000,000n + v)^n at most 2(1,000,000n)^n"
abbrev pub Passes : ℕ → ℕ → Type 0
Passes n v = (1000000 * n + v) ^ n ≤ 2 * (1000000 * n) ^ n

-- "entry n is the largest v with" that: v passes, the next number doesn't, and none above it does
pub record Largest (n v : ℕ) : Type 0 where
  pub passes : Passes n v
  pub over : Passes n (v + 1) → ⊥
  pub largest : (w : ℕ) → Passes n w → w ≤ v

-- the opposite of `Passes`, as a test
abbrev pub is_over : ℕ → ℕ → Bool
is_over n w = ltb (2 * (1000000 * n) ^ n) ((1000000 * n + w) ^ n)

-- "entry n": the number before the first, from 1 on, that is over. 1,000,001 is over for every n from 1 on.
unfoldable pub bound_of : ℕ → ℕ
bound_of n = first_from (is_over n) 1 1000001 - 1

-- what the search gives is what document 02 asks for, for any number of tasks
abbrev pub BoundRight : Type 0
BoundRight = (n : ℕ) → 1 ≤ n → Largest n (bound_of n)

-- and nothing else is
abbrev pub NoSecondBound : Type 0
NoSecondBound = (n v w : ℕ) → Largest n v → Largest n w → v ≡ w

-- "entry 1 is 1,000,000 and entry 2 is 828,427"
abbrev pub FirstBounds : Type 0
FirstBounds = (bound_of 1 ≡ 1000000) × (bound_of 2 ≡ 828427)

-- and two more: that of the example's three tasks, and the last
abbrev pub MoreBounds : Type 0
MoreBounds = (bound_of 3 ≡ 779763) × (bound_of 200 ≡ 694349)
