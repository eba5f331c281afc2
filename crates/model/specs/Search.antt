-- The first number that passes a test, whether one does, and the first answer that is not clean: searches, one number after the other.
-- Assumes nothing.
use Rattle.std.specs.Prelude.{ℕ, zero, suc, Bool, false}
use Rattle.model.specs.Choice.{pick, either}

-- the smallest of the `count` numbers from `start` on that passes the test, and 0 where none does
-- (the `let` has the checker look at later numbers only where the test fails)
unfoldable pub first_from : (ℕ → Bool) → ℕ → ℕ → ℕ
first_from test start zero = 0
first_from test start (suc count) =
    let later = first_from test (suc start) count in
    pick (test start) start later

-- does one of the numbers below n pass the test?
unfoldable pub any : (ℕ → Bool) → ℕ → Bool
any test zero = false
any test (suc n) = either (any test n) (test n)

module _ {A : Type 0} (clean : A → Bool) (none : A) where
  -- the first of f 0 to f (n − 1) that is not clean, and `none` where all are
  unfoldable pub first_of : (ℕ → A) → ℕ → A
  first_of f zero = none
  first_of f (suc n) = pick (clean (first_of f n)) (f n) (first_of f n)

  -- how many of f 0 to f (n − 1) stand before that one
  unfoldable pub clean_count : (ℕ → A) → ℕ → ℕ
  clean_count f zero = 0
  clean_count f (suc n) = pick (clean (first_of f (suc n))) (suc n) (clean_count f n)
