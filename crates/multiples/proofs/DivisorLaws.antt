-- Euclid's rule: with 0, and on the remainder.
-- Assumes nothing.
use Prim.Native.Nat.{ℕ, ◌%◌}
use native.Mathlib.Nat.{dvd_refl, dvd-zero, dvd-mod_iff, dvd_antisymm, le_of_dvd}
use Rattle.multiples.specs.Divisors.{GreatestDivisor, NoneGreater, NoSecondDivisor}

pub gcd_zero : (a : ℕ) → GreatestDivisor a 0 a
gcd_zero a = record { first = dvd_refl a; second = dvd-zero a; greatest = λ d p q. p }

pub gcd_remainder : (a b g : ℕ) → GreatestDivisor b (a % b) g → GreatestDivisor a b g
gcd_remainder a b g r =
    record {
      first = (dvd-mod_iff g {m = a} {n = b} r.first).0 r.second;
      second = r.first;
      greatest = λ d p q. r.greatest d q ((dvd-mod_iff d {m = a} {n = b} q).1 p);
    }

pub none_greater : NoneGreater
none_greater a b g d r positive p q = le_of_dvd positive (r.greatest d p q)

pub no_second_divisor : NoSecondDivisor
no_second_divisor a b g h r s = dvd_antisymm (s.greatest g r.first r.second) (r.greatest h s.first s.second)
