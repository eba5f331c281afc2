-- `utilisation::share` meets its contract: both ways of rounding up give the same.
-- Assumes nothing.
use Rattle.std.proofs.Common.{ℕ, ◌+◌, ◌-◌, ◌/◌, ◌%◌, ◌≤◌, ◌≡◌, min, sym, arith}
use Rattle.std.proofs.lemmas.Grind.{div_ceil_times}
use native.Mathlib.Nat.{div-eq_of_lt-le}
use Rattle.equation.specs.Rounding.{ceil_div}
use Rattle.utilisation.proofs.share.Goals as goal

rounded_up : (n d : ℕ) → 1 ≤ d → n / d + min 1 (n % d) ≡ ceil_div n d
rounded_up n d some =
    let between = div_ceil_times n d some in
    sym (div-eq_of_lt-le {k = n / d + min 1 (n % d)} d {m = n + (d - 1)} (omega (arith, between.1)) (omega (arith, between.0)))

pub returns : goal.returns
returns c = grind (arith, rounded_up)
