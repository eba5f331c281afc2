-- The items of a slice's beginning, `xs[..n]`, one after the other: item i is word i, and i is below n.
-- Assumes nothing.
use Prim.Native.Nat.{ℕ, ◌<◌, ◌≤◌}
use native.Mathlib.Omega.{arith}
use mathlib.Core.Path.{◌≡◌}
use mathlib.Core.List.{List}
use lib.ListN.{length, take, get_or, length-take}
use lib.Seq.{get_or-take}

module _ (n : ℕ) (xs : List ℕ) {i : ℕ} where
  pub below : i < length (take n xs) → i < n
  below h = omega (arith, h, length-take n xs)

  pub item : i < length (take n xs) → get_or (take n xs) i 0 ≡ get_or xs i 0
  item h = get_or-take n xs i 0 (below h)

  pub all_gone : n ≤ length xs → length (take n xs) ≤ i → n ≤ i
  all_gone long h = omega (arith, long, h, length-take n xs)
