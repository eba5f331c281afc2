use Prim.Native.Nat.{◌≤◌}
use mathlib.Core.Path.{◌≡◌}
use Rattle.marks.specs.Marks.{never, first_mark_at, least_from}
use Rattle.marks.proofs.least_first.Given as goal

abbrev pub invariant-loop-k : goal.invariant-loop-k
invariant-loop-k l = (l.k ≤ l.n) × (l.least.0 ≡ least_from never (first_mark_at l.periods l.spreads) l.k)
