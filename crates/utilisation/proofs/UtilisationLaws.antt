-- The sum of the rounded shares against the exact sum, by induction over any tasks.
-- Assumes nothing.
use Prim.Native.Nat.{ℕ, suc, ◌+◌, ◌*◌, ◌-◌, ◌≤◌, ◌<◌}
use native.Mathlib.Omega.{arith}
use native.Mathlib.Nat.{le_of_lt, div-mul-le_self, mul-pos, mul-le-mul_left, mul-le-mul_right}
use mathlib.Core.Path.{refl}
use mathlib.Core.List.{List, [], ◌∷◌}
use lib.ListN.{length}
use Rattle.model.specs.Lists.{sum_of}
use Rattle.model.specs.Tables.{Task}
use Rattle.equation.proofs.RoundingLaws.{enough}
use Rattle.tables.specs.Fields.{task_count_field, period_field}
use Rattle.tables.specs.Layout.{task_count}
use Rattle.tables.proofs.LayoutLaws.{task_is, tasks_count}
use Rattle.utilisation.specs.Utilisation.{share_of, utilisation_of, periods_product, exact_over, PeriodsPositive, UtilisationRight, TableTasks, PairDrawn}

-- one share is less than its exact value plus one
share_below : (cost period : ℕ) → 1 ≤ period → suc (share_of cost period * period) ≤ 1000000 * cost + period
share_below cost period h = omega (arith, div-mul-le_self (1000000 * cost + (period - 1)) period)

first_positive : (t : Task) (ts : List Task) → PeriodsPositive (t ∷ ts) → 1 ≤ t.period
first_positive t ts h = h 0 (omega arith)

later_positive : (t : Task) (ts : List Task) → PeriodsPositive (t ∷ ts) → PeriodsPositive ts
later_positive t ts h i l = h (suc i) (omega arith)

product_positive : (ts : List Task) → PeriodsPositive ts → 1 ≤ periods_product ts
unfolding periods_product
product_positive [] h = omega arith
product_positive (t ∷ ts) h = mul-pos (first_positive t ts h) (product_positive ts (later_positive t ts h))

at_least_law : (ts : List Task) → PeriodsPositive ts → exact_over ts ≤ utilisation_of ts * periods_product ts
unfolding periods_product exact_over sum_of
at_least_law [] h = omega arith
at_least_law (t ∷ ts) h =
    omega (
      arith,
      mul-le-mul_right (periods_product ts) (enough (1000000 * t.cost) t.period (first_positive t ts h)),
      mul-le-mul_left t.period (at_least_law ts (later_positive t ts h)),
    )

-- one more task: the bound is kept, and from now on it is not reached
one_below : (t : Task) (ts : List Task) → PeriodsPositive (t ∷ ts) →
    utilisation_of ts * periods_product ts ≤ exact_over ts + length ts * periods_product ts →
    utilisation_of (t ∷ ts) * periods_product (t ∷ ts) < exact_over (t ∷ ts) + length (t ∷ ts) * periods_product (t ∷ ts)
unfolding periods_product exact_over sum_of
one_below t ts h kept =
    omega (
      arith,
      mul-le-mul_right (periods_product ts) (share_below t.cost t.period (first_positive t ts h)),
      mul-le-mul_left t.period kept,
      product_positive ts (later_positive t ts h),
    )

not_above_law : (ts : List Task) → PeriodsPositive ts → utilisation_of ts * periods_product ts ≤ exact_over ts + length ts * periods_product ts
unfolding sum_of
not_above_law [] h = omega arith
not_above_law (t ∷ ts) h = le_of_lt (one_below t ts h (not_above_law ts (later_positive t ts h)))

below : (ts : List Task) → PeriodsPositive ts → 1 ≤ length ts →
    utilisation_of ts * periods_product ts < exact_over ts + length ts * periods_product ts
below [] h some = absurd (omega arith)
below (t ∷ ts) h some = one_below t ts h (not_above_law ts (later_positive t ts h))

pub utilisation_right : UtilisationRight
utilisation_right = record { at_least = at_least_law; below = below }

pub table_tasks : TableTasks
table_tasks bytes right = (
  λ i l.
      let inside : i < task_count bytes = omega (arith, tasks_count bytes) in
      rw (task_is bytes i inside) (right.records i inside period_field).low,
  omega (arith, tasks_count bytes, (right.head.counts task_count_field).low),
)

pub pair_drawn : PairDrawn
unfolding exact_over periods_product sum_of
pair_drawn = (refl, refl, refl)
