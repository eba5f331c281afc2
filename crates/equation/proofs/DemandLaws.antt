-- Demand is monotone in w, and at least base: for any list of loads.
-- Assumes nothing.
use Prim.Native.Nat.{ℕ, suc, ◌+◌, ◌≤◌, ◌<◌}
use native.Mathlib.Omega.{arith}
use native.Mathlib.Nat.{mul-le-mul_left}
use mathlib.Core.Path.{◌≡◌}
use mathlib.Core.List.{List, [], ◌∷◌, ◌++◌}
use lib.ListN.{length, get_or}
use Rattle.model.specs.Lists.{sum_of}
use Rattle.model.specs.Tables.{Load}
use Rattle.model.proofs.Lists.{sum_mono, sum_append}
use Rattle.equation.specs.Demand.{demand, share}
use Rattle.equation.specs.Laws.{cost_of, no_load}
use Rattle.equation.proofs.RoundingLaws as rounding

pub monotone : (base : ℕ) (loads : List Load) (v w : ℕ) → v ≤ w → demand base loads v ≤ demand base loads w
unfolding demand
monotone base loads v w h =
    omega (
      arith,
      sum_mono (share v) (share w) loads
          (λ l. mul-le-mul_left l.cost (rounding.monotone (v + l.spread) (w + l.spread) l.period (omega arith))),
    )

pub at_least_base_law : (base : ℕ) (loads : List Load) (w : ℕ) → base ≤ demand base loads w
unfolding demand
at_least_base_law base loads w = omega arith

-- one more load
pub demand_more : (base : ℕ) (loads : List Load) (l : Load) (w : ℕ) → demand base (loads ++ (l ∷ [])) w ≡ demand base loads w + share w l
unfolding demand sum_of
demand_more base loads l w = omega (arith, sum_append (share w) loads (l ∷ []))

pub demand_none : (base w : ℕ) → demand base [] w ≡ base
unfolding demand sum_of
demand_none base w = omega arith

-- in a stretch of at least one tick each load asks for its cost at least once
pub costs_once : (loads : List Load) (w : ℕ) → 1 ≤ w →
    ((k : ℕ) → k < length loads → 1 ≤ (get_or loads k no_load).period) →
    sum_of cost_of loads ≤ sum_of (share w) loads
unfolding sum_of
costs_once [] w h p = omega arith
costs_once (l ∷ ls) w h p =
    omega (
      arith,
      mul-le-mul_left l.cost (rounding.positive (w + l.spread) l.period (p 0 (omega arith)) (omega arith)),
      costs_once ls w h (λ k q. p (suc k) (omega arith)),
    )
