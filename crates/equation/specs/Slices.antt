-- How three lent slices of numbers are a list of loads, and within which limits the sums are made.
-- Assumes nothing.
use Rattle.std.specs.Prelude.{ℕ, ◌-◌, ◌≤◌, ◌<◌, List, length, get_or}
use Rattle.model.specs.Lists.{gather}
use Rattle.model.specs.Tables.{Load, is_other}
use Rattle.equation.specs.Demand.{share}

abbrev pub load : (period cost spread : ℕ) → Load
load period cost spread = record { period = period; cost = cost; spread = spread }

abbrev pub load_at : List ℕ → List ℕ → List ℕ → ℕ → Load
load_at periods costs spreads k = load (get_or periods k 0) (get_or costs k 0) (get_or spreads k 0)

-- the loads of the first `count` places but for place `own`, if that is one of them
abbrev pub loads : List ℕ → List ℕ → List ℕ → (own count : ℕ) → List Load
loads periods costs spreads own count = gather (is_other own) (load_at periods costs spreads) count

-- what a load asks for in w ticks beside its cost
abbrev pub more : ℕ → Load → ℕ
more w l = share w l - l.cost

abbrev pub more_at : List ℕ → List ℕ → List ℕ → ℕ → ℕ → ℕ
more_at periods costs spreads w k = more w (load_at periods costs spreads k)

-- the limits for one load (SPECIFICATION 2.5; document 01): "T and C are 1 to 1,000,000", "J is 0 to 1,000,000"
pub record LoadFits (l : Load) : Type 0 where
  pub period_low : 1 ≤ l.period
  pub cost_high : l.cost ≤ 1000000
  pub spread_high : l.spread ≤ 1000000

-- the slices hold `count` loads, each within the limits, and they are at most 200
pub record LoadsFit (periods costs spreads : List ℕ) (count : ℕ) : Type 0 where
  pub few : count ≤ 200
  pub periods_long : count ≤ length periods
  pub costs_long : count ≤ length costs
  pub spreads_long : count ≤ length spreads
  pub each : (k : ℕ) → k < count → LoadFits (load_at periods costs spreads k)
