-- What the code's `Loads` stand for: a list of loads, over lent slices.
-- Assumes nothing.
use Rattle.std.specs.Prelude.{ℕ, List}
use Rattle.model.specs.Tables.{Load}
use Rattle.equation.specs.declared.Loads.{Loads}
use Rattle.equation.specs.Slices.{loads, more_at, LoadsFit}

abbrev pub loads_from : Loads → List Load
loads_from l = loads l.periods.now l.costs.now l.spreads.now l.own l.count

-- the slices hold so many loads, each within the limits
abbrev pub Fit : Loads → ℕ → Type 0
Fit l count = LoadsFit l.periods.now l.costs.now l.spreads.now count

abbrev pub more_from : Loads → (w : ℕ) → ℕ → ℕ
more_from l w k = more_at l.periods.now l.costs.now l.spreads.now w k
