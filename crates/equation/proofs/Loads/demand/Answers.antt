-- `Loads::demand` meets its contract: one cost of each load, and what the places before the own and those behind it ask for besides.
-- Assumes nothing.
use native.Mathlib.Omega.{arith}
use Rattle.equation.proofs.SliceLaws.{part_fits, demand_parts}
use Rattle.equation.proofs.Loads.demand.Goals as goal

pub with_more-requires : goal.with_more-requires
with_more-requires c = record { loads_fit = c.requires.loads_fit.0; le_w = (c.requires.le_w.0, c.requires.le_w.1, part_fits _ _ _ _ _ c.requires.loads_fit.0 c.requires.le_w.1 _ _ _ (omega arith) c.with_more-before.ensures c.requires.loads_fit.1) }

pub returns : goal.returns
returns c = demand_parts c.requires.loads_fit.0 _ _ _ _ c.requires.le_w.0 c.requires.le_w.1 c.requires.loads_fit.2 c.requires.loads_fit.1 _ _ (rw (c.from.ensures, c.from-2.ensures) at c.with_more-before.ensures) c.with_more.ensures
