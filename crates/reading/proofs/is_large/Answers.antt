-- `reading::is_large` meets its contract: the layout is the one that the version decides.
-- Assumes nothing.
use native.Mathlib.Omega.{arith}
use Rattle.tables.proofs.CheckLaws.{head_right}
use Rattle.reading.proofs.is_large.Goals as goal

pub bounds-table-0 : goal.bounds-table-0
bounds-table-0 c = omega (arith, (head_right _ c.requires).long_enough)
