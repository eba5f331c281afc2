-- `response::find_blocking` meets its contract: the columns hold the table that the bytes mean, so its blocking is theirs.
-- Assumes nothing.
use native.Mathlib.Omega.{arith}
use Rattle.reading.proofs.HeldLaws.{held_cut, held_right}
use Rattle.response.proofs.DecodedLaws.{ranks_held_law, rows_held, blocking_found}
use Rattle.response.proofs.find_blocking.Goals as goal

pub bounds-table-3 : goal.bounds-table-3
bounds-table-3 c = omega (arith, (held_right c.requires.by_index.1).head.long_enough)

pub bounds-table-4 : goal.bounds-table-4
bounds-table-4 c = omega (arith, (held_right c.requires.by_index.1).head.long_enough)

pub blocking-requires : goal.blocking-requires
blocking-requires c = record { rows_held = rows_held _ _ _ (held_cut _ _ _ c.requires.by_index.1) _ (ranks_held_law c.requires.lent c.requires.by_index.1) _ c.from-n.ensures _ c.from-m.ensures; zeros = rw c.from-n.ensures c.requires.zeros }

pub returns : goal.returns
returns c = blocking_found _ _ _ (held_cut _ _ _ c.requires.by_index.1) _ (ranks_held_law c.requires.lent c.requires.by_index.1) _ c.from-n.ensures _ c.from-m.ensures _ _ c.blocking.ensures
