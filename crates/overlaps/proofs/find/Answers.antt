-- `overlaps::find` meets its contract: the columns hold the table that the bytes mean, so what is found in them is theirs.
-- Assumes nothing.
use native.Mathlib.Omega.{arith}
use Rattle.reading.proofs.HeldLaws.{held_cut, held_right}
use Rattle.response.proofs.DecodedLaws.{room_for, ranks_held_law, periods_high, decoded_fits}
use Rattle.overlaps.proofs.ColumnLaws.{table_found}
use Rattle.overlaps.proofs.find.Goals as goal

pub bounds-table-3 : goal.bounds-table-3
bounds-table-3 c = omega (arith, (held_right c.requires.table_held.0).head.long_enough)

pub find_all-requires : goal.find_all-requires
find_all-requires c = let held = held_cut _ _ _ c.requires.table_held.0 in
    let ranks = ranks_held_law c.requires.lent c.requires.table_held.0 in record { decoded_fits = decoded_fits _ _ _ held _ ranks _ c.from-n.ensures _ _ (omega (arith, c.requires.zeros.0.long, c.from-n.ensures)) c.find_blocking.ensures; periods_high = (periods_high _ _ _ held _ ranks _ c.from-n.ensures, omega (arith, c.requires.zeros.1, c.from-n.ensures)); n_in_bounds = room_for c.from-n.ensures c.requires.table_in_bounds }

pub returns : goal.returns
returns c = let held = held_cut _ _ _ c.requires.table_held.0 in
    let ranks = ranks_held_law c.requires.lent c.requires.table_held.0 in
    table_found _ _ _ held _ c.from-n.ensures _ ranks _ _ (omega (arith, c.requires.zeros.0.long, c.from-n.ensures)) c.find_blocking.ensures held.clean c.requires.table_held.1 _ _ c.requires.table_in_bounds _ _ _ c.find_all.ensures
