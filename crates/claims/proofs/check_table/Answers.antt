-- `claims::check_table` meets its contract: the columns hold the table that the bytes mean, so its answer is theirs.
-- Assumes nothing.
use native.Mathlib.Omega.{arith}
use Rattle.reading.proofs.HeldLaws.{held_cut, held_right}
use Rattle.response.proofs.DecodedLaws.{ranks_held_law, decoded_fits}
use Rattle.claims.proofs.ColumnLaws.{table_checked}
use Rattle.claims.proofs.check_table.Goals as goal

pub bounds-table-3 : goal.bounds-table-3
bounds-table-3 c = omega (arith, (held_right c.requires.table_held).head.long_enough)

pub check_all-requires : goal.check_all-requires
check_all-requires c = let held = held_cut _ _ _ c.requires.table_held in
    let ranks = ranks_held_law c.requires.lent.0 c.requires.table_held in record { decoded_fits = decoded_fits _ _ _ held _ ranks _ c.from-n.ensures _ _ (omega (arith, c.requires.lent.1.long, c.from-n.ensures)) c.find_blocking.ensures; n_in_bounds = omega (arith, c.requires.claims_len, c.from-n.ensures) }

pub returns : goal.returns
returns c = let held = held_cut _ _ _ c.requires.table_held in
    let ranks = ranks_held_law c.requires.lent.0 c.requires.table_held in
    table_checked _ _ _ held _ ranks _ c.from-n.ensures _ _ (omega (arith, c.requires.lent.1.long, c.from-n.ensures)) c.find_blocking.ensures _ c.requires.claims_len _ c.check_all.ensures
