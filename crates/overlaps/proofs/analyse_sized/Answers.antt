-- `overlaps::analyse_sized` meets its contract: so many tasks have room.
-- Assumes nothing.
use native.Mathlib.Omega.{arith}
use Rattle.response.proofs.DecodedLaws.{zeros_lent, columns_lent}
use Rattle.overlaps.proofs.analyse_sized.Goals as goal

pub analyse_in-requires : goal.analyse_in-requires
analyse_in-requires g c = let few = c.requires.table_fits in record { table_value = few.0; lent = columns_lent c.requires.sizes.0 few.1; zeros = (zeros_lent _ few.1, omega (arith, few.1, c.requires.sizes.1)) }
