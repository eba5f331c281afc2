-- `claims::check_sized` meets its contract: so many tasks have room.
-- Assumes nothing.
use Rattle.response.proofs.DecodedLaws.{zeros_lent, columns_lent}
use Rattle.claims.proofs.check_sized.Goals as goal

pub check_in-requires : goal.check_in-requires
check_in-requires g c = let few = c.requires.table_fits in record { table_value = few.0; lent = (columns_lent c.requires.sizes few.1, zeros_lent _ few.1) }
