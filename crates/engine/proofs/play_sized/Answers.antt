-- `engine::play_sized` meets its contract: so many tasks have room.
-- Assumes nothing.
use Rattle.response.proofs.DecodedLaws.{zeros_lent, columns_lent}
use Rattle.engine.proofs.play_sized.Goals as goal

pub play_in-requires : goal.play_in-requires
play_in-requires g c = let few = c.requires.table_fits in record { table_value = few.0; lent = columns_lent c.requires.sizes few.1; zeros = (zeros_lent _ few.1, zeros_lent _ few.1) }
