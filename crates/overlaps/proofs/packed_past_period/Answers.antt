-- `overlaps::packed_past_period` meets its contract: it packs what `analyse_past_period` says, whose place is small.
-- Assumes nothing.
use Rattle.overlaps.proofs.Past.{found_place_law}
use Rattle.overlaps.proofs.packed_past_period.Goals as goal

pub pack-requires : goal.pack-requires
pack-requires c = found_place_law _ _ c.analyse_past_period.ensures
