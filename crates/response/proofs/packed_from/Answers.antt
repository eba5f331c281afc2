-- `response::packed_from` meets its contract: it packs the verdict of `analyse_from`, whose place is small.
-- Assumes nothing.
use Rattle.response.proofs.PlaceLaws.{verdict_place_law}
use Rattle.response.proofs.packed_from.Goals as goal

pub pack-requires : goal.pack-requires
pack-requires c = rw c.analyse_from.ensures.verdict_is (verdict_place_law _ _ _)
