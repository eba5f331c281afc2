-- `claims::ulmerascio_check_claims` meets its contract: it packs the answer of `check_claims`, whose place is small.
-- Assumes nothing.
use Rattle.claims.proofs.Claims.{claimed_place_law}
use Rattle.claims.proofs.packed_claims.Goals as goal

pub pack-requires : goal.pack-requires
pack-requires c = claimed_place_law _ _ _ c.check_claims.ensures
