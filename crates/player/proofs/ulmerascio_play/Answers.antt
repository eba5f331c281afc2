-- `player::ulmerascio_play` meets its contract: it packs the verdict of `play`, whose place is small.
-- Assumes nothing.
use Rattle.engine.proofs.Claims.{play_place}
use Rattle.player.proofs.ulmerascio_play.Goals as goal

pub pack-requires : goal.pack-requires
pack-requires c = rw c.play.ensures.verdict_is (play_place _ _)
