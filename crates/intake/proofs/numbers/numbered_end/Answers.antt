-- `intake::numbers::ulmerascio_intake_end` meets its contract: it ends the table, and packs what is said.
-- Assumes nothing.
use Rattle.intake.proofs.NumberLaws.{ended_place_law}
use Rattle.intake.proofs.numbers.numbered_end.Goals as goal

pub pack_ended-requires : goal.pack_ended-requires
pack_ended-requires c = ended_place_law c.end.ensures
