-- `typing::go_on` meets its contract: each turn takes one byte more.
-- Assumes nothing.
use Rattle.typing.proofs.MemoryLaws.{going_none, going_more}
use Rattle.typing.proofs.go_on.Goals as goal

pub loop-byte-init : goal.loop-byte-init
loop-byte-init c = going_none _ _ _ _ _ c.requires.bounded c.requires.fields_len

pub loop-byte-preserved : goal.loop-byte-preserved
loop-byte-preserved c = going_more c.loop-byte.invariant c.loop-byte-test.true c.take_byte-next.ensures.spot_value c.take_byte-next.ensures.places_after
