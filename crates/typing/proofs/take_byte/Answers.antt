-- `typing::take_byte` meets its contract.
-- Assumes nothing.
use Rattle.typing.proofs.MemoryLaws.{word_bounded, word_fields, byte_taken}
use Rattle.typing.proofs.take_byte.Goals as goal

pub take_end-state-requires : goal.take_end-state-requires
take_end-state-requires c = record { bounded = word_bounded c.settle-spot.result c.args.byte c.args.reader.state c.requires.bounded c.take_word-heard.ensures.value; fields_len = word_fields c.settle-spot.result c.args.byte c.args.reader.state.line c.args.fields.now c.requires.fields_len c.take_word-heard.ensures.fields_after }

pub returns : goal.returns
returns c = record { spot_value = rw (← c.settle-spot.ensures) c.go_on.ensures; places_after = byte_taken c.args.reader.spot c.args.byte c.args.reader.state _ _ _ c.settle-spot.ensures c.take_word-heard.ensures.value c.take_word-heard.ensures.fields_after c.take_end-state.ensures }
