-- `to_bytes::finish` meets its contract: what stands behind the end of the text can be answered.
-- Assumes nothing.
use native.Mathlib.Omega.{arith}
use Rattle.texts.proofs.TextLaws.{behind_sized, behind_bounded, behind_number, behind_after}
use Rattle.to_bytes.proofs.finish.Goals as goal

pub take_byte-requires : goal.take_byte-requires
take_byte-requires c =
    record {
      bounded = behind_bounded c.requires.is 1 (omega (arith, c.requires.is.counted));
      fields_len = (behind_sized c.requires.is).fields;
    }

pub write_place-requires : goal.write_place-requires
write_place-requires c = record { text = c.requires.text; is = behind_after c.requires.is c.take_byte.ensures.places_after }

pub write_answer-requires : goal.write_answer-requires
write_answer-requires c =
    record {
      text = c.requires.text;
      places = _;
      is = behind_after c.requires.is c.take_byte.ensures.places_after;
      counted = behind_number c.requires.is c.take_byte.ensures.places_after;
    }
