-- `to_bytes::respond_place` meets its contract.
-- Assumes nothing.
use native.Mathlib.Omega.{arith}
use Rattle.printing.proofs.AppendLaws.{ends_within}
use Rattle.texts.proofs.TextLaws.{after_roomy, after_long, after_placed}
use Rattle.to_bytes.proofs.ReadLaws.{answers_place}
use Rattle.to_bytes.proofs.respond_place.Goals as goal

pub respond_place-requires : goal.respond_place-requires
respond_place-requires c = record { roomy = after_roomy c.requires.is; numbers_len = (after_long c.requires.is, after_placed c.requires.is) }

pub returns : goal.returns
returns c =
    record {
      answers_place = answers_place c.respond_place.ensures;
      result_in_bounds = ends_within c.respond_place.ensures.text_is (omega arith);
    }
