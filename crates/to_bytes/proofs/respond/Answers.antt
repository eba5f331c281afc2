-- `to_bytes::respond` meets its contract.
-- Assumes nothing.
use Rattle.texts.proofs.TextLaws.{after_roomy, after_long}
use Rattle.to_bytes.proofs.ReadLaws.{answers_text, answer_within}
use Rattle.to_bytes.proofs.respond.Goals as goal

pub respond-requires : goal.respond-requires
respond-requires c = record { roomy = after_roomy c.requires.ended.is; numbers_len = after_long c.requires.ended.is }

pub returns : goal.returns
returns c =
    record {
      answers_text = answers_text c.requires.ended c.requires.in_bounds c.respond.ensures;
      result_in_bounds = answer_within c.requires.ended c.requires.in_bounds c.respond.ensures;
    }
