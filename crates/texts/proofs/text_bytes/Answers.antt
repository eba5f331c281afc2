-- `texts::text_bytes` meets its contract.
-- Assumes nothing.
use Rattle.std.proofs.lemmas.Result.{err_from_is_err_and}
use Rattle.texts.proofs.TextLaws.{after_roomy, after_long}
use Rattle.texts.proofs.GivenLaws.{text_given, too_long}
use Rattle.texts.proofs.text_bytes.Goals as goal

pub respond-requires : goal.respond-requires
respond-requires c = record { roomy = after_roomy c.in_ok-state.ensures.ok.1; numbers_len = after_long c.in_ok-state.ensures.ok.1 }

pub returns-in_err-state : goal.returns-in_err-state
returns-in_err-state c =
    let p = err_from_is_err_and c.from_residual.result c.from_residual.ensures.1 in
    rw (p.1, p.2, c.in_err-state.ensures.err.1) (too_long c.in_err-state.ensures.err.0)

pub returns : goal.returns
returns c = text_given c.in_ok-state.ensures.ok.0 c.in_ok-state.ensures.ok.1 c.pass_on.ensures c.respond.ensures
