-- `ticking::serve` meets its contract: with the last of its work a place's bit goes off its word.
-- Assumes nothing.
use native.Mathlib.Omega.{arith}
use Rattle.model.specs.Lists.{word_of}
use Rattle.machine.proofs.StepLaws.{words_cleared, place_after}
use Rattle.ticking.proofs.serve.Goals as goal

pub returns-clause-result_value : goal.returns-clause-result_value
returns-clause-result_value c =
    let cleared = words_cleared (word_of c.args.left.now c.args.place.0) c.args.place.0 c.args.ready.now c.requires.place_lt_n.2 c.if-rest-ne0.false _ c.clear.ensures in
    place_after (word_of c.args.left.now c.args.place.0) c.args.place.0 c.args.ready.now c.requires.place_lt_n.2 c.if-rest-ne0.false _ _ (omega (arith, c.requires.n_bound.1.long)) cleared c.next_place.ensures
