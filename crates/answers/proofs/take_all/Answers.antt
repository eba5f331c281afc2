-- `answers::take_all` meets its contract: each piece is taken, and what is kept is what is kept of all that was read.
-- Assumes nothing.
use mathlib.Core.Path.{◌∙◌}
use Rattle.answers.proofs.ReadLaws.{sofar_more}
use Rattle.answers.proofs.take_all.Goals as goal

pub loop-total-preserved : goal.loop-total-preserved
loop-total-preserved g c =
    sofar_more c.loop-total.invariant c.read_some-count.new.buffer c.read_some-count.result
    (c.read_some-count.auto.buffer ∙ c.loop-total.invariant.piece_long) c.read_some-count.ensures c.loop-total-test.true c.take.ensures
    c.take.auto.store
