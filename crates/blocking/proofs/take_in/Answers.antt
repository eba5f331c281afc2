-- `blocking::take_in` meets its contract, by its test.
-- Assumes nothing.
use native.Mathlib.Omega.{arith}
use Rattle.blocking.proofs.SweepLaws.{taken_on, most_on}
use Rattle.blocking.proofs.take_in.Goals as goal

pub returns : goal.returns
returns c = record { kept_after = taken_on c.args.kept.now c.requires.kept_len.0 _ c.requires.kept_len.1 c.args.rest c.args.section.0 (λ none. omega (arith, c.if-rest-eq0.false)) _ c.max.ensures; result_value = most_on c.args.kept.now c.requires.kept_len.0 _ c.requires.kept_len.1 c.args.rest c.args.section.0 (λ none. omega (arith, c.if-rest-eq0.false)) _ c.max.ensures _ _ c.requires.most_value c.max-2.ensures }
