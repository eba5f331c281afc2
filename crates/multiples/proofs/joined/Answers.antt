-- `multiples::joined` meets its contract: the first number, one that divides the other, and by their common divisor.
-- Assumes nothing.
use Rattle.std.proofs.Common.{arith}
use Rattle.multiples.proofs.DivisorLaws.{gcd_remainder}
use Rattle.multiples.proofs.MultipleLaws.{divisor_positive, joined_is, joined_first, joined_divided}
use Rattle.multiples.proofs.joined.Goals as goal

pub returns-then-before-eq1 : goal.returns-then-before-eq1
returns-then-before-eq1 c = rw (c.if-before-eq1.true, ← c.from-next.ensures) (joined_first _ (omega arith))

pub returns-then-rest-eq0 : goal.returns-then-rest-eq0
returns-then-rest-eq0 c = rw (← c.from-next.ensures) (joined_divided _ _ c.requires.le_before.0 (omega arith) c.if-rest-eq0.true)

pub nonzero_div-result : goal.nonzero_div-result
nonzero_div-result c =
    omega (arith, divisor_positive _ _ _ c.requires.le_before.0 (omega arith) (gcd_remainder _ _ _ c.gcd.ensures))

pub returns : goal.returns
returns c = rw (← c.from-next.ensures) (joined_is _ _ _ c.requires.le_before.0 (omega arith) (gcd_remainder _ _ _ c.gcd.ensures))
