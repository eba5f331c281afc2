-- `multiples::gcd` meets its contract, and ends: the remainder is less than what it is the remainder by.
-- Assumes nothing.
use Rattle.std.proofs.Common.{rules}
use Rattle.multiples.proofs.DivisorLaws.{gcd_remainder}
use Rattle.multiples.proofs.+gcd.Goals as goal

pub gcd-requires : goal.gcd-requires
gcd-requires t c = search rules

pub returns-else-b-eq0 : goal.returns-else-b-eq0
returns-else-b-eq0 t c = gcd_remainder _ _ _ c.gcd.ensures
