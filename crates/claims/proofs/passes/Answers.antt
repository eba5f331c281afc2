-- `claims::passes` meets its contract: two tests of the claim, and one demand.
-- Assumes nothing.
use native.Mathlib.Omega.{arith}
use mathlib.Core.Path.{refl}
use Rattle.claims.proofs.ClaimLaws.{too_small, too_late, as_asked}
use Rattle.claims.proofs.passes.Goals as goal
use Rattle.claims.proofs.passes.Goals.{then-claim-latest-via-then-claim-latest, then-claim-latest-via-else-claim-latest+then-deadline-claim}

pub returns-then-claim-latest : goal.returns-then-claim-latest
returns-then-claim-latest c =
    elim c.then-claim-latest.branch [
      | then-claim-latest-via-then-claim-latest w ↦ too_small _ _ _ _ _ (omega arith)
      | then-claim-latest-via-else-claim-latest+then-deadline-claim w ↦ too_late _ _ _ _ _ (omega arith)
    ]

pub returns : goal.returns
returns c = rw c.from.ensures (as_asked _ _ _ _ _ (omega arith) (omega arith) _ refl _ c.demand.ensures)
