-- The same bytes in version 2 or 3 get the same answer.
-- Assumes nothing.
use Prim.Native.Nat.{ℕ, ◌≤◌}
use mathlib.Core.Path.{◌≡◌}
use mathlib.Core.List.{List, ◌∷◌}
use lib.Dec.{eqb}
use lib.ListN.{length}
use Rattle.tables.specs.Layout.{task_count}
use Rattle.tables.proofs.VersionLaws.{table_same, read_same, in_three}
use Rattle.claims.specs.Claims.{passes_at, compared_of, claimed_for, claimed_of}
use Rattle.claims.specs.Statements.{ClaimsInVersionThree}

claimed_same : (claims rest : List ℕ) → task_count (2 ∷ rest) ≤ 32 → claimed_of (2 ∷ rest) claims ≡ claimed_of (3 ∷ rest) claims
unfolding claimed_of
claimed_same claims rest few =
    λ j.
    claimed_for (read_same rest few 1 j) (eqb (length claims) (task_count (2 ∷ rest)))
    (compared_of (passes_at (table_same rest j) claims) (task_count (2 ∷ rest)))

pub claims_in_version_three : ClaimsInVersionThree
claims_in_version_three bytes claims = in_three (λ (b : List ℕ). claimed_of b claims) (claimed_same claims) bytes
