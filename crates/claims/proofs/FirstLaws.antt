-- Claims are judged by the table's first 4,590 bytes: a longer table is refused for its head.
-- Assumes nothing.
use Rattle.std.specs.Prelude.{Err}
use Prim.Native.Nat.{ℕ}
use mathlib.Core.Path.{◌≡◌, refl, sym}
use mathlib.Core.List.{List}
use Rattle.tables.specs.declared.Refusal.{Refusal}
use Rattle.tables.specs.Checks.{head_check}
use Rattle.tables.proofs.OrderLaws.{head_decides}
use Rattle.tables.proofs.FirstLaws.{kept_alike}
use Rattle.claims.specs.declared.Claimed.TheVariants.{Refused}
use Rattle.claims.specs.Claims.{claimed_of}
use Rattle.claims.specs.Statements.{ClaimsOfFirstBytes}

refused_claims : (claims bytes : List ℕ) (refusal : Refusal) → head_check bytes ≡ Err refusal → claimed_of bytes claims ≡ Refused refusal
unfolding claimed_of
refused_claims claims bytes refusal e = rw (sym (head_decides 1 bytes refusal (sym e))) refl

pub claims_of_first_bytes : ClaimsOfFirstBytes
claims_of_first_bytes bytes claims = kept_alike (λ (b : List ℕ). claimed_of b claims) Refused (refused_claims claims) bytes
