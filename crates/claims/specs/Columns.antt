-- The test of a claim over the columns that hold a decoded table. It exists for the contract of `check_all`, which knows no bytes. The one to
-- believe is `passes_at`, of a table; that both agree for the columns of every accepted table is proved in proofs/ColumnLaws.antt.
-- Assumes nothing.
use Rattle.std.specs.Prelude.{ℕ, Bool, List, get_or}
use Rattle.model.specs.Lists.{word_of}
use Rattle.answering.specs.Slices.{Decoded, base_in, loads_in}
use Rattle.claims.specs.Claims.{claim_passes}

unfoldable pub passes_in : Decoded → ℕ → List ℕ → ℕ → Bool
passes_in d n claims i =
    claim_passes (base_in d i) (loads_in d n i) (get_or d.latest i 0) (get_or d.deadlines i 0) (word_of claims i)
