-- The written sequence and its rounds (SPECIFICATION 5; document 01, "The equation"), from any start.
-- Assumes nothing.
use Rattle.std.specs.Prelude.{ℕ, zero, suc, ◌+◌, ◌-◌, Bool, List, eqb, ltb}
use Rattle.model.specs.Choice.{either}
use Rattle.model.specs.Search.{first_from}
use Rattle.model.specs.Tables.{Load}
use Rattle.equation.specs.Demand.{demand}

-- "x0 = .., and each next x is demand(i, x)"
unfoldable pub term : ℕ → List Load → ℕ → ℕ → ℕ
term base loads start zero = start
term base loads start (suc k) = demand base loads (term base loads start k)

-- "x_k = x_(k−1) or x_k + J_i > D_i"
abbrev pub stops : ℕ → List Load → ℕ → ℕ → ℕ → ℕ → Bool
stops base loads start late deadline k =
    either (eqb (term base loads start k) (term base loads start (k - 1)))
    (ltb deadline (term base loads start k + late))

-- "Rounds is the smallest k ≥ 1 with" that. By the bound on rounds one is found among the first D + 1.
abbrev pub rounds : ℕ → List Load → ℕ → ℕ → ℕ → ℕ
rounds base loads start late deadline = first_from (stops base loads start late deadline) 1 (deadline + 1)
