-- The answer (SPECIFICATION 4.3; document 01, "The equation"). Nothing here iterates the equation: w is searched for.
-- Assumes nothing.
use Rattle.std.specs.Prelude.{ℕ, ◌+◌, Bool, List, eqb, leb, ltb}
use Rattle.model.specs.Choice.{pick, both}
use Rattle.model.specs.Search.{first_from}
use Rattle.model.specs.Tables.{Load}
use Rattle.equation.specs.Demand.{demand}

-- does w solve the equation, demand(w) = w?
abbrev pub solves : ℕ → List Load → ℕ → Bool
solves base loads w = eqb (demand base loads w) w

-- "the smallest whole number of at least 1 with demand(i, w) = w", of those up to the limit, and 0 if none of them is one
abbrev pub smallest : ℕ → List Load → ℕ → ℕ
smallest base loads limit = first_from (solves base loads) 1 limit

-- "w + J_i if such a w exists and w + J_i ≤ D_i; else 0": late is J_i, and w is 0 where there is none
abbrev pub answer_for : ℕ → ℕ → ℕ → ℕ
answer_for late deadline w = pick (both (ltb 0 w) (leb (w + late) deadline)) (w + late) 0

-- A w above the deadline gives 0 however large it is, so the search ends there.
abbrev pub answer : ℕ → List Load → ℕ → ℕ → ℕ
answer base loads late deadline = answer_for late deadline (smallest base loads deadline)
