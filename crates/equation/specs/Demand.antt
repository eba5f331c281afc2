-- Demand, over any list of loads (SPECIFICATION 4.2; document 01, "The equation").
-- Assumes nothing.
use Rattle.std.specs.Prelude.{ℕ, ◌+◌, ◌*◌, List}
use Rattle.model.specs.Lists.{sum_of}
use Rattle.model.specs.Tables.{Load}
use Rattle.equation.specs.Rounding.{ceil_div}

-- "C_j times (w + J_j) / T_j rounded up"
abbrev pub share : ℕ → Load → ℕ
share w l = l.cost * ceil_div (w + l.spread) l.period

-- "For a tick count w, demand(i, w) is C_i + B_i plus, over every more urgent j, ..", read with "Every other task of equal or greater
-- priority interferes" (document 02, L6): base is C_i + B_i, and `loads` are those of the tasks that interfere
unfoldable pub demand : ℕ → List Load → ℕ → ℕ
demand base loads w = base + sum_of (share w) loads
