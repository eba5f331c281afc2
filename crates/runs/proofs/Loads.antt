-- Demand is a sum over the places of the tasks that interfere, wherever they stand.
-- Assumes nothing.
use Prim.Native.Nat.{ℕ, ◌+◌, ◌*◌, ◌<◌}
use native.Mathlib.Nat.{add-zero}
use native.Mathlib.Omega.{arith}
use mathlib.Core.Path.{◌≡◌, refl, ◌∙◌, ap}
use mathlib.Core.Bool.{Bool}
use mathlib.Core.List.{List}
use lib.Dec.{leb}
use lib.ListN.{length}
use Rattle.model.specs.Choice.{on}
use Rattle.model.specs.Lists.{total}
use Rattle.model.specs.Tables.{Task, task_of, priority_of, load_from, spread_of, interferes, loads_of}
use Rattle.model.proofs.Gather.{gather_sum}
use Rattle.equation.specs.Rounding.{ceil_div}
use Rattle.equation.specs.Demand.{share, demand}
use Rattle.runs.specs.Jobs.{NoDelay}
use Rattle.model.proofs.Totals.{total_same}

-- what the task at place p asks for in w ticks
abbrev pub share_of : List Task → ℕ → ℕ → ℕ
share_of tasks w p = (task_of tasks p).cost * ceil_div w (task_of tasks p).period

-- is the task at place p at least as urgent as the one at place i? These are the task itself and all that interfere with it.
abbrev pub as_urgent : List Task → ℕ → ℕ → Bool
as_urgent tasks i p = leb (priority_of tasks i) (priority_of tasks p)

pub demand_is : (tasks : List Task) → NoDelay tasks → (base i w : ℕ) →
    demand base (loads_of tasks i) w ≡ base + total (λ p. on (interferes (priority_of tasks) i p) (share_of tasks w p)) (length tasks)
unfolding demand
demand_is tasks calm base i w =
    ap (λ (n : ℕ). base + n)
    (gather_sum (interferes (priority_of tasks) i) (load_from tasks) (share w) (length tasks)
    ∙ total_same (λ p. on (interferes (priority_of tasks) i p) (share w (load_from tasks p)))
    (λ p. on (interferes (priority_of tasks) i p) (share_of tasks w p)) (length tasks)
    (λ p l. rw (no_spread p l, add-zero) refl))
  where
    no_spread : (p : ℕ) → p < length tasks → spread_of (task_of tasks p) ≡ 0
    no_spread p l = omega (arith, calm p l)
