-- How much time a table's tasks ask for (SPECIFICATION 13.12; document 02, L10).
-- Assumes nothing.
use Rattle.std.specs.Prelude.{ℕ, ◌+◌, ◌*◌, ◌≤◌, ◌<◌, ◌≡◌, List, [], ◌∷◌, length}
use Rattle.model.specs.Lists.{sum_of}
use Rattle.model.specs.Tables.{Task, task_of}
use Rattle.equation.specs.Rounding.{ceil_div}
use Rattle.tables.specs.Layout.{tasks_of}
use Rattle.tables.specs.Meaning.{TableRight}

-- "utilisation in millionths, each task's share rounded up": 1,000,000 C / T, rounded up
abbrev pub share_of : ℕ → ℕ → ℕ
share_of cost period = ceil_div (1000000 * cost) period

abbrev pub task_share : Task → ℕ
task_share t = share_of t.cost t.period

-- "and then summed"
abbrev pub utilisation_of : List Task → ℕ
utilisation_of tasks = sum_of task_share tasks

-- "the exact sum" of 1,000,000 C / T over the tasks, which need not be whole: it is the fraction exact_over / periods_product. A task is
-- added to the sum e / p of the others as fractions are: 1,000,000 C / T + e / p = (1,000,000 C p + T e) / (T p). No tasks have 0 / 1.
unfoldable pub periods_product : List Task → ℕ
periods_product [] = 1
periods_product (t ∷ ts) = t.period * periods_product ts

unfoldable pub exact_over : List Task → ℕ
exact_over [] = 0
exact_over (t ∷ ts) = 1000000 * t.cost * periods_product ts + t.period * exact_over ts

-- no period is 0: each stands below a line
abbrev pub PeriodsPositive : List Task → Type 0
PeriodsPositive tasks = (i : ℕ) → i < length tasks → 1 ≤ (task_of tasks i).period

-- "at least the exact sum and less than it plus one per task", for any tasks: u ≥ e / p is u p ≥ e, and u < e / p + n is
-- u p < e + n p. No tasks at all have the sum 0, which is no less than 0 plus one for none of them.
pub record UtilisationRight : Type 0 where
  pub at_least : (tasks : List Task) → PeriodsPositive tasks → exact_over tasks ≤ utilisation_of tasks * periods_product tasks
  pub below : (tasks : List Task) → PeriodsPositive tasks → 1 ≤ length tasks →
      utilisation_of tasks * periods_product tasks < exact_over tasks + length tasks * periods_product tasks

-- An accepted table has such tasks, and one at least.
abbrev pub TableTasks : Type 0
TableTasks = (bytes : List ℕ) → TableRight bytes → PeriodsPositive (tasks_of bytes) × (1 ≤ length (tasks_of bytes))

-- Drawn: 1,000,000 / 3 and 3,000,000 / 7 are 16,000,000 / 21 together, which is 761,904 and 16 / 21; rounded up they are 333,334 and 428,572.
abbrev pub pair : List Task
pair =
    record { priority = 2; period = 3; cost = 1; deadline = 3; earliest = 0; latest = 0 }
    ∷ record { priority = 1; period = 7; cost = 3; deadline = 7; earliest = 0; latest = 0 }
    ∷ []

abbrev pub PairDrawn : Type 0
PairDrawn = (exact_over pair ≡ 16000000) × (periods_product pair ≡ 21) × (utilisation_of pair ≡ 761906)
