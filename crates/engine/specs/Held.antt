-- What the engine asks of the columns that hold a table.
-- Assumes nothing.
use Rattle.std.specs.Prelude.{ℕ, ◌≡◌, List, Ok}
use Rattle.tables.specs.Layout.{task_count, period_in, cost_in, deadline_in, latest_in}
use Rattle.tables.specs.Checks.{read_check}
use Rattle.records.specs.Columns.{Holds}

-- nothing of the table is refused, and four columns hold the numbers that are played
pub record NumbersHeld (bytes periods costs deadlines latest : List ℕ) : Type 0 where
  pub clean : read_check 1 bytes ≡ Ok tt
  pub periods_held : Holds periods (task_count bytes) (period_in bytes)
  pub costs_held : Holds costs (task_count bytes) (cost_in bytes)
  pub deadlines_held : Holds deadlines (task_count bytes) (deadline_in bytes)
  pub latest_held : Holds latest (task_count bytes) (latest_in bytes)
