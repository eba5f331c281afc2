-- The table that accepted bytes mean: its tasks fit, and no load has a period of 0.
-- Assumes nothing.
use Prim.Native.Nat.{ℕ, ◌<◌}
use native.Mathlib.Omega.{arith}
use mathlib.Core.List.{List}
use lib.ListN.{length}
use Rattle.model.specs.Tables.{priority_of, load_from, interferes, loads_of}
use Rattle.tables.specs.Fields.{period_field, cost_field, deadline_field}
use Rattle.tables.specs.Layout.{task_count, tasks_of}
use Rattle.tables.specs.Meaning.{RecordsRight}
use Rattle.tables.proofs.LayoutLaws.{task_is, tasks_count}
use Rattle.equation.specs.Starts.{PeriodsLow}
use Rattle.equation.proofs.StartLaws.{periods_low}
use Rattle.runs.specs.Jobs.{TasksFit}

module _ (bytes : List ℕ) where
  module _ (right : RecordsRight 1 bytes (task_count bytes)) where
    pub tasks_fit_law : TasksFit (tasks_of bytes)
    tasks_fit_law =
        record {
          period_low = λ i h. rw (task_is bytes i (inside i h)) (right i (inside i h) period_field).low;
          cost_low = λ i h. rw (task_is bytes i (inside i h)) (right i (inside i h) cost_field).low;
          deadline_low = λ i h. rw (task_is bytes i (inside i h)) (right i (inside i h) deadline_field).low;
          deadline_high = λ i h. rw (task_is bytes i (inside i h)) (omega (arith, (right i (inside i h) deadline_field).high));
        }
      where
        inside : (i : ℕ) → i < length (tasks_of bytes) → i < task_count bytes
        inside i h = omega (arith, tasks_count bytes)

    -- no load has a period of 0
    pub periods_of : (i : ℕ) → PeriodsLow (loads_of (tasks_of bytes) i)
    periods_of i = periods_low (interferes (priority_of (tasks_of bytes)) i) (load_from (tasks_of bytes)) (length (tasks_of bytes)) tasks_fit_law.period_low
