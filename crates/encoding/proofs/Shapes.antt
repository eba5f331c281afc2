-- A table of each shape: tasks of one tick in order, and rows of one tick, 16 for a task.
-- Assumes nothing.
use Prim.Native.Nat.{ℕ, zero, suc, ◌+◌, ◌*◌, ◌-◌, ◌/◌, ◌%◌, ◌≤◌, ◌<◌}
use native.Mathlib.Omega.{arith}
use native.Mathlib.Decide.{ℕ_discrete}
use mathlib.Core.Path.{◌≡◌, refl, sym}
use mathlib.Core.List.{List, [], ◌∷◌}
use lib.ListN.{length}
use Rattle.model.specs.Lists.{tabulate}
use Rattle.model.specs.Tables.{Task, Row, Table, no_task, task_of}
use Rattle.model.proofs.Lists.{length_tabulate, get_d_tabulate}
use Rattle.tables.specs.Fields.{RecordField, period_field, cost_field, deadline_field, earliest_field, latest_field, priority_field, RowField, place_field, semaphore_field, longest_field, order_field}
use Rattle.tables.specs.Layout.{layout_for, task_count, row_count, row_at}
use Rattle.tables.specs.Meaning.{Known, Within, TaskFieldRight, SectionFieldRight, TableRight}
use Rattle.tables.proofs.LayoutLaws.{layout_sound}
use Rattle.encoding.specs.Bytes.{encode}
use Rattle.encoding.specs.Statements.{no_row, row_of, Fits, AllShapes}
use Rattle.encoding.proofs.RuleLaws.{fields_same, sections_same}
use Rattle.encoding.proofs.Encoding.{encoded}

module _ (n : ℕ) where
  abbrev shape_task : ℕ → Task
  shape_task i = record { priority = n - i; period = 1; cost = 1; deadline = 1; earliest = 0; latest = 0 }

  abbrev shape_row : ℕ → Row
  shape_row k = record { place = k / 16; semaphore = k % 16 + 1; longest = 1 }

  abbrev shape : ℕ → Table
  shape m = record { tasks = tabulate shape_task n; rows = tabulate shape_row m }

  task_right : (i : ℕ) → i < n → (field : RecordField) → TaskFieldRight 1 shape_task i field
  task_right i h period_field = record { low = omega arith; high = omega arith }
  task_right i h cost_field = record { low = omega arith; high = omega arith }
  task_right i h deadline_field = record { low = omega arith; high = omega arith }
  task_right i h earliest_field = record { low = omega arith; high = omega arith }
  task_right i h latest_field = record { low = omega arith; high = omega arith }
  task_right i h priority_field = record { positive = omega arith; not_rising = λ before e. omega arith }

  row_right : (m k : ℕ) → k < m → m ≤ 16 * n → (field : RowField) → SectionFieldRight n shape_task shape_row k field
  row_right m k h most place_field = omega arith
  row_right m k h most semaphore_field = record { low = omega arith; high = omega arith }
  row_right m k h most longest_field = record { low = omega arith; high = omega arith }
  row_right m k h most order_field = λ before e. record { by_place = omega arith; then_semaphore = λ same. omega arith }

  shape_fits : (version m : ℕ) → Known version → Within 1 (layout_for version).most n → Within 0 64 m → m ≤ 16 * n →
      Fits version (shape m)
  shape_fits version m known few rows most =
      record {
        known = known;
        tasks = rw tasks_long few;
        rows = rw rows_long rows;
        each_task = λ i h field.
            let inside : i < n = omega (arith, tasks_long) in
            fields_same n shape_task (task_of (tabulate shape_task n)) task_at 1 i inside field (task_right i inside field);
        each_row = λ k h.
            let inside : k < m = omega (arith, rows_long) in
            rw tasks_long
            (sections_same n shape_task (task_of (tabulate shape_task n)) task_at m shape_row (row_of (tabulate shape_row m)) row_at_law k inside
            (row_right m k inside most));
        priorities = λ i h. rw (sym (task_at i (omega (arith, tasks_long)))) (omega (arith, few.high, (layout_sound (version ∷ []) known).few));
        no_earliest = λ e i h. rw (sym (task_at i (omega (arith, tasks_long))));
      }
    where
      tasks_long : length (tabulate shape_task n) ≡ n
      tasks_long = length_tabulate shape_task n

      rows_long : length (tabulate shape_row m) ≡ m
      rows_long = length_tabulate shape_row m

      task_at : (i : ℕ) → i < n → shape_task i ≡ task_of (tabulate shape_task n) i
      task_at i h = sym (get_d_tabulate shape_task n i no_task h)

      row_at_law : (k : ℕ) → k < m → shape_row k ≡ row_of (tabulate shape_row m) k
      row_at_law k h = sym (get_d_tabulate shape_row m k no_row h)

-- the rows of accepted bytes, numbered by place and semaphore, rise with each row: 16 numbers for each task
module _ (bytes : List ℕ) (right : TableRight bytes) where
  numbered : ℕ → ℕ
  numbered k = (row_at bytes k).place * 16 + (row_at bytes k).semaphore

  above : (k : ℕ) → k < row_count bytes → k < numbered k
  unfolding numbered
  above zero h = omega (arith, (right.rows 0 h semaphore_field).low)
  above (suc k) h =
      let rise = right.rows (suc k) h order_field k refl in
      let before = above k (omega arith) in
      let high = (right.rows k (omega arith) semaphore_field).high in
      elim (ℕ_discrete (row_at bytes k).place (row_at bytes (suc k)).place) [
        | yes same ↦ omega (arith, rise.then_semaphore same, before)
        | no other ↦ omega (arith, rise.by_place, before, high, (right.rows (suc k) h semaphore_field).low)
      ]

  few_rows_law : row_count bytes ≤ 16 * task_count bytes
  unfolding numbered
  few_rows_law = go (row_count bytes) refl
    where
      go : (m : ℕ) → m ≡ row_count bytes → m ≤ 16 * task_count bytes
      go zero e = omega arith
      go (suc k) e =
          let inside : k < row_count bytes = omega arith in
          omega (arith, above k inside, right.rows k inside place_field, (right.rows k inside semaphore_field).high)

pub all_shapes : AllShapes
all_shapes =
    record {
      exist = λ version n m known few rows most. (
        encode version (shape n m),
        record {
          are_bytes = encoded.are_bytes version (shape n m) (shape_fits n version m known few rows (omega arith));
          accepted = encoded.accepted version (shape n m) (shape_fits n version m known few rows (omega arith));
          in_version = refl;
          tasks = length_tabulate (shape_task n) n;
          rows = length_tabulate (shape_row n) m;
        },
      );
      no_others = λ version n m bytes s. omega (arith, few_rows_law bytes s.accepted, s.tasks, s.rows);
    }
