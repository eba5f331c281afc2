-- What an entry needs to read a table, and what it then has.
-- Assumes nothing.
use Rattle.std.specs.Prelude.{Ok}
use Prim.Native.Nat.{ℕ, ◌+◌, ◌-◌, ◌*◌, ◌≤◌}
use native.Mathlib.Omega.{arith}
use mathlib.Core.Path.{◌≡◌, refl, sym, ◌∙◌, ap, subst}
use mathlib.Core.Bool.{Bool, false}
use mathlib.Core.List.{List}
use lib.Dec.{ltb}
use borrow.Author.Tests.{ltb-false}
use Rattle.model.specs.Lists.{filled}
use Rattle.tables.specs.Refusals.{Check}
use Rattle.tables.specs.Fields.{task_count_field, row_count_field}
use Rattle.tables.specs.Layout.{layout_of, task_count, row_count}
use Rattle.tables.specs.Meaning.{TableRightSpanning}
use Rattle.tables.specs.Checks.{head_check, records_read}
use Rattle.tables.proofs.LayoutLaws.{layout_sound}
use Rattle.tables.proofs.CheckLaws.{head_right, body_right, read_right, records_all, rows_all}
use Rattle.tables.proofs.OrderLaws.{read_clean}
use Rattle.records.specs.Columns.{RecordColumn, priority_column, period_column, cost_column, deadline_column, spread_column, latest_column, RowColumn, place_column, semaphore_column, longest_column, part, record_columns, row_columns, record_in, row_in, Lent, Holds, rows_reached, TableHeld}
use Rattle.records.proofs.ColumnLaws.{holds_filled, rows_long}
use Rattle.reading.proofs.StageLaws.{Left, column_room}

-- An entry lends columns for as many tasks as the version allows: 32 where `is_large` says no, and else 200. With them it may read any
-- table with a right head, and what it reads and does not refuse is then held.
module _ (table : List ℕ) (clean : head_check table ≡ Ok tt) where
  pub small_fits : {large : Bool} → large ≡ ltb 32 (layout_of table).most → large ≡ false → task_count table ≤ 32
  small_fits is small =
      omega (arith, ((head_right table clean).counts task_count_field).high, ltb-false 32 (layout_of table).most (sym is ∙ small))

  pub large_fits : task_count table ≤ 200
  large_fits =
      let right = head_right table clean in
      omega (arith, (right.counts task_count_field).high, (layout_sound table right.version).few)

module _ (span : ℕ) (table : List ℕ) (room : ℕ) (bytes words : List ℕ) (lent : Lent table room bytes words) where
  pub table_held : (found : Check) {records : RecordColumn → List ℕ} {rows : RowColumn → List ℕ} →
      Left span table found (record_columns room bytes words) records (row_columns room bytes words) rows → found ≡ Ok tt → TableHeld span table records rows
  table_held found {records} {rows} left none =
      let clean = sym left.0 ∙ none in
      let r = read_clean span table clean in
      let b = body_right span table r.1 in
      let all : records_read span table ≡ task_count table = records_all span table b.0 in
      let each : rows_reached span table ≡ row_count table = rw b.0 (rows_all table b.1) in
      record {
        clean = clean;
        of_records = λ c.
            holds_filled (record_in table c) (task_count table) (record_columns room bytes words c) (records c)
            (left.1.0.is c ∙ ap (λ (k : ℕ). filled (record_in table c) k (record_columns room bytes words c)) all)
            (column_room lent c);
        of_rows = λ c.
            holds_filled (row_in table c) (row_count table) (row_columns room bytes words c) (rows c)
            (left.1.1.is c ∙ ap (λ (k : ℕ). filled (row_in table c) k (row_columns room bytes words c)) each)
            (rw (rows_long lent c) ((head_right table r.0).counts row_count_field).high);
      }

-- the columns as they are cut out of the slices, from a start to an end
abbrev pub record_slices : (room : ℕ) (bytes words : List ℕ) → RecordColumn → List ℕ
record_slices room bytes words priority_column = part 0 room bytes
record_slices room bytes words period_column = part 0 (room - 0) words
record_slices room bytes words cost_column = part room (2 * room - room) words
record_slices room bytes words deadline_column = part (2 * room) (3 * room - 2 * room) words
record_slices room bytes words spread_column = part (3 * room) (4 * room - 3 * room) words
record_slices room bytes words latest_column = part (4 * room) (5 * room - 4 * room) words

abbrev pub row_slices : (room : ℕ) (bytes words : List ℕ) → RowColumn → List ℕ
row_slices room bytes words place_column = part room (room + 64 - room) bytes
row_slices room bytes words semaphore_column = part (room + 64) (room + 128 - (room + 64)) bytes
row_slices room bytes words longest_column = part (5 * room) (5 * room + 64 - 5 * room) words

module _ (room : ℕ) (bytes words : List ℕ) where
  same_part : (list : List ℕ) (start long at many : ℕ) → start ≡ at → long ≡ many → part start long list ≡ part at many list
  same_part list start long at many starts lengths = λ i. part (starts i) (lengths i) list

  records_cut : (c : RecordColumn) → record_columns room bytes words c ≡ record_slices room bytes words c
  records_cut priority_column = refl
  records_cut period_column = same_part words (0 * room) room 0 (room - 0) (omega arith) (omega arith)
  records_cut cost_column = same_part words (1 * room) room room (2 * room - room) (omega arith) (omega arith)
  records_cut deadline_column = same_part words (2 * room) room (2 * room) (3 * room - 2 * room) refl (omega arith)
  records_cut spread_column = same_part words (3 * room) room (3 * room) (4 * room - 3 * room) refl (omega arith)
  records_cut latest_column = same_part words (4 * room) room (4 * room) (5 * room - 4 * room) refl (omega arith)

  rows_cut : (c : RowColumn) → row_columns room bytes words c ≡ row_slices room bytes words c
  rows_cut place_column = same_part bytes room 64 room (room + 64 - room) refl (omega arith)
  rows_cut semaphore_column = same_part bytes (room + 64) 64 (room + 64) (room + 128 - (room + 64)) refl (omega arith)
  rows_cut longest_column = same_part words (5 * room) 64 (5 * room) (5 * room + 64 - 5 * room) refl (omega arith)

  -- what the columns hold, the slices do
  pub held_cut : {span : ℕ} {table : List ℕ} → TableHeld span table (record_columns room bytes words) (row_columns room bytes words) →
      TableHeld span table (record_slices room bytes words) (row_slices room bytes words)
  held_cut {span} {table} held =
      record {
        clean = held.clean;
        of_records = λ c. subst (λ (column : List ℕ). Holds column (task_count table) (record_in table c)) (records_cut c) (held.of_records c);
        of_rows = λ c. subst (λ (column : List ℕ). Holds column (row_count table) (row_in table c)) (rows_cut c) (held.of_rows c);
      }

-- what is held breaks no rule
pub held_right : {span : ℕ} {bytes : List ℕ} {records : RecordColumn → List ℕ} {rows : RowColumn → List ℕ} → TableHeld span bytes records rows →
    TableRightSpanning span bytes
held_right {span} {bytes} held =
    let r = read_clean span bytes held.clean in
    read_right span bytes r.0 r.1
