-- What a right head says of the records and the rows behind it: each is there, and is the table's.
-- Assumes nothing.
use Rattle.std.specs.Prelude.{Ok}
use Prim.Native.Nat.{ℕ, ◌+◌, ◌*◌, ◌≤◌, ◌<◌}
use native.Mathlib.Omega.{arith}
use mathlib.Core.Path.{◌≡◌, refl, ◌∙◌, ap}
use mathlib.Core.List.{List}
use lib.ListN.{length, replicate, length-replicate}
use Rattle.model.specs.Tables.{Task, Row}
use Rattle.tables.specs.declared.layout.Layout.{Layout}
use Rattle.tables.specs.Layout.{Sound, layout_of, task_count, row_count, record_from, row_from, record_start, row_start, task_at, row_at}
use Rattle.tables.specs.Checks.{head_check}
use Rattle.tables.proofs.LayoutLaws.{start_small}
use Rattle.tables.proofs.CheckLaws.{head_right}
use Rattle.records.specs.Reading.{HeadRead}
use Rattle.records.specs.Columns.{Lent}
use Rattle.records.proofs.ColumnLaws.{sound, few_tasks_law, rows_end}
use Rattle.reading.proofs.HeldLaws.{large_fits}

-- columns for 200 tasks have room for any table
pub columns_lent : (table : List ℕ) → head_check table ≡ Ok tt → {bytes words : ℕ} → bytes ≡ 328 → words ≡ 1064 →
    Lent table 200 (replicate bytes 0) (replicate words 0)
columns_lent table clean {bytes} {words} b w =
    record {
      tasks_fit = large_fits table clean;
      bytes_long = length-replicate {A = ℕ} bytes 0 ∙ b;
      words_long = length-replicate {A = ℕ} words 0 ∙ w;
    }

pub head_read : {bytes : List ℕ} {layout : Layout} {n : ℕ} → head_check bytes ≡ Ok tt → layout ≡ layout_of bytes → n ≡ task_count bytes →
    HeadRead bytes layout n
head_read clean decided counted = record { head = clean; decided = decided; counted = counted }

-- the head has come
pub head_long : (bytes : List ℕ) → head_check bytes ≡ Ok tt → 5 ≤ length bytes
head_long bytes clean = (head_right bytes clean).long_enough

module _ (bytes : List ℕ) (layout : Layout) (clean : head_check bytes ≡ Ok tt) (decided : layout ≡ layout_of bytes) where
  head : HeadRead bytes layout (task_count bytes)
  head = head_read clean decided refl

  pub layout_right : Sound layout
  layout_right = sound bytes layout (task_count bytes) head

  -- nothing begins far on
  pub records_near : layout.size * task_count bytes ≤ 5355
  records_near = omega (arith, start_small layout layout_right {n = task_count bytes} (few_tasks_law bytes layout (task_count bytes) head))

  -- a record has a size, and as many are there as are stated
  pub some_bytes : 0 < layout.size
  some_bytes = omega (arith, layout_right.fields)

  pub records_fit : 5 + layout.size * task_count bytes ≤ length bytes
  records_fit = omega (arith, rows_end bytes layout (task_count bytes) head)

  module _ (n : ℕ) (counted : n ≡ task_count bytes) where
    pub rows_fit : 5 + layout.size * n + 6 * row_count bytes ≤ length bytes
    rows_fit = rw counted (omega (arith, rows_end bytes layout (task_count bytes) head))

    pub rows_begin : 5 + layout.size * n ≤ length bytes
    rows_begin = omega (arith, rows_fit)

  -- each is the table's
  pub record_is : (i : ℕ) {t : Task} → t ≡ record_from layout bytes (5 + layout.size * i) → t ≡ task_at bytes i
  record_is i read = read ∙ ap (λ (l : Layout). record_from l bytes (record_start l i)) decided

  pub row_is : (n k : ℕ) → n ≡ task_count bytes → {r : Row} → r ≡ row_from bytes (5 + layout.size * n + 6 * k) → r ≡ row_at bytes k
  row_is n k counted read =
      read
      ∙ ap (λ (l : Layout). row_from bytes (row_start l n k)) decided
      ∙ ap (λ (t : ℕ). row_from bytes (row_start (layout_of bytes) t k)) counted
