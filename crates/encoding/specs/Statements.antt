-- Every list of tasks and rows within the rules has bytes that are accepted and read back as it: what is said of accepted bytes is said of
-- every such table, and of no other. The proofs are in proofs/Encoding.antt.
-- Assumes nothing.
use Rattle.std.specs.Prelude.{ℕ, ◌*◌, ◌≤◌, ◌<◌, ◌≡◌, List, length, get_or}
use Rattle.model.specs.Tables.{Row, Table, task_of}
use Rattle.tables.specs.declared.layout.DelayFields.TheVariants.{Jitter}
use Rattle.tables.specs.Fields.{RecordField, RowField}
use Rattle.tables.specs.Layout.{layout_for, byte_at, version_of, task_count, row_count, table_of}
use Rattle.tables.specs.Meaning.{Known, Within, TaskFieldRight, SectionFieldRight, TableRight}
use Rattle.encoding.specs.Bytes.{encode}

-- a row that holds nothing: what stands past the end of a list of rows
abbrev pub no_row : Row
no_row = record { place = 0; semaphore = 0; longest = 0 }

abbrev pub row_of : List Row → ℕ → Row
row_of rows k = get_or rows k no_row

-- A table within the rules of a version: the rules are the very ones that accepted bytes keep. Bytes add that a priority is at most 255,
-- and that version 1 has no place for an earliest delay.
pub record Fits (version : ℕ) (table : Table) : Type 0 where
  pub known : Known version
  pub tasks : Within 1 (layout_for version).most (length table.tasks)
  pub rows : Within 0 64 (length table.rows)
  pub each_task : (i : ℕ) → i < length table.tasks → (field : RecordField) → TaskFieldRight 1 (task_of table.tasks) i field
  pub each_row : (k : ℕ) → k < length table.rows → (field : RowField) →
      SectionFieldRight (length table.tasks) (task_of table.tasks) (row_of table.rows) k field
  pub priorities : (i : ℕ) → i < length table.tasks → (task_of table.tasks i).priority ≤ 255
  pub no_earliest : (layout_for version).delays ≡ Jitter → (i : ℕ) → i < length table.tasks → (task_of table.tasks i).earliest ≡ 0

-- each number of a list is a byte
pub record AreBytes (bytes : List ℕ) : Type 0 where
  pub each : (at : ℕ) → byte_at bytes at ≤ 255

pub record Encoded : Type 0 where
  pub are_bytes : (version : ℕ) (table : Table) → Fits version table → AreBytes (encode version table)
  pub in_version : (version : ℕ) (table : Table) → version_of (encode version table) ≡ version
  -- they break no rule, and mean the table that they were made of
  pub accepted : (version : ℕ) (table : Table) → Fits version table → TableRight (encode version table)
  pub read_back : (version : ℕ) (table : Table) → Fits version table → table_of (encode version table) ≡ table
  -- and what accepted bytes mean is within the rules, so that no table is left out and none is added
  pub means_fit : (bytes : List ℕ) → AreBytes bytes → TableRight bytes → Fits (version_of bytes) (table_of bytes)
  -- whose bytes are those and no others
  pub only_bytes : (bytes : List ℕ) → AreBytes bytes → TableRight bytes → encode (version_of bytes) (table_of bytes) ≡ bytes

-- Bytes of that shape are accepted: so many tasks and so many rows, in that version.
pub record HasShape (version n m : ℕ) (bytes : List ℕ) : Type 0 where
  pub are_bytes : AreBytes bytes
  pub accepted : TableRight bytes
  pub in_version : version_of bytes ≡ version
  pub tasks : task_count bytes ≡ n
  pub rows : row_count bytes ≡ m

-- Which shapes exist: all with 1 task to as many as the version allows, which is 32, or 200 in version 3 (document 02, L9), and 0 to 64
-- rows, the greatest numbers among them; but that a task has a row for each of 16 semaphores at most, since rows strictly rise.
pub record AllShapes : Type 0 where
  pub exist : (version n m : ℕ) → Known version → Within 1 (layout_for version).most n → Within 0 64 m → m ≤ 16 * n →
      (bytes : List ℕ) × HasShape version n m bytes
  pub no_others : (version n m : ℕ) (bytes : List ℕ) → HasShape version n m bytes → m ≤ 16 * n
