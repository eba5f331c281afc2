-- The rules of the table's bytes (SPECIFICATION 2; document 01, "The table's bytes", and document 02, L4, L6 and L9), without any test,
-- field by field.
-- Assumes nothing.
use Rattle.std.specs.Prelude.{ℕ, suc, ◌≤◌, ◌<◌, ◌≡◌, ◌⊎◌, List, length}
use Rattle.model.specs.Tables.{Task, Row}
use Rattle.tables.specs.Fields.{CountField, task_count_field, row_count_field, RecordField, period_field, cost_field, deadline_field, earliest_field, latest_field, priority_field, RowField, place_field, semaphore_field, longest_field, order_field}
use Rattle.tables.specs.Rules.{longest_deadline}
use Rattle.tables.specs.Layout.{version_of, layout_of, stated_length, task_count, row_count, length_for, task_at, row_at}

-- 1: "fewer than 5 bytes"
abbrev pub LongEnough : List ℕ → Type 0
LongEnough bytes = 5 ≤ length bytes

-- 2: "byte 0 isn't 1", nor 2 or 3 (SPECIFICATION 2.2; document 02, L4 and L9)
abbrev pub Known : ℕ → Type 0
Known version = (version ≡ 1) ⊎ ((version ≡ 2) ⊎ (version ≡ 3))

abbrev pub VersionKnown : List ℕ → Type 0
VersionKnown bytes = Known (version_of bytes)

-- a number in its range, both ends allowed
pub record Within (lowest highest number : ℕ) : Type 0 where
  pub low : lowest ≤ number
  pub high : number ≤ highest

-- 3: "n, number of tasks, 1 to 32" (what the version allows at most), "m, number of section rows, 0 to 64"
abbrev pub CountRight : List ℕ → CountField → Type 0
CountRight bytes task_count_field = Within 1 (layout_of bytes).most (task_count bytes)
CountRight bytes row_count_field = Within 0 64 (row_count bytes)

abbrev pub CountsRight : List ℕ → Type 0
CountsRight bytes = (field : CountField) → CountRight bytes field

-- 4: "stated length, lent length and 5 + 17n + 6m not all equal" (or 5 + 21n + 6m)
pub record LengthsEqual (bytes : List ℕ) : Type 0 where
  pub stated : stated_length bytes ≡ length bytes
  pub summed : length_for (layout_of bytes) (task_count bytes) (row_count bytes) ≡ length bytes

-- 6: "Priorities are 1 to 255" (a byte is at most 255), and "Records may now repeat a priority but not rise" (SPECIFICATION 2.3;
-- document 02, L6). The tasks are given by their places.
pub record PriorityInOrder (task : ℕ → Task) (i : ℕ) : Type 0 where
  pub positive : 1 ≤ (task i).priority
  pub not_rising : (before : ℕ) → suc before ≡ i → (task i).priority ≤ (task before).priority

-- "Rows strictly rise by place, then semaphore."
pub record RowsRise (before row : Row) : Type 0 where
  pub by_place : before.place ≤ row.place
  pub then_semaphore : before.place ≡ row.place → before.semaphore < row.semaphore

-- 5: "T and C are 1 to 1,000,000. D is 1 to T. J is 0 to 1,000,000."; "earliest at most latest, both at most 1,000,000"; and 6: of
-- any tasks, given by their places.
-- `span` is how many periods a deadline may span: 1 in document 01, where `OnePeriod`, below, says that this is T.
abbrev pub TaskFieldRight : ℕ → (ℕ → Task) → ℕ → RecordField → Type 0
TaskFieldRight span task i period_field = Within 1 1000000 (task i).period
TaskFieldRight span task i cost_field = Within 1 1000000 (task i).cost
TaskFieldRight span task i deadline_field = Within 1 (longest_deadline span (task i).period) (task i).deadline
TaskFieldRight span task i earliest_field = Within 0 1000000 (task i).earliest
TaskFieldRight span task i latest_field = Within (task i).earliest 1000000 (task i).latest
TaskFieldRight span task i priority_field = PriorityInOrder task i

-- and so of the records of a table
abbrev pub RecordFieldRight : ℕ → List ℕ → ℕ → RecordField → Type 0
RecordFieldRight span bytes i field = TaskFieldRight span (task_at bytes) i field

abbrev pub RecordRight : ℕ → List ℕ → ℕ → Type 0
RecordRight span bytes i = (field : RecordField) → RecordFieldRight span bytes i field

-- 7: "A section row names a place 0 to n−1, a semaphore 1 to 16 and a length 1 to that task's C.", and the order: of any rows of n tasks
abbrev pub SectionFieldRight : ℕ → (ℕ → Task) → (ℕ → Row) → ℕ → RowField → Type 0
SectionFieldRight n task row k place_field = (row k).place < n
SectionFieldRight n task row k semaphore_field = Within 1 16 (row k).semaphore
SectionFieldRight n task row k longest_field = Within 1 (task (row k).place).cost (row k).longest
SectionFieldRight n task row k order_field = (before : ℕ) → suc before ≡ k → RowsRise (row before) (row k)

-- and so of the rows of a table
abbrev pub RowFieldRight : List ℕ → ℕ → RowField → Type 0
RowFieldRight bytes k field = SectionFieldRight (task_count bytes) (task_at bytes) (row_at bytes) k field

abbrev pub RowRight : List ℕ → ℕ → Type 0
RowRight bytes k = (field : RowField) → RowFieldRight bytes k field

-- 8: "an answer slice has fewer than n words"
pub record RoomFor (bytes : List ℕ) (answers rounds : ℕ) : Type 0 where
  pub answers_long : task_count bytes ≤ answers
  pub rounds_long : task_count bytes ≤ rounds

-- the head breaks no rule
pub record HeadRight (bytes : List ℕ) : Type 0 where
  pub long_enough : LongEnough bytes
  pub version : VersionKnown bytes
  pub counts : CountsRight bytes
  pub lengths : LengthsEqual bytes

-- the records before record i break no rule, and so for the rows before row k
abbrev pub RecordsRight : ℕ → List ℕ → ℕ → Type 0
RecordsRight span bytes i = (j : ℕ) → j < i → RecordRight span bytes j

abbrev pub RowsRight : List ℕ → ℕ → Type 0
RowsRight bytes k = (j : ℕ) → j < k → RowRight bytes j

-- the table breaks no rule
pub record TableRightSpanning (span : ℕ) (bytes : List ℕ) : Type 0 where
  pub head : HeadRight bytes
  pub records : RecordsRight span bytes (task_count bytes)
  pub rows : RowsRight bytes (row_count bytes)

-- of document 01's, where a deadline spans one period
abbrev pub TableRight : List ℕ → Type 0
TableRight bytes = TableRightSpanning 1 bytes

-- "D is 1 to T": that is what one period says of a T that is right
abbrev pub OnePeriod : Type 0
OnePeriod = (period : ℕ) → Within 1 1000000 period → longest_deadline 1 period ≡ period
