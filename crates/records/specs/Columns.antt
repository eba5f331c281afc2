-- The columns that a table is read into, and what they hold after that.
-- Assumes nothing.
use Rattle.std.specs.Prelude.{ℕ, ◌+◌, ◌*◌, ◌≤◌, ◌<◌, ◌≡◌, List, length, get_or, take, drop, Ok}
use Rattle.model.specs.Choice.{on}
use Rattle.model.specs.Lists.{filled}
use Rattle.model.specs.Tables.{Task, Row, spread_of}
use Rattle.tables.specs.Layout.{task_count, row_count, task_at, row_at}
use Rattle.tables.specs.Refusals.{is_clean}
use Rattle.tables.specs.Checks.{records_check, read_check, rows_read}

-- a word of each of six columns for each task, and of each of three for each section row
pub data RecordColumn : Type 0 where
  priority_column : RecordColumn
  period_column : RecordColumn
  cost_column : RecordColumn
  deadline_column : RecordColumn
  spread_column : RecordColumn
  latest_column : RecordColumn

pub data RowColumn : Type 0 where
  place_column : RowColumn
  semaphore_column : RowColumn
  longest_column : RowColumn

-- `long` words of a slice, from `start` on
abbrev pub part : ℕ → ℕ → List ℕ → List ℕ
part start long words = take long (drop start words)

-- The columns stand one behind another in two lent slices. In the bytes: the priorities of `room` tasks, and the places and semaphores
-- of 64 rows, the most that a version has. In the words: the other five numbers of `room` tasks, as many columns behind the first as is
-- said, and the longest sections.
abbrev pub record_columns : (room : ℕ) (bytes words : List ℕ) → RecordColumn → List ℕ
record_columns room bytes words priority_column = part 0 room bytes
record_columns room bytes words period_column = part (0 * room) room words
record_columns room bytes words cost_column = part (1 * room) room words
record_columns room bytes words deadline_column = part (2 * room) room words
record_columns room bytes words spread_column = part (3 * room) room words
record_columns room bytes words latest_column = part (4 * room) room words

abbrev pub row_columns : (room : ℕ) (bytes words : List ℕ) → RowColumn → List ℕ
row_columns room bytes words place_column = part room 64 bytes
row_columns room bytes words semaphore_column = part (room + 64) 64 bytes
row_columns room bytes words longest_column = part (5 * room) 64 words

-- the slices are as long as their columns, which have room for each task of the table
pub record Lent (table : List ℕ) (room : ℕ) (bytes words : List ℕ) : Type 0 where
  pub tasks_fit : task_count table ≤ room
  pub bytes_long : length bytes ≡ room + 128
  pub words_long : length words ≡ 5 * room + 64

-- the number of a task, or of a row, that its column has
abbrev pub record_number : RecordColumn → Task → ℕ
record_number priority_column t = t.priority
record_number period_column t = t.period
record_number cost_column t = t.cost
record_number deadline_column t = t.deadline
record_number spread_column t = spread_of t
record_number latest_column t = t.latest

abbrev pub row_number : RowColumn → Row → ℕ
row_number place_column r = r.place
row_number semaphore_column r = r.semaphore
row_number longest_column r = r.longest

-- and so in the table, record by record and row by row
abbrev pub record_in : List ℕ → RecordColumn → ℕ → ℕ
record_in bytes c i = record_number c (task_at bytes i)

abbrev pub row_in : List ℕ → RowColumn → ℕ → ℕ
row_in bytes c k = row_number c (row_at bytes k)

-- the first k words of each column are those of `value`, and the later ones are the old ones
pub record Filled {C : Type 0} (value : C → ℕ → ℕ) (k : ℕ) (old new : C → List ℕ) : Type 0 where
  pub is : (c : C) → new c ≡ filled (value c) k (old c)

-- no row is read where a record is refused
abbrev pub rows_reached : ℕ → List ℕ → ℕ
rows_reached span bytes = on (is_clean (records_check span bytes)) (rows_read bytes)

-- a slice holds f 0 to f (n − 1)
pub record Holds (words : List ℕ) (n : ℕ) (f : ℕ → ℕ) : Type 0 where
  pub long : n ≤ length words
  pub read : (i : ℕ) → i < n → get_or words i 0 ≡ f i

-- nothing of the table is refused, and the columns hold its records and its rows
pub record TableHeld (span : ℕ) (bytes : List ℕ) (records : RecordColumn → List ℕ) (rows : RowColumn → List ℕ) : Type 0 where
  pub clean : read_check span bytes ≡ Ok tt
  pub of_records : (c : RecordColumn) → Holds (records c) (task_count bytes) (record_in bytes c)
  pub of_rows : (c : RowColumn) → Holds (rows c) (row_count bytes) (row_in bytes c)
