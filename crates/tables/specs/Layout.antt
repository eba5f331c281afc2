-- House form, versions 1 to 3: which bytes hold which field, and the table that the bytes mean (SPECIFICATION 2;
-- document 01, "The table's bytes"; document 02, L4 and L9).
-- Assumes nothing.
use Rattle.std.specs.Prelude.{ℕ, ◌+◌, ◌*◌, ◌≤◌, true, false, List, eqb, get_or}
use Rattle.model.specs.Choice.{pick}
use Rattle.model.specs.Lists.{tabulate}
use Rattle.model.specs.Tables.{Task, Row, Table}
use Rattle.tables.specs.declared.layout.DelayFields.{DelayFields}
use Rattle.tables.specs.declared.layout.DelayFields.TheVariants.{Jitter, Pair}
use Rattle.tables.specs.declared.layout.Layout.{Layout}

-- "All numbers are unsigned and big-endian."
abbrev pub byte_at : List ℕ → ℕ → ℕ
byte_at bytes at = get_or bytes at 0

abbrev pub half_at : List ℕ → ℕ → ℕ
half_at bytes at = byte_at bytes at * 256 + byte_at bytes (at + 1)

abbrev pub word_at : List ℕ → ℕ → ℕ
word_at bytes at =
    byte_at bytes at * 16777216 + byte_at bytes (at + 1) * 65536 + byte_at bytes (at + 2) * 256 + byte_at bytes (at + 3)

-- the bytes before the first record, and of one section row
abbrev pub head_size : ℕ
head_size = 5

abbrev pub row_size : ℕ
row_size = 6

-- where the two counts begin
abbrev pub task_count_at : ℕ
task_count_at = 3

abbrev pub row_count_at : ℕ
row_count_at = 4

-- Byte 0 is the version, bytes 1 and 2 are the "length of the whole table in bytes", byte 3 is "n, number of tasks", byte 4 "m, number of
-- section rows" (SPECIFICATION 2.1).
abbrev pub version_of : List ℕ → ℕ
version_of bytes = byte_at bytes 0

abbrev pub stated_length : List ℕ → ℕ
stated_length bytes = half_at bytes 1

abbrev pub task_count : List ℕ → ℕ
task_count bytes = byte_at bytes task_count_at

abbrev pub row_count : List ℕ → ℕ
row_count bytes = byte_at bytes row_count_at

-- What the version decides: the size of a task record, the greatest number of tasks, and which delays a record has.
-- "n × 17": J alone
abbrev pub version_one : Layout
version_one = record { known = true; size = 17; most = 32; delays = Jitter }

-- "Version 2 has 21-byte records: earliest and latest delay in place of J"
abbrev pub version_two : Layout
version_two = record { known = true; size = 21; most = 32; delays = Pair }

-- "Version 3 has version 2's layout with n up to 200", "Versions 1 and 2 keep their limit of 32."
abbrev pub version_three : Layout
version_three = record { known = true; size = 21; most = 200; delays = Pair }

-- any other version is not known, and has no record
abbrev pub no_version : Layout
no_version = record { known = false; size = 0; most = 0; delays = Jitter }

-- "The version byte alone decides which layout and limits hold."
unfoldable pub layout_for : ℕ → Layout
layout_for version =
    pick (eqb version 1) version_one (pick (eqb version 2) version_two (pick (eqb version 3) version_three no_version))

abbrev pub layout_of : List ℕ → Layout
layout_of bytes = layout_for (version_of bytes)

-- "The length is 5 + 17n + 6m", "5 + 21n + 6m"
abbrev pub length_for : Layout → ℕ → ℕ → ℕ
length_for layout n m = head_size + layout.size * n + row_size * m

-- where record i and, after n records, row k begin
abbrev pub record_start : Layout → ℕ → ℕ
record_start layout i = head_size + layout.size * i

abbrev pub row_start : Layout → ℕ → ℕ → ℕ
row_start layout n k = record_start layout n + row_size * k

-- "priority (1 byte), period T, cost C, deadline D, jitter J (4 bytes each)", "earliest and latest delay in place of J": where each
-- begins in its record
abbrev pub priority_at : ℕ
priority_at = 0

abbrev pub period_at : ℕ
period_at = 1

abbrev pub cost_at : ℕ
cost_at = 5

abbrev pub deadline_at : ℕ
deadline_at = 9

abbrev pub jitter_at : ℕ
jitter_at = 13

abbrev pub earliest_at : ℕ
earliest_at = 13

-- J is the latest delay
abbrev pub latest_at : DelayFields → ℕ
latest_at Jitter = jitter_at
latest_at Pair = 17

-- "Version 1 tables read with earliest 0"
abbrev pub earliest_from : DelayFields → List ℕ → ℕ → ℕ
earliest_from Jitter bytes at = 0
earliest_from Pair bytes at = word_at bytes (at + earliest_at)

abbrev pub record_from : Layout → List ℕ → ℕ → Task
record_from layout bytes at =
    record {
      priority = byte_at bytes (at + priority_at);
      period = word_at bytes (at + period_at);
      cost = word_at bytes (at + cost_at);
      deadline = word_at bytes (at + deadline_at);
      earliest = earliest_from layout.delays bytes at;
      latest = word_at bytes (at + latest_at layout.delays);
    }

abbrev pub task_at : List ℕ → ℕ → Task
task_at bytes i = record_from (layout_of bytes) bytes (record_start (layout_of bytes) i)

-- what every layout that the reader knows keeps to: the fields end within the record, and records and tasks are not too many for the
-- sums that are made of them
pub record Sound (layout : Layout) : Type 0 where
  pub fields : 17 ≤ layout.size
  pub latest_inside : latest_at layout.delays + 4 ≤ layout.size
  pub small : layout.size ≤ 21
  pub few : layout.most ≤ 200

-- "task place (1), semaphore (1), longest section (4)": where each begins in its row
abbrev pub place_at : ℕ
place_at = 0

abbrev pub semaphore_at : ℕ
semaphore_at = 1

abbrev pub longest_at : ℕ
longest_at = 2

abbrev pub row_from : List ℕ → ℕ → Row
row_from bytes at =
    record
    { place = byte_at bytes (at + place_at); semaphore = byte_at bytes (at + semaphore_at); longest = word_at bytes (at + longest_at) }

abbrev pub row_at : List ℕ → ℕ → Row
row_at bytes k = row_from bytes (row_start (layout_of bytes) (task_count bytes) k)

-- what the bytes mean, once they are accepted
abbrev pub tasks_of : List ℕ → List Task
tasks_of bytes = tabulate (task_at bytes) (task_count bytes)

abbrev pub rows_of : List ℕ → List Row
rows_of bytes = tabulate (row_at bytes) (row_count bytes)

abbrev pub table_of : List ℕ → Table
table_of bytes = record { tasks = tasks_of bytes; rows = rows_of bytes }

-- one field of each record, by its place
abbrev pub priority_in : List ℕ → ℕ → ℕ
priority_in bytes i = (task_at bytes i).priority

abbrev pub period_in : List ℕ → ℕ → ℕ
period_in bytes i = (task_at bytes i).period

abbrev pub cost_in : List ℕ → ℕ → ℕ
cost_in bytes i = (task_at bytes i).cost

abbrev pub deadline_in : List ℕ → ℕ → ℕ
deadline_in bytes i = (task_at bytes i).deadline

abbrev pub earliest_in : List ℕ → ℕ → ℕ
earliest_in bytes i = (task_at bytes i).earliest

abbrev pub latest_in : List ℕ → ℕ → ℕ
latest_in bytes i = (task_at bytes i).latest

-- one field of each row, by its number
abbrev pub place_in : List ℕ → ℕ → ℕ
place_in bytes k = (row_at bytes k).place

abbrev pub semaphore_in : List ℕ → ℕ → ℕ
semaphore_in bytes k = (row_at bytes k).semaphore

abbrev pub longest_in : List ℕ → ℕ → ℕ
longest_in bytes k = (row_at bytes k).longest
