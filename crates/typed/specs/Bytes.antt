-- The bytes of what the slices keep (SPECIFICATION 14.3). That they are those of what is typed is `TextAnswered` of specs/Answered.antt.
-- Assumes nothing.
use Rattle.std.specs.Prelude.{ℕ, ◌+◌, ◌*◌, ◌%◌, ◌≤◌, List, [], ◌∷◌, ◌++◌, ltb}
use Rattle.model.specs.Choice.{pick}
use Rattle.model.specs.Lists.{tabulate}
use Rattle.model.specs.Tables.{Task, Row, Table}
use Rattle.tables.specs.declared.layout.DelayFields.{DelayFields}
use Rattle.tables.specs.declared.layout.DelayFields.TheVariants.{Jitter, Pair}
use Rattle.encoding.specs.Bytes.{two_bytes, four_bytes, encode}
use Rattle.typing.specs.declared.lines.Counts.{Counts}
use Rattle.typing.specs.Kept.{number_at}

-- a task and a section whose numbers stand from a place on, with the lowest byte of what has one byte
unfoldable pub low_task_at : List ℕ → ℕ → Task
low_task_at numbers from =
    record {
      priority = number_at numbers from % 256;
      period = number_at numbers (from + 1);
      cost = number_at numbers (from + 2);
      deadline = number_at numbers (from + 3);
      earliest = number_at numbers (from + 4);
      latest = number_at numbers (from + 5);
    }

unfoldable pub low_row_at : List ℕ → ℕ → Row
low_row_at numbers from =
    record {
      place = number_at numbers from % 256;
      semaphore = number_at numbers (from + 1) % 256;
      longest = number_at numbers (from + 2);
    }

abbrev pub low_task : List ℕ → ℕ → Task
low_task numbers i = low_task_at numbers (193 + 6 * i)

abbrev pub low_row : List ℕ → ℕ → Row
low_row numbers k = low_row_at numbers (1 + 3 * k)

-- the delays of a record
abbrev pub delays_of : DelayFields → ℕ → ℕ → List ℕ
delays_of Jitter earliest latest = four_bytes latest
delays_of Pair earliest latest = four_bytes earliest ++ four_bytes latest

-- the head of a table whose records have so many bytes
abbrev pub head_kept : ℕ → ℕ → ℕ → ℕ → List ℕ
head_kept version size n m = (version ∷ two_bytes (5 + size * n + 6 * m)) ++ (n ∷ m ∷ [])

-- the version, with the lowest byte of the one that is stated
unfoldable pub version_kept : Counts → ℕ → ℕ
version_kept counts stated =
    pick counts.stated (stated % 256) (pick (ltb 32 counts.tasks) 3 (pick counts.delayed 2 1))

-- no more than a table holds
pub record Roomy (counts : Counts) : Type 0 where
  pub tasks : counts.tasks ≤ 200
  pub sections : counts.sections ≤ 64

abbrev pub table_kept : Counts → List ℕ → Table
table_kept counts numbers =
    record { tasks = tabulate (low_task numbers) counts.tasks; rows = tabulate (low_row numbers) counts.sections }

unfoldable pub bytes_kept : Counts → List ℕ → List ℕ
bytes_kept counts numbers = encode (version_kept counts (number_at numbers 0)) (table_kept counts numbers)
