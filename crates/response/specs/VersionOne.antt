-- That version 1 tables keep their answers and rounds (SPECIFICATION 13.4; document 02, L4): document 01's bytes and its equation, with J
-- in both uses, as document 01 writes them, beside what `analyse_from` leaves. Document 01's tables have strictly falling priorities; those
-- of version 1 that repeat one are new with document 02's L6. The proof is in proofs/VersionOne.antt.
-- Assumes nothing.
use Rattle.std.specs.Prelude.{ℕ, suc, ◌+◌, ◌*◌, ◌≤◌, ◌<◌, ◌≡◌, List, map, length}
use Rattle.model.specs.Lists.{tabulate, keep, word_of}
use Rattle.model.specs.Tables.{Task, Row, Table, Load, task_of, more_urgent, Falling}
use Rattle.tables.specs.Layout.{byte_at, word_at, version_of, stated_length, task_count, row_count, tasks_of, table_of}
use Rattle.tables.specs.Meaning.{Within, RowsRise, TableRight}
use Rattle.equation.specs.Answer.{answer}
use Rattle.equation.specs.Sequence.{rounds}
use Rattle.equation.specs.declared.Start.{Start}
use Rattle.equation.specs.Starts.{start_from}
use Rattle.response.specs.Analysis.{base_of}
use Rattle.response.specs.Outcome.{Call, Left, Outcome}
use Rattle.response.specs.Statements.{Accepted}

-- "then n × 17": record i begins behind five bytes and i records
abbrev pub record_one : ℕ → ℕ
record_one i = 5 + 17 * i

-- "priority (1 byte), period T, cost C, deadline D, jitter J (4 bytes each)", "read with earliest 0" and latest J
abbrev pub task_one : List ℕ → ℕ → Task
task_one bytes i =
    record {
      priority = byte_at bytes (record_one i);
      period = word_at bytes (record_one i + 1);
      cost = word_at bytes (record_one i + 5);
      deadline = word_at bytes (record_one i + 9);
      earliest = 0;
      latest = word_at bytes (record_one i + 13);
    }

-- "then m × 6": "task place (1), semaphore (1), longest section (4)"
abbrev pub start_one : List ℕ → ℕ → ℕ
start_one bytes k = 5 + 17 * task_count bytes + 6 * k

abbrev pub row_one : List ℕ → ℕ → Row
row_one bytes k =
    record {
      place = byte_at bytes (start_one bytes k);
      semaphore = byte_at bytes (start_one bytes k + 1);
      longest = word_at bytes (start_one bytes k + 2);
    }

abbrev pub table_one : List ℕ → Table
table_one bytes =
    record { tasks = tabulate (task_one bytes) (task_count bytes); rows = tabulate (row_one bytes) (row_count bytes) }

-- "Priorities are 1 to 255 and strictly fall from each record to the next.", "T and C are 1 to 1,000,000. D is 1 to T. J is 0 to
-- 1,000,000."
pub record RecordRules (task : ℕ → Task) (i : ℕ) : Type 0 where
  pub period : Within 1 1000000 (task i).period
  pub cost : Within 1 1000000 (task i).cost
  pub deadline : Within 1 (task i).period (task i).deadline
  pub jitter : Within 0 1000000 (task i).latest
  pub positive : 1 ≤ (task i).priority
  pub falls : (before : ℕ) → suc before ≡ i → (task i).priority < (task before).priority

-- "A section row names a place 0 to n−1, a semaphore 1 to 16 and a length 1 to that task's C. Rows strictly rise by place, then
-- semaphore."
pub record RowRules (n : ℕ) (task : ℕ → Task) (row : ℕ → Row) (k : ℕ) : Type 0 where
  pub place : (row k).place < n
  pub semaphore : Within 1 16 (row k).semaphore
  pub longest : Within 1 (task (row k).place).cost (row k).longest
  pub rise : (before : ℕ) → suc before ≡ k → RowsRise (row before) (row k)

-- document 01's rules for the bytes of version 1, given its records and rows
pub record Rules (bytes : List ℕ) (task : ℕ → Task) (row : ℕ → Row) : Type 0 where
  pub long_enough : 5 ≤ length bytes
  pub tasks : Within 1 32 (task_count bytes)
  pub rows : Within 0 64 (row_count bytes)
  pub stated : stated_length bytes ≡ length bytes
  pub summed : 5 + 17 * task_count bytes + 6 * row_count bytes ≡ length bytes
  pub records : (i : ℕ) → i < task_count bytes → RecordRules task i
  pub sections : (k : ℕ) → k < row_count bytes → RowRules (task_count bytes) task row k

abbrev pub RightOne : List ℕ → Type 0
RightOne bytes = Rules bytes (task_one bytes) (row_one bytes)

-- J_i, of the task at place i
abbrev pub jitter_of : Table → ℕ → ℕ
jitter_of table i = (task_of table.tasks i).latest

-- "over every more urgent j, C_j times (w + J_j) / T_j rounded up": J_j is what is added to w
abbrev pub jitter_load : Task → Load
jitter_load t = record { period = t.period; cost = t.cost; spread = t.latest }

abbrev pub jitter_loads : Table → ℕ → List Load
jitter_loads table i = map jitter_load (keep (more_urgent (task_of table.tasks i).priority) table.tasks)

-- "Its answer is w + J_i if such a w exists and w + J_i ≤ D_i; else 0. One jitter number serves both uses."
abbrev pub answer_one : Table → ℕ → ℕ
answer_one table i = answer (base_of table i) (jitter_loads table i) (jitter_of table i) (task_of table.tasks i).deadline

-- "Rounds is the smallest k ≥ 1 with x_k = x_(k−1) or x_k + J_i > D_i", with "x0 = C_i + B_i" where the start is `OwnCost`, and with
-- L5's x0 where it is `EveryCost`
abbrev pub rounds_one : Start → Table → ℕ → ℕ
rounds_one start table i =
    rounds (base_of table i) (jitter_loads table i) (start_from start (base_of table i) (jitter_loads table i)) (jitter_of table i) (task_of table.tasks i).deadline

-- what is left for the task at place i is what document 01's equation gives, the rounds from the start used
pub record KeptAt (start : Start) (bytes : List ℕ) (result : Left) (i : ℕ) : Type 0 where
  pub answer_kept : word_of result.answers i ≡ answer_one (table_one bytes) i
  pub rounds_kept : word_of result.rounds i ≡ rounds_one start (table_one bytes) i

pub record VersionOneKept : Type 0 where
  -- "Version 1 tables read with earliest 0", for all bytes of version 1
  pub reads : (bytes : List ℕ) → version_of bytes ≡ 1 → table_of bytes ≡ table_one bytes
  -- document 01's rules hold for them and, where priorities strictly fall, for no others: what was accepted is, and what was refused is
  pub accepts : (bytes : List ℕ) → version_of bytes ≡ 1 → RightOne bytes → TableRight bytes
  pub refuses : (bytes : List ℕ) → version_of bytes ≡ 1 → Falling (tasks_of bytes) → TableRight bytes → RightOne bytes
  -- "and keep their answers", and their rounds
  pub keeps : (start : Start) (lent : Call) (result : Left) → Outcome start lent result → Accepted lent → version_of lent.bytes ≡ 1 →
      Falling (tasks_of lent.bytes) → (i : ℕ) → i < task_count lent.bytes → KeptAt start lent.bytes result i
