-- What the lent slices hold behind a text is what is typed in it. The proof is in proofs/KeptLaws.antt.
-- Assumes nothing.
use Rattle.std.specs.Prelude.{ℕ, ◌+◌, ◌*◌, ◌≤◌, ◌<◌, ◌≡◌, true, List, length, get_or}
use Rattle.model.specs.Lists.{tabulate}
use Rattle.model.specs.Tables.{Task, Row, task_of}
use Rattle.encoding.specs.Statements.{row_of}
use Rattle.words.specs.Words.{Event}
use Rattle.typing.specs.declared.lines.Counts.{Counts}
use Rattle.typing.specs.Lines.{no_fields}
use Rattle.typing.specs.Reading.{state_begun, Typed, Draft, draft_begun, draft_after}
use Rattle.typing.specs.Steps.{Memory, memory, memory_after}

-- the numbers of a task and of a section, and the lines they stand in
abbrev pub number_at : List ℕ → ℕ → ℕ
number_at numbers at = get_or numbers at 0

unfoldable pub task_kept : List ℕ → ℕ → Task
task_kept numbers i =
    record {
      priority = number_at numbers (193 + 6 * i);
      period = number_at numbers (193 + 6 * i + 1);
      cost = number_at numbers (193 + 6 * i + 2);
      deadline = number_at numbers (193 + 6 * i + 3);
      earliest = number_at numbers (193 + 6 * i + 4);
      latest = number_at numbers (193 + 6 * i + 5);
    }

unfoldable pub row_kept : List ℕ → ℕ → Row
row_kept numbers k =
    record {
      place = number_at numbers (1 + 3 * k);
      semaphore = number_at numbers (1 + 3 * k + 1);
      longest = number_at numbers (1 + 3 * k + 2);
    }

abbrev pub task_line_kept : List ℕ → ℕ → ℕ
task_line_kept places i = number_at places (65 + i)

abbrev pub row_line_kept : List ℕ → ℕ → ℕ
row_line_kept places k = number_at places (1 + k)

pub record Holds (typed : Typed) (counts : Counts) (numbers places : List ℕ) : Type 0 where
  pub tasks : tabulate (task_kept numbers) counts.tasks ≡ typed.tasks
  pub rows : tabulate (row_kept numbers) counts.sections ≡ typed.rows
  pub task_lines : tabulate (task_line_kept places) counts.tasks ≡ typed.task_lines
  pub row_lines : tabulate (row_line_kept places) counts.sections ≡ typed.row_lines
  pub version : counts.stated ≡ true → number_at numbers 0 ≡ typed.version
  pub version_line : number_at places 0 ≡ typed.version_line

-- what is typed fits into the fields of a table, and is not more than a table holds
pub record TaskFits (task : Task) : Type 0 where
  pub priority : task.priority ≤ 255
  pub period : task.period ≤ 4294967295
  pub cost : task.cost ≤ 4294967295
  pub deadline : task.deadline ≤ 4294967295
  pub earliest : task.earliest ≤ 4294967295
  pub latest : task.latest ≤ 4294967295

pub record RowFits (row : Row) : Type 0 where
  pub place : row.place ≤ 255
  pub semaphore : row.semaphore ≤ 255
  pub longest : row.longest ≤ 4294967295

pub record TypedFits (counts : Counts) (typed : Typed) : Type 0 where
  pub version : typed.version ≤ 255
  pub tasks : counts.tasks ≤ 200
  pub rows : counts.sections ≤ 64
  pub task_count : length typed.tasks ≡ counts.tasks
  pub row_count : length typed.rows ≡ counts.sections
  pub each_task : (i : ℕ) → i < length typed.tasks → TaskFits (task_of typed.tasks i)
  pub each_row : (k : ℕ) → k < length typed.rows → RowFits (row_of typed.rows k)

-- behind any words and line ends: what the code keeps, and what is typed
abbrev pub kept_behind : List ℕ → List ℕ → List Event → Memory
kept_behind numbers places events = memory_after (memory state_begun no_fields numbers places) events

abbrev pub draft_behind : List Event → Draft
draft_behind events = draft_after draft_begun events

-- slices that are long enough, whatever they hold, but that no line of a version is kept
pub record Ready (numbers places : List ℕ) : Type 0 where
  pub numbers_long : length numbers ≡ 1393
  pub places_long : length places ≡ 265
  pub no_version : number_at places 0 ≡ 0

pub record TypedKept : Type 0 where
  pub same : (numbers places : List ℕ) (events : List Event) → Ready numbers places →
      (kept_behind numbers places events).state ≡ (draft_behind events).state
  pub holds : (numbers places : List ℕ) (events : List Event) → Ready numbers places →
      Holds (draft_behind events).typed (draft_behind events).state.counts (kept_behind numbers places events).numbers (kept_behind numbers places events).places
  pub fits : (events : List Event) → TypedFits (draft_behind events).state.counts (draft_behind events).typed
