-- What a task, a section row and a table are, as records of numbers (SPECIFICATION 1 and 2; document 01, "The table's bytes"), and which
-- tasks interfere with a task.
-- Assumes nothing.
use Rattle.std.specs.Prelude.{ℕ, suc, ◌-◌, ◌<◌, ◌≡◌, Bool, not, List, map, eqb, leb, ltb, length, get_or}
use Rattle.model.specs.Choice.{both}
use Rattle.model.specs.Lists.{gather, keep}

-- "priority (1 byte), period T, cost C, deadline D", and the two delays: "earliest and latest delay in place of J" (SPECIFICATION 2.3;
-- document 02, L4). "A larger priority number is more urgent."
pub record Task : Type 0 where
  pub priority : ℕ
  pub period : ℕ
  pub cost : ℕ
  pub deadline : ℕ
  pub earliest : ℕ
  pub latest : ℕ

-- "task place (1), semaphore (1), longest section (4)"
pub record Row : Type 0 where
  pub place : ℕ
  pub semaphore : ℕ
  pub longest : ℕ

pub record Table : Type 0 where
  pub tasks : List Task
  pub rows : List Row

-- a task that asks for nothing: what stands at a place past the end
abbrev pub no_task : Task
no_task = record { priority = 0; period = 1; cost = 0; deadline = 1; earliest = 0; latest = 0 }

-- the task at a place
abbrev pub task_of : List Task → ℕ → Task
task_of tasks i = get_or tasks i no_task

-- "The first slice gets the answer, 0 for late and 4,294,967,295 for open" (SPECIFICATION 13.8; document 02, L8)
abbrev pub open_word : ℕ
open_word = 4294967295

-- What a task asks of those that it interferes with: its cost, once for each period begun in w + spread ticks.
pub record Load : Type 0 where
  pub period : ℕ
  pub cost : ℕ
  pub spread : ℕ

-- "latest minus earliest delay inside the interference" (SPECIFICATION 4.2; document 02, L4)
abbrev pub spread_of : Task → ℕ
spread_of t = t.latest - t.earliest

abbrev pub load_of : Task → Load
load_of t = record { period = t.period; cost = t.cost; spread = spread_of t }

-- the priority of the task at a place, and what the task asks of the others
abbrev pub priority_of : List Task → ℕ → ℕ
priority_of tasks k = (task_of tasks k).priority

abbrev pub load_from : List Task → ℕ → Load
load_from tasks k = load_of (task_of tasks k)

-- is place k another one than place i?
abbrev pub is_other : ℕ → ℕ → Bool
is_other i k = not (eqb k i)

-- "Every other task of equal or greater priority interferes" (SPECIFICATION 4.2; document 02, L6): does the task at place k interfere with
-- the one at place i? The priorities are given by their places.
abbrev pub interferes : (ℕ → ℕ) → ℕ → ℕ → Bool
interferes priority i k = both (is_other i k) (leb (priority i) (priority k))

-- the loads of the task at place i: those of every task that interferes with it, on both sides of it in the table
abbrev pub loads_of : List Task → ℕ → List Load
loads_of tasks i = gather (interferes (priority_of tasks) i) (load_from tasks) (length tasks)

-- a task whose priority no other task has
abbrev pub Alone : List Task → ℕ → Type 0
Alone tasks i = (k : ℕ) → k < length tasks → priority_of tasks k ≡ priority_of tasks i → k ≡ i

-- "strictly fall from each record to the next" (document 01): no priority is repeated
abbrev pub Falling : List Task → Type 0
Falling tasks = (i : ℕ) → suc i < length tasks → priority_of tasks (suc i) < priority_of tasks i

-- document 01's loads, "over every more urgent j": is a task more urgent than priority p?
abbrev pub more_urgent : ℕ → Task → Bool
more_urgent p t = ltb p t.priority

abbrev pub more_urgent_loads : List Task → ℕ → List Load
more_urgent_loads tasks i = map load_of (keep (more_urgent (priority_of tasks i)) tasks)
