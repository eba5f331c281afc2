-- That the engine does what a run of document 01 does, at every tick (SPECIFICATION 9; document 02, L1 and L9), over any list of tasks
-- whose priorities strictly fall: "L1's engine refuses ties with 9" (L6).
-- Assumes nothing.
use Rattle.std.specs.Prelude.{ℕ, ◌≤◌, ◌<◌, ◌≡◌, List, ltb, length}
use Rattle.model.specs.Choice.{both, on}
use Rattle.model.specs.Lists.{word_of}
use Rattle.model.specs.Tables.{Task, task_of, Falling}
use Rattle.machine.specs.Machine.{State, after, bit_at, place_served, played, ticks_played}
use Rattle.runs.specs.Jobs.{job_of, TasksFit, NoDelay}
use Rattle.runs.specs.Schedule.{Schedule, serves, idle, Finished, LegalSchedule}
use Rattle.runs.specs.Statement.{response_of}
use Rattle.runs.specs.Synchronous.{synchronous, work_left, FirstJob}

abbrev pub periods_of : List Task → ℕ → ℕ
periods_of tasks p = (task_of tasks p).period

abbrev pub costs_of : List Task → ℕ → ℕ
costs_of tasks p = (task_of tasks p).cost

abbrev pub deadlines_of : List Task → ℕ → ℕ
deadlines_of tasks p = (task_of tasks p).deadline

-- what the engine holds after t ticks
abbrev pub engine_after : List Task → ℕ → State
engine_after tasks t = after (periods_of tasks) (costs_of tasks) (length tasks) t

-- the place that it serves in tick t
abbrev pub engine_serves : List Task → ℕ → ℕ
engine_serves tasks t = place_served (periods_of tasks) (costs_of tasks) (length tasks) t

-- how many ticks it plays where at most `limit` are played
abbrev pub engine_ticks : List Task → ℕ → ℕ
engine_ticks tasks limit = ticks_played (periods_of tasks) (costs_of tasks) (length tasks) limit

-- its answer for the task at place i
abbrev pub engine_answer : List Task → ℕ → ℕ
engine_answer tasks i = played (periods_of tasks) (costs_of tasks) (length tasks) (deadlines_of tasks) i

-- The engine after t ticks beside the run of so many ticks in which all is released together, and its schedule s.
pub record AsInRun (tasks : List Task) (ticks : ℕ) (s : Schedule) (t : ℕ) : Type 0 where
  -- the work left at each place is what the released jobs of its task still need
  pub work : (p : ℕ) → p < length tasks → (engine_after tasks t).left p ≡ work_left (synchronous tasks ticks) s t p
  -- "L1's ready word becomes four 64-bit words.", "holds one bit for each task": it is set where the task has work, and no other bit is
  pub ready : (p : ℕ) →
      bit_at (engine_after tasks t).ready p ≡ on (both (ltb p (length tasks)) (ltb 0 ((engine_after tasks t).left p))) 1
  -- tick t serves the place of the job that the schedule serves
  pub served : (j : ℕ) → t < ticks → s t ≡ serves j → engine_serves tasks t ≡ (job_of (synchronous tasks ticks) j).place
  -- and 256, which is no task's place, where the schedule serves nothing
  pub none : t < ticks → s t ≡ idle → engine_serves tasks t ≡ 256

-- "It is proved to do what a run of document 01 does at every tick": for any number of ticks, and the legal schedule. (It is a run:
-- `SynchronousIsRun`. It has such a schedule, and no other: `ScheduleExists`, `OnlySchedule`.)
abbrev pub EveryTick : Type 0
EveryTick =
    (tasks : List Task) → TasksFit tasks → Falling tasks → length tasks ≤ 200 →
    (ticks : ℕ) (s : Schedule) → LegalSchedule tasks ticks (synchronous tasks ticks) s → (t : ℕ) → t ≤ ticks → AsInRun tasks ticks s t

-- What two slices hold beside that run after t ticks: the work left at each place, and a bit for each task that has some.
pub record HeldAsInRun (tasks : List Task) (ticks : ℕ) (s : Schedule) (t : ℕ) (left ready : List ℕ) : Type 0 where
  pub work : (p : ℕ) → p < length tasks → word_of left p ≡ work_left (synchronous tasks ticks) s t p
  pub bits : (p : ℕ) →
      bit_at (word_of ready) p ≡ on (both (ltb p (length tasks)) (ltb 0 (work_left (synchronous tasks ticks) s t p))) 1

-- A play of at most t ticks plays t, for each t up to the number of ticks of any longer play: so a contract that speaks of where a play
-- stops, whatever its limit is, speaks of every tick.
abbrev pub EveryLimit : Type 0
EveryLimit =
    (period cost : ℕ → ℕ) (n limit t : ℕ) → t ≤ ticks_played period cost n limit → ticks_played period cost n t ≡ t

-- Up to the deadline no work is left at a place exactly where its first job is finished.
pub record IsFinished (tasks : List Task) (ticks : ℕ) (s : Schedule) (i j x : ℕ) : Type 0 where
  pub finished : (engine_after tasks x).left i ≡ 0 → Finished (synchronous tasks ticks) s j x
  pub no_work : Finished (synchronous tasks ticks) s j x → (engine_after tasks x).left i ≡ 0

-- "tick by tick up to the deadline of the task asked about, and reports when its first job is done"
abbrev pub FirstJobDone : Type 0
FirstJobDone =
    (tasks : List Task) → TasksFit tasks → Falling tasks → length tasks ≤ 200 →
    (ticks : ℕ) (s : Schedule) → LegalSchedule tasks ticks (synchronous tasks ticks) s →
    (i j : ℕ) → i < length tasks → FirstJob (synchronous tasks ticks) i j →
    (x : ℕ) → 1 ≤ x → x ≤ (task_of tasks i).deadline → x ≤ ticks → IsFinished tasks ticks s i j x

-- "and to give the equation's answers"
abbrev pub PlayedIsAnswer : Type 0
PlayedIsAnswer =
    (tasks : List Task) → TasksFit tasks → Falling tasks → NoDelay tasks → length tasks ≤ 200 →
    (i : ℕ) → i < length tasks → engine_answer tasks i ≡ response_of tasks i
