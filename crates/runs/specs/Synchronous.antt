-- The run in which all tasks are released together (SPECIFICATION 7.3; document 02, L1): its jobs, what each task has left at a tick, and
-- that no run is worse for a task whose priority no other task has.
-- Assumes nothing.
use Rattle.std.specs.Prelude.{ℕ, zero, suc, ◌*◌, ◌-◌, ◌≤◌, ◌<◌, ◌≡◌, List, [], ◌++◌, eqb, ltb, length}
use Rattle.model.specs.Choice.{both, on}
use Rattle.model.specs.Lists.{tabulate, total}
use Rattle.model.specs.Tables.{Task, task_of, Alone}
use Rattle.equation.specs.Rounding.{ceil_div}
use Rattle.runs.specs.Jobs.{Job, job_of, TasksFit, NoDelay, LegalJobs}
use Rattle.runs.specs.Schedule.{Schedule, served_before, Finished, LegalSchedule}
use Rattle.runs.specs.Statement.{response_of}

-- the job of place p that is released after k periods, at full cost
abbrev pub job_at : List Task → ℕ → ℕ → Job
job_at tasks p k = record { place = p; release = k * (task_of tasks p).period; need = (task_of tasks p).cost }

-- those of them that are released in the run: as many as periods begin in it
abbrev pub jobs_at : List Task → ℕ → ℕ → List Job
jobs_at tasks ticks p = tabulate (job_at tasks p) (ceil_div ticks (task_of tasks p).period)

-- those of the places before m
unfoldable pub jobs_before : List Task → ℕ → ℕ → List Job
jobs_before tasks ticks zero = []
jobs_before tasks ticks (suc m) = jobs_before tasks ticks m ++ jobs_at tasks ticks m

-- "releases all tasks at tick 0 and then every T, runs each at full cost"
abbrev pub synchronous : List Task → ℕ → List Job
synchronous tasks ticks = jobs_before tasks ticks (length tasks)

-- what job j still needs after the ticks before t, if it is of place p and was released in one of them; else 0
abbrev pub still_needed : List Job → Schedule → ℕ → ℕ → ℕ → ℕ
still_needed jobs s t p j =
    on (both (eqb (job_of jobs j).place p) (ltb (job_of jobs j).release t)) ((job_of jobs j).need - served_before s j t)

-- what all jobs of place p still need after the ticks before t
abbrev pub work_left : List Job → Schedule → ℕ → ℕ → ℕ
work_left jobs s t p = total (still_needed jobs s t p) (length jobs)

-- Job j is the one that place i releases at tick 0.
pub record FirstJob (jobs : List Job) (i j : ℕ) : Type 0 where
  pub is_job : j < length jobs
  pub is_own : (job_of jobs j).place ≡ i
  pub at_once : (job_of jobs j).release ≡ 0

-- These are the jobs of a run of document 01, for any number of ticks, and each task has a first job in it.
pub record IsRun (tasks : List Task) (ticks : ℕ) : Type 0 where
  pub legal_jobs : LegalJobs tasks ticks (synchronous tasks ticks)
  pub first_job : 1 ≤ ticks → (i : ℕ) → i < length tasks → (j : ℕ) × FirstJob (synchronous tasks ticks) i j

abbrev pub SynchronousIsRun : Type 0
SynchronousIsRun = (tasks : List Task) → TasksFit tasks → (ticks : ℕ) → IsRun tasks ticks

-- What the answer of place i says of its first job j in this run: it is finished at tick x exactly if the answer is not 0 and at
-- most x.
pub record WorstRun (tasks : List Task) (ticks : ℕ) (s : Schedule) (i j x : ℕ) : Type 0 where
  pub in_time : 1 ≤ response_of tasks i → response_of tasks i ≤ x → Finished (synchronous tasks ticks) s j x
  pub not_before : Finished (synchronous tasks ticks) s j x → (1 ≤ response_of tasks i) × (response_of tasks i ≤ x)

-- It says so for each task whose priority no other task has, and each x up to its deadline. By demand 3 no job in any run takes longer
-- than the answer: this is the worst run.
abbrev pub SynchronousIsWorst : Type 0
SynchronousIsWorst =
    (tasks : List Task) → TasksFit tasks → NoDelay tasks → (ticks : ℕ) (s : Schedule) →
    LegalSchedule tasks ticks (synchronous tasks ticks) s → (i j : ℕ) → i < length tasks → Alone tasks i →
    FirstJob (synchronous tasks ticks) i j →
    (x : ℕ) → x ≤ ticks → x ≤ (task_of tasks i).deadline → WorstRun tasks ticks s i j x
