-- Tasks that fit, and the jobs of a run (SPECIFICATION 7.1; document 01, "The table's bytes" and "A run").
-- Assumes nothing.
use Rattle.std.specs.Prelude.{ℕ, ◌+◌, ◌≤◌, ◌<◌, ◌≡◌, ◌≢◌, List, length, get_or}
use Rattle.model.specs.Tables.{Task, task_of}

-- What an accepted table says of its tasks: "T and C are 1 to 1,000,000. D is 1 to T." The largest numbers play no part in a run, and no
-- more does the order in which the priorities stand.
pub record TasksFit (tasks : List Task) : Type 0 where
  pub period_low : (i : ℕ) → i < length tasks → 1 ≤ (task_of tasks i).period
  pub cost_low : (i : ℕ) → i < length tasks → 1 ≤ (task_of tasks i).cost
  pub deadline_low : (i : ℕ) → i < length tasks → 1 ≤ (task_of tasks i).deadline
  pub deadline_high : (i : ℕ) → i < length tasks → (task_of tasks i).deadline ≤ (task_of tasks i).period

-- A run knows no delay: its releases are when the jobs can be served. Where the latest delay is 0, the earliest, which is at most that,
-- is 0 too.
abbrev pub NoDelay : List Task → Type 0
NoDelay tasks = (i : ℕ) → i < length tasks → (task_of tasks i).latest ≡ 0

-- "Each job has a task, a release tick, and a need": the task is named by its place.
pub record Job : Type 0 where
  pub place : ℕ
  pub release : ℕ
  pub need : ℕ

-- a job that needs nothing: what stands past the end of a list of jobs
abbrev pub no_job : Job
no_job = record { place = 0; release = 0; need = 0 }

-- the job of a number: jobs are numbered from 0 in their list
abbrev pub job_of : List Job → ℕ → Job
job_of jobs j = get_or jobs j no_job

-- the task of a job
abbrev pub task_for : List Task → List Job → ℕ → Task
task_for tasks jobs j = task_of tasks (job_of jobs j).place

-- "Each job has a task, a release tick, and a need of 1 to C ticks." (SPECIFICATION 7.1; document 01, "A run")
pub record JobFits (tasks : List Task) (ticks : ℕ) (job : Job) : Type 0 where
  -- "a task,"
  pub has_task : job.place < length tasks
  -- "a release tick,"
  pub in_run : job.release < ticks
  -- "and a need of 1 to C ticks."
  pub need_low : 1 ≤ job.need
  pub need_high : job.need ≤ (task_of tasks job.place).cost

-- "Two releases of one task are at least T apart.": of two jobs the one that is not released later comes T before the other. Nothing
-- else is asked of the distance.
abbrev pub JobsApart : List Task → Job → Job → Type 0
JobsApart tasks a b = a.place ≡ b.place → a.release ≤ b.release → a.release + (task_of tasks a.place).period ≤ b.release

-- "A run is a finite number N of ticks, 0 to N − 1, and a finite set of jobs."
pub record LegalJobs (tasks : List Task) (ticks : ℕ) (jobs : List Job) : Type 0 where
  pub fits : (j : ℕ) → j < length jobs → JobFits tasks ticks (job_of jobs j)
  pub apart : (a b : ℕ) → a < length jobs → b < length jobs → a ≢ b → JobsApart tasks (job_of jobs a) (job_of jobs b)
