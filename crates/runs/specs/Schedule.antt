-- What the ticks of a run serve (SPECIFICATION 7.2; document 01, "A run", and document 02, L6): laws, and no program.
-- Assumes nothing.
use Rattle.std.specs.Prelude.{ℕ, zero, suc, ◌+◌, ◌≤◌, ◌<◌, ◌≡◌, List, eqb, length}
use Rattle.model.specs.Choice.{pick}
use Rattle.model.specs.Tables.{Task}
use Rattle.runs.specs.Jobs.{Job, job_of, task_for, LegalJobs}

-- What a tick serves: nothing, or the job of a number.
pub data Service : Type 0 where
  idle : Service
  serves : ℕ → Service

-- what each tick serves
abbrev pub Schedule : Type 0
Schedule = ℕ → Service

-- what one tick gives job j: 1 if the tick serves it, else 0
abbrev pub count_for : ℕ → Service → ℕ
count_for j idle = 0
count_for j (serves k) = pick (eqb j k) 1 0

-- how many of the ticks before x serve job j
unfoldable pub served_before : Schedule → ℕ → ℕ → ℕ
served_before s j zero = 0
served_before s j (suc x) = served_before s j x + count_for j (s x)

-- "It is finished at tick x if its whole need was served in ticks before x."
abbrev pub Finished : List Job → Schedule → ℕ → ℕ → Type 0
Finished jobs s j x = (job_of jobs j).need ≤ served_before s j x

-- "one unfinished, already released job"; "A job may be served in its release tick."
pub record Ready (jobs : List Job) (s : Schedule) (j t : ℕ) : Type 0 where
  pub is_job : j < length jobs
  pub released : (job_of jobs j).release ≤ t
  pub unfinished : ¬ Finished jobs s j t

-- "In each tick the processor serves one unfinished, already released job, if there is one: the most urgent task that has any, and
-- of that task the oldest." And where tasks share a priority: "In a run, equal jobs go oldest release first, then lower place."
pub record LegalSchedule (tasks : List Task) (ticks : ℕ) (jobs : List Job) (s : Schedule) : Type 0 where
  -- what a tick serves is ready
  pub ready : (t j : ℕ) → t < ticks → s t ≡ serves j → Ready jobs s j t
  -- "if there is one"
  pub busy : (t k : ℕ) → t < ticks → Ready jobs s k t → (j : ℕ) × (s t ≡ serves j)
  -- "the most urgent task that has any": no ready job is of a task with a larger priority number
  pub urgent : (t j k : ℕ) → t < ticks → s t ≡ serves j → Ready jobs s k t →
      (task_for tasks jobs k).priority ≤ (task_for tasks jobs j).priority
  -- "equal jobs go oldest release first": no ready job of equal priority was released before. The jobs of one task are equal too: "and of
  -- that task the oldest"
  pub oldest : (t j k : ℕ) → t < ticks → s t ≡ serves j → Ready jobs s k t →
      (task_for tasks jobs k).priority ≡ (task_for tasks jobs j).priority → (job_of jobs j).release ≤ (job_of jobs k).release
  -- "then lower place": no ready job of equal priority and equal release is of a place before
  pub lower_place : (t j k : ℕ) → t < ticks → s t ≡ serves j → Ready jobs s k t →
      (task_for tasks jobs k).priority ≡ (task_for tasks jobs j).priority → (job_of jobs k).release ≡ (job_of jobs j).release →
      (job_of jobs j).place ≤ (job_of jobs k).place

-- A run of the tasks: its ticks, its jobs, and what each tick serves.
pub record Run (tasks : List Task) : Type 0 where
  pub ticks : ℕ
  pub jobs : List Job
  pub schedule : Schedule
  pub legal_jobs : LegalJobs tasks ticks jobs
  pub legal_schedule : LegalSchedule tasks ticks jobs schedule
