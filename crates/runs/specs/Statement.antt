-- Demand 3 over any list of tasks (SPECIFICATION 8.3; document 01, "A run", and document 02, L6), and that it speaks of something. Proofs
-- are in proofs/.
-- Assumes nothing.
use Rattle.std.specs.Prelude.{ℕ, ◌+◌, ◌-◌, ◌≤◌, ◌<◌, ◌≡◌, List, length}
use Rattle.model.specs.Tables.{Task, task_of, loads_of, Alone}
use Rattle.equation.specs.Demand.{demand}
use Rattle.equation.specs.Answer.{answer}
use Rattle.runs.specs.Jobs.{Job, job_of, TasksFit, NoDelay, LegalJobs}
use Rattle.runs.specs.Schedule.{Schedule, Finished, LegalSchedule, Run}
use Rattle.runs.specs.Scheduler.{schedule_of}

-- A job of a run that belongs to the task at place i.
pub record OwnJob (tasks : List Task) (i : ℕ) (run : Run tasks) : Type 0 where
  pub number : ℕ
  pub is_job : number < length run.jobs
  pub is_own : (job_of run.jobs number).place ≡ i

-- the tick it is released at
abbrev pub release_of : {tasks : List Task} {i : ℕ} {run : Run tasks} → OwnJob tasks i run → ℕ
release_of {run = run} job = (job_of run.jobs job.number).release

-- is it finished at tick x?
abbrev pub FinishedAt : {tasks : List Task} {i : ℕ} {run : Run tasks} → OwnJob tasks i run → ℕ → Type 0
FinishedAt {run = run} job x = Finished run.jobs run.schedule job.number x

-- What R says of the task at place i, if R is its answer. The first half: "no job exceeds R".
-- "For answer R above 0: every job released at r with r + R ≤ N is finished at r + R;"
abbrev pub NoneExceeds : List Task → ℕ → ℕ → Type 0
NoneExceeds tasks i R =
    1 ≤ R → (run : Run tasks) (job : OwnJob tasks i run) → release_of job + R ≤ run.ticks → FinishedAt job (release_of job + R)

-- Both halves.
pub record Answers (tasks : List Task) (i R : ℕ) : Type 0 where
  pub upper : NoneExceeds tasks i R
  -- "and some run with r + R ≤ N has such a job unfinished at r + R − 1."
  pub needs_all : 1 ≤ R → (run : Run tasks) × (job : OwnJob tasks i run) × (release_of job + R ≤ run.ticks) ×
      (¬ FinishedAt job (release_of job + R - 1))
  -- "For answer 0: some run has a job with r + D ≤ N unfinished at r + D."
  pub missed : R ≡ 0 → (run : Run tasks) × (job : OwnJob tasks i run) × (release_of job + (task_of tasks i).deadline ≤ run.ticks) ×
      (¬ FinishedAt job (release_of job + (task_of tasks i).deadline))

-- the answer of the equation for the task at place i, with no blocking and no delay
abbrev pub response_of : List Task → ℕ → ℕ
response_of tasks i = answer (task_of tasks i).cost (loads_of tasks i) 0 (task_of tasks i).deadline

-- The answers of the equation are right about every run. (Of the words that a call leaves, `Demand3` in crates/response says so.)
-- "More urgent tasks may themselves be late; the statement still holds.": nothing is asked of the other tasks' answers.
pub record EquationRight : Type 0 where
  -- "For tables with ties demand 3 keeps only its first half": it holds for every task, whoever shares its priority
  pub first_half : (tasks : List Task) → TasksFit tasks → NoDelay tasks → (i : ℕ) → i < length tasks →
      NoneExceeds tasks i (response_of tasks i)
  -- both hold for every task whose priority no other task has, whatever ties there are among the others
  pub both_halves : (tasks : List Task) → TasksFit tasks → NoDelay tasks → (i : ℕ) → i < length tasks → Alone tasks i →
      Answers tasks i (response_of tasks i)

-- It says so of no other number up to the deadline: a generous one fails "some run", a small one fails "every job".
abbrev pub OnlyAnswer : Type 0
OnlyAnswer =
    (tasks : List Task) (i R other : ℕ) → R ≤ (task_of tasks i).deadline → other ≤ (task_of tasks i).deadline →
    Answers tasks i R → Answers tasks i other → R ≡ other

-- The first half asks for demand(w) ≤ w alone: no job exceeds any w up to the period that is so, the answer or a later one, whoever shares
-- the task's priority.
abbrev pub EnoughInRuns : Type 0
EnoughInRuns =
    (tasks : List Task) → TasksFit tasks → NoDelay tasks → (i : ℕ) → i < length tasks → (w : ℕ) → w ≤ (task_of tasks i).period →
    demand (task_of tasks i).cost (loads_of tasks i) w ≤ w → NoneExceeds tasks i w

-- For any tasks and any jobs there is a legal schedule: the computed one.
abbrev pub ScheduleExists : Type 0
ScheduleExists = (tasks : List Task) (ticks : ℕ) (jobs : List Job) → LegalSchedule tasks ticks jobs (schedule_of tasks jobs)

-- The laws leave no choice: two legal schedules of the same jobs serve the same in every tick of the run.
abbrev pub OnlySchedule : Type 0
OnlySchedule =
    (tasks : List Task) → TasksFit tasks → (ticks : ℕ) (jobs : List Job) → LegalJobs tasks ticks jobs →
    (s other : Schedule) → LegalSchedule tasks ticks jobs s → LegalSchedule tasks ticks jobs other →
    (t : ℕ) → t < ticks → s t ≡ other t
