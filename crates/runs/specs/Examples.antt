-- Small runs, drawn by hand: what a run is may be read off them, and nothing that they do may be forbidden (SPECIFICATION 7;
-- document 01, "A run", and document 02, L6).
-- Assumes nothing.
use Rattle.std.specs.Prelude.{ℕ, ◌≡◌, List, [], ◌∷◌}
use Rattle.model.specs.Lists.{tabulate}
use Rattle.model.specs.Tables.{Task}
use Rattle.runs.specs.Jobs.{Job, TasksFit, LegalJobs}
use Rattle.runs.specs.Schedule.{Service, idle, serves}
use Rattle.runs.specs.Scheduler.{schedule_of}

pub record Example : Type 0 where
  pub tasks : List Task
  pub jobs : List Job
  pub ticks : ℕ
  pub drawn : List Service

-- It is a run of tasks that fit, and what the computed schedule serves is what one draws. (No other schedule of it is legal.)
pub record IsDrawn (e : Example) : Type 0 where
  pub tasks_fit : TasksFit e.tasks
  pub legal_jobs : LegalJobs e.tasks e.ticks e.jobs
  pub computed : tabulate (schedule_of e.tasks e.jobs) e.ticks ≡ e.drawn

-- a task that is due at the end of its period
abbrev task : ℕ → ℕ → ℕ → Task
task priority period cost = record { priority = priority; period = period; cost = cost; deadline = period; earliest = 0; latest = 0 }

abbrev job : ℕ → ℕ → ℕ → Job
job place release need = record { place = place; release = release; need = need }

-- Two tasks, (T, C) = (4, 1) and (6, 3): a job of the second one is preempted by the first one's next job, and ticks stay idle.
abbrev pub preempted : Example
preempted =
    record {
      tasks = task 2 4 1 ∷ task 1 6 3 ∷ [];
      jobs = job 0 0 1 ∷ job 1 2 3 ∷ job 0 4 1 ∷ [];
      ticks = 8;
      drawn = serves 0 ∷ idle ∷ serves 1 ∷ serves 1 ∷ serves 2 ∷ serves 1 ∷ idle ∷ idle ∷ [];
    }

-- Three tasks, (4, 1), (6, 2) and (10, 3), all released at 0: document 01's fifth table (SPECIFICATION 12). The third one's job ends
-- with tick 9: its answer is 10.
abbrev pub three : Example
three =
    record {
      tasks = task 3 4 1 ∷ task 2 6 2 ∷ task 1 10 3 ∷ [];
      jobs = job 2 0 3 ∷ job 0 0 1 ∷ job 0 4 1 ∷ job 0 8 1 ∷ job 1 0 2 ∷ job 1 6 2 ∷ [];
      ticks = 11;
      drawn =
          serves 1 ∷ serves 4 ∷ serves 4 ∷ serves 0 ∷ serves 2 ∷ serves 0 ∷ serves 5 ∷ serves 5 ∷ serves 3 ∷ serves 0 ∷ idle ∷ [];
    }

-- Two tasks, (6, 3) and (6, 4), the second one late: its jobs queue, and the older one goes first though it stands later in the
-- list.
abbrev pub queued : Example
queued =
    record {
      tasks = task 2 6 3 ∷ task 1 6 4 ∷ [];
      jobs = job 0 0 3 ∷ job 1 6 4 ∷ job 1 0 4 ∷ job 0 6 3 ∷ [];
      ticks = 15;
      drawn =
          serves 0 ∷ serves 0 ∷ serves 0 ∷ serves 2 ∷ serves 2 ∷ serves 2 ∷ serves 3 ∷ serves 3 ∷ serves 3 ∷ serves 2 ∷ serves 1 ∷ serves 1 ∷ serves 1 ∷ serves 1 ∷ idle ∷ [];
    }

-- What a run is free to do, in three tasks (4, 2), (6, 3) and (10, 4). Needs are below the cost: job 1 needs 1 of 2, and job 2, which
-- job 1 preempts, 2 of 3. Gaps are above the period and no multiple of it: 5 between the first task's releases, at 2 and 7, and 7
-- between the second one's, at 1 and 8. No task is released at 0, the third one never. The list has no order. Job 0 is released near
-- the end, and unfinished at N.
abbrev pub sporadic : Example
sporadic =
    record {
      tasks = task 3 4 2 ∷ task 2 6 3 ∷ task 1 10 4 ∷ [];
      jobs = job 1 8 3 ∷ job 0 2 1 ∷ job 1 1 2 ∷ job 0 7 2 ∷ [];
      ticks = 10;
      drawn = idle ∷ serves 2 ∷ serves 1 ∷ serves 2 ∷ idle ∷ idle ∷ idle ∷ serves 3 ∷ serves 3 ∷ serves 0 ∷ [];
    }

-- Three tasks, (8, 1) above (8, 3) and (8, 2) of one priority. Job 0 is older than job 1 and goes on before it, though its place is the
-- higher one, and though job 2, which is more urgent, comes between. Jobs 3 and 4 are released together: job 4 goes first, of the lower
-- place, though it stands later in the list.
abbrev pub tied : Example
tied =
    record {
      tasks = task 2 8 1 ∷ task 1 8 3 ∷ task 1 8 2 ∷ [];
      jobs = job 2 0 2 ∷ job 1 1 3 ∷ job 0 1 1 ∷ job 2 10 1 ∷ job 1 10 2 ∷ [];
      ticks = 14;
      drawn =
          serves 0 ∷ serves 2 ∷ serves 0 ∷ serves 1 ∷ serves 1 ∷ serves 1 ∷ idle ∷ idle ∷ idle ∷ idle ∷ serves 4 ∷ serves 4 ∷ serves 3 ∷ idle ∷ [];
    }

-- A run may have no job, and no tick.
abbrev pub empty : Example
empty = record { tasks = task 1 1 1 ∷ []; jobs = []; ticks = 0; drawn = [] }

abbrev pub examples : List Example
examples = preempted ∷ three ∷ queued ∷ sporadic ∷ tied ∷ empty ∷ []

abbrev pub AllDrawn : List Example → Type 0
AllDrawn [] = Unit {0}
AllDrawn (e ∷ es) = IsDrawn e × AllDrawn es

abbrev pub ExamplesDrawn : Type 0
ExamplesDrawn = AllDrawn examples
