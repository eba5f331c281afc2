-- A schedule that can be computed, tick by tick, from what the ticks before have served. Demand 3 is not stated by it: it shows
-- that legal schedules exist, and draws the examples.
-- Assumes nothing.
use Rattle.std.specs.Prelude.{ℕ, zero, suc, Bool, List, [], ◌∷◌, leb, ltb, eqb, length}
use Rattle.model.specs.Choice.{pick, both, either}
use Rattle.model.specs.Lists.{sum_of}
use Rattle.model.specs.Tables.{Task}
use Rattle.runs.specs.Jobs.{Job, job_of, task_for}
use Rattle.runs.specs.Schedule.{Service, idle, serves, Schedule, count_for}

-- is job j released by tick t, and unfinished after these ticks?
abbrev pub is_ready : List Job → List Service → ℕ → ℕ → Bool
is_ready jobs past t j = both (leb (job_of jobs j).release t) (ltb (sum_of (count_for j) past) (job_of jobs j).need)

-- of two equal jobs, does a go before b: older, or as old and of a lower place?
abbrev pub first_of_equals : List Job → ℕ → ℕ → Bool
first_of_equals jobs a b =
    either (ltb (job_of jobs a).release (job_of jobs b).release)
    (both (eqb (job_of jobs a).release (job_of jobs b).release) (ltb (job_of jobs a).place (job_of jobs b).place))

-- does job a go before job b: more urgent, or as urgent and the first of equals?
abbrev pub goes_before : List Task → List Job → ℕ → ℕ → Bool
goes_before tasks jobs a b =
    either (ltb (task_for tasks jobs b).priority (task_for tasks jobs a).priority)
    (both (eqb (task_for tasks jobs a).priority (task_for tasks jobs b).priority) (first_of_equals jobs a b))

-- what was found so far, or job a where nothing was found or a goes before it
abbrev pub better : List Task → List Job → ℕ → Service → Service
better tasks jobs a idle = serves a
better tasks jobs a (serves b) = pick (goes_before tasks jobs a b) (serves a) (serves b)

-- of the first n jobs the ready one that goes before the others
unfoldable pub choose : List Task → List Job → List Service → ℕ → ℕ → Service
choose tasks jobs past t zero = idle
choose tasks jobs past t (suc n) =
    let found = choose tasks jobs past t n in
    pick (is_ready jobs past t n) (better tasks jobs n found) found

-- what the ticks before t have served, the last of them first
unfoldable pub past : List Task → List Job → ℕ → List Service
past tasks jobs zero = []
past tasks jobs (suc t) =
    let before = past tasks jobs t in
    choose tasks jobs before t (length jobs) ∷ before

-- in each tick the ready job that goes before the others
abbrev pub schedule_of : List Task → List Job → Schedule
schedule_of tasks jobs t = choose tasks jobs (past tasks jobs t) t (length jobs)
