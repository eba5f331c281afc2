-- The small runs, computed: what makes them runs are facts about numbers that the checker works out, number by number.
-- Assumes nothing.
use Prim.Native.Nat.{ℕ, zero, suc, ◌≤◌, ◌<◌}
use native.Mathlib.Nat.{not-suc-le-zero}
use native.Mathlib.Decide.{ℕ_discrete}
use native.Mathlib.Omega.{arith}
use mathlib.Core.Path.{◌≡◌, refl}
use mathlib.Core.Logic.{◌≢◌}
use mathlib.Core.List.{List}
use lib.ListN.{length}
use borrow.Author.Rules.{rules}
use Rattle.model.specs.Lists.{sum_of, tabulate}
use Rattle.model.specs.Tables.{Task, task_of}
use Rattle.runs.specs.Jobs.{job_of, JobFits, JobsApart}
use Rattle.runs.specs.Scheduler.{choose, past, schedule_of}
use Rattle.runs.specs.Examples.{Example, IsDrawn, preempted, three, queued, sporadic, tied, empty, ExamplesDrawn}

-- what holds of each number below n, one number after the other
abbrev Each : (ℕ → Type 0) → ℕ → Type 0
Each holds zero = Unit {0}
Each holds (suc n) = Each holds n × holds n

each : (holds : ℕ → Type 0) (n : ℕ) → Each holds n → (k : ℕ) → k < n → holds k
each holds zero all k l = absurd (not-suc-le-zero l)
each holds (suc n) all k l =
    elim (ℕ_discrete k n) [ yes e ↦ rw e all.1 | no d ↦ each holds n all.0 k (omega arith) ]

-- of the task at place i
record TaskFits (tasks : List Task) (i : ℕ) : Type 0 where
  cost_low : 1 ≤ (task_of tasks i).cost
  deadline_low : 1 ≤ (task_of tasks i).deadline
  deadline_high : (task_of tasks i).deadline ≤ (task_of tasks i).period

-- of job j
abbrev Fits : Example → ℕ → Type 0
Fits e j = JobFits e.tasks e.ticks (job_of e.jobs j)

-- and of job a beside each other one
abbrev Apart : Example → ℕ → ℕ → Type 0
Apart e a b = a ≢ b → JobsApart e.tasks (job_of e.jobs a) (job_of e.jobs b)

abbrev ApartFrom : Example → ℕ → Type 0
ApartFrom e a = Each (Apart e a) (length e.jobs)

is_drawn : (e : Example) → Each (TaskFits e.tasks) (length e.tasks) → Each (Fits e) (length e.jobs) →
    Each (ApartFrom e) (length e.jobs) → tabulate (schedule_of e.tasks e.jobs) e.ticks ≡ e.drawn → IsDrawn e
is_drawn e tasks jobs pairs computed =
    record {
      tasks_fit =
          record {
            period_low = λ i l. omega (arith, task i l);
            cost_low = λ i l. omega (arith, task i l);
            deadline_low = λ i l. omega (arith, task i l);
            deadline_high = λ i l. omega (arith, task i l);
          };
      legal_jobs =
          record {
            fits = each (Fits e) (length e.jobs) jobs;
            apart = λ a b l m. each (Apart e a) (length e.jobs) (each (ApartFrom e) (length e.jobs) pairs a l) b m;
          };
      computed = computed;
    }
  where
    task : (i : ℕ) → i < length e.tasks → TaskFits e.tasks i
    task = each (TaskFits e.tasks) (length e.tasks) tasks

pub examples_drawn : ExamplesDrawn
unfolding sum_of tabulate choose past
examples_drawn = (
  is_drawn preempted (search rules) (search rules) (search rules) refl,
  (
    is_drawn three (search rules) (search rules) (search rules) refl,
    (
      is_drawn queued (search rules) (search rules) (search rules) refl,
      (
        is_drawn sporadic (search rules) (search rules) (search rules) refl,
        (
          is_drawn tied (search rules) (search rules) (search rules) refl,
          (is_drawn empty (search rules) (search rules) (search rules) refl, tt),
        ),
      ),
    ),
  ),
)
