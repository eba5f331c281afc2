-- The upper half of demand 3: a job is finished w ticks after its release, for any w of 1 to T with demand(i, w) ≤ w. Nothing is asked of
-- the priorities, nor of the deadlines.
-- Assumes nothing.
use Prim.Native.Nat.{ℕ, ◌+◌, ◌≤◌, ◌<◌}
use native.Mathlib.Nat.{one-mul, mul-one, le_trans}
use native.Mathlib.Omega.{arith}
use mathlib.Core.Path.{◌≡◌}
use mathlib.Core.List.{List}
use lib.ListN.{length}
use borrow.Author.Tests.{leb-true, le-leb}
use Rattle.model.specs.Tables.{Task, task_of, priority_of, interferes, loads_of}
use Rattle.model.proofs.Tests.{on_high}
use Rattle.equation.specs.Rounding.{ceil_div}
use Rattle.equation.specs.Demand.{demand}
use Rattle.equation.proofs.Laws.{rounding_up}
use Rattle.runs.specs.Jobs.{Job, job_of, task_for, NoDelay, LegalJobs}
use Rattle.runs.specs.Schedule.{Schedule, Finished, LegalSchedule}
use Rattle.runs.proofs.Sums.{total_mono_on, total_apart}
use Rattle.runs.proofs.Windows.{released, released_places, need_of, is_of, of_places}
use Rattle.runs.proofs.Counting.{asks}
use Rattle.runs.proofs.BusyWindow.{Favours, finished_within}
use Rattle.runs.proofs.Loads.{share_of, as_urgent, demand_is}

-- the jobs of the tasks that are at least as urgent as some task are a set with all that goes before them
favours_urgent : (tasks : List Task) (ticks : ℕ) (jobs : List Job) (s : Schedule) → LegalSchedule tasks ticks jobs s → (i : ℕ) →
    Favours (of_places (as_urgent tasks i)) ticks jobs s
favours_urgent tasks ticks jobs s law i =
    record {
      ready = law.ready;
      closed = λ t k h r p. let found = law.busy t k h r in (
        found.0,
        found.1,
        le-leb (priority_of tasks i) (task_for tasks jobs found.0).priority
            (le_trans (leb-true (priority_of tasks i) (task_for tasks jobs k).priority p) (law.urgent t found.0 k h found.1 r)),
      );
    }

module _ (tasks : List Task) (period_low : (p : ℕ) → p < length tasks → 1 ≤ (task_of tasks p).period) (ticks : ℕ) (jobs : List Job)
    (legal : LegalJobs tasks ticks jobs) (calm : NoDelay tasks) (i : ℕ) (is_task : i < length tasks) where
  -- in w ≤ T ticks the tasks that are at least as urgent as i ask for at most demand(i, w): i once, and the others as often as periods begin
  asked_most : (a w : ℕ) → w ≤ (task_of tasks i).period →
      released (of_places (as_urgent tasks i)) need_of jobs a (a + w) ≤ demand (task_of tasks i).cost (loads_of tasks i) w
  asked_most a w short =
      let asks_for : ℕ → ℕ = λ p. released (is_of p) need_of jobs a (a + w) in
      rw (demand_is tasks calm (task_of tasks i).cost i w)
      (omega (
        arith,
        released_places (as_urgent tasks i) need_of a (a + w) (length tasks) jobs (λ j l. (legal.fits j l).has_task),
        total_apart (as_urgent tasks i) asks_for i (length tasks) is_task,
        on_high (as_urgent tasks i i) (asks_for i),
        rw mul-one at (asks tasks ticks jobs legal i a w 1 (rw one-mul short)),
        total_mono_on (interferes (priority_of tasks) i) asks_for (share_of tasks w) (length tasks)
            (λ p l. asks tasks ticks jobs legal p a w (ceil_div w (task_of tasks p).period)
            (rounding_up.enough w (task_of tasks p).period (period_low p l))),
      ))

  pub finished_in_time : (s : Schedule) → LegalSchedule tasks ticks jobs s → (j w : ℕ) → j < length jobs → (job_of jobs j).place ≡ i →
      1 ≤ w → w ≤ (task_of tasks i).period → demand (task_of tasks i).cost (loads_of tasks i) w ≤ w →
      (job_of jobs j).release + w ≤ ticks → Finished jobs s j ((job_of jobs j).release + w)
  finished_in_time s law j w l own low short enough h =
      finished_within (of_places (as_urgent tasks i)) jobs s ticks (favours_urgent tasks ticks jobs s law i) j w l
      (rw own (le-leb (priority_of tasks i) (priority_of tasks i) (omega arith))) low h
      (λ a m. le_trans (asked_most a w short) enough)
