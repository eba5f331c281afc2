-- The lower half of demand 3, for a task whose priority no other task has: where all is released together, its first job is finished at no
-- tick before some f with demand(i, f) ≤ f.
-- Assumes nothing.
use Prim.Native.Nat.{ℕ, zero, suc, ◌≤◌, ◌<◌}
use native.Mathlib.Nat.{le_trans, le_antisymm}
use native.Mathlib.Decide.{dec_le}
use native.Mathlib.Omega.{arith}
use mathlib.Core.Path.{◌≡◌, subst}
use mathlib.Core.List.{List}
use lib.ListN.{length}
use borrow.Author.Tests.{leb-true}
use Rattle.model.specs.Tables.{Task, task_of, priority_of, loads_of, Alone}
use Rattle.equation.specs.Demand.{demand}
use Rattle.runs.specs.Jobs.{Job, job_of, TasksFit, NoDelay}
use Rattle.runs.specs.Schedule.{serves, Schedule, served_before, Finished, Ready, LegalSchedule}
use Rattle.runs.specs.Synchronous.{synchronous, FirstJob}
use Rattle.runs.proofs.Windows.{of_places}
use Rattle.runs.proofs.Served.{served_grows, count_is}
use Rattle.runs.proofs.BusyWindow.{Quiet, worked_slow, quiet_asked}
use Rattle.runs.proofs.Loads.{as_urgent}
use Rattle.runs.proofs.Together.{synchronous_legal, only_first, asked_demand}

-- a finished job that needed something was served in some tick, and was finished after it
last_tick : (jobs : List Job) (s : Schedule) (j x : ℕ) → 1 ≤ (job_of jobs j).need → Finished jobs s j x →
    (t : ℕ) × (t < x) × (s t ≡ serves j) × Finished jobs s j (suc t)
unfolding served_before
last_tick jobs s j zero low done = absurd (omega arith)
last_tick jobs s j (suc x) low done =
    elim (dec_le (job_of jobs j).need (served_before s j x)) [
      | yes h ↦ let found = last_tick jobs s j x low h in (found.0, omega (arith, found.1), found.2, found.3)
      | no h ↦ (x, omega arith, count_is j (s x) (omega arith), done)
    ]

module _ (tasks : List Task) (fit : TasksFit tasks) (ticks : ℕ) (s : Schedule)
    (law : LegalSchedule tasks ticks (synchronous tasks ticks) s) (i j : ℕ) (is_task : i < length tasks)
    (alone : Alone tasks i) (first : FirstJob (synchronous tasks ticks) i j) where
  abbrev jobs : List Job
  jobs = synchronous tasks ticks

  -- where the first job of i is served, nothing more urgent is left; no other task is as urgent; and up to the end of its period there is
  -- no other job of i
  quiet_after : (t : ℕ) → t < ticks → t < (task_of tasks i).period → s t ≡ serves j → Finished jobs s j (suc t) →
      Quiet (of_places (as_urgent tasks i)) jobs s (suc t)
  quiet_after t h short e done k l p r =
      elim (dec_le (job_of jobs k).need (served_before s k t)) [
        | yes f ↦ le_trans f (served_grows s k t (suc t) (omega arith))
        | no f ↦
            let ready : Ready jobs s k t = record { is_job = l; released = omega arith; unfinished = f } in
            let high : priority_of tasks (job_of jobs k).place ≤ priority_of tasks i = rw first.is_own at (law.urgent t j k h e ready) in
            let low : priority_of tasks i ≤ priority_of tasks (job_of jobs k).place =
            leb-true (priority_of tasks i) (priority_of tasks (job_of jobs k).place) p in
            let own : (job_of jobs k).place ≡ i =
            alone (job_of jobs k).place ((synchronous_legal tasks fit ticks).fits k l).has_task (le_antisymm high low) in
            subst (λ (n : ℕ). Finished jobs s n (suc t)) (only_first tasks fit ticks i j k first l own (omega arith)) done
      ]

  -- so if the first job of i is finished at x, some f up to x is enough for all that is asked before it
  pub finished_demand : NoDelay tasks → (x : ℕ) → x ≤ ticks → x ≤ (task_of tasks i).period → Finished jobs s j x →
      (f : ℕ) × (1 ≤ f) × (f ≤ x) × (demand (task_of tasks i).cost (loads_of tasks i) f ≤ f)
  finished_demand calm x h short done =
      let fits = (synchronous_legal tasks fit ticks).fits j first.is_job in
      let last = last_tick jobs s j x (omega (arith, fits.need_low, fit.cost_low (job_of jobs j).place fits.has_task)) done in
      let f : ℕ = suc last.0 in
      let early : f ≤ x = last.1 in (
        f,
        omega arith,
        early,
        omega (
          arith,
          asked_demand tasks fit ticks f (omega arith) i is_task calm (omega arith),
          quiet_asked (of_places (as_urgent tasks i)) jobs s f (quiet_after last.0 (omega arith) (omega arith) last.2 last.3),
          worked_slow (of_places (as_urgent tasks i)) jobs s f,
        ),
      )
