-- Two tasks of one priority, each of period 2 and cost 1: in any run a job of the lower place is finished one tick after its release, though
-- the answer is 2. So the second half of demand 3 fails where a priority is repeated.
-- Assumes nothing.
use Prim.Native.Nat.{ℕ, zero, suc, ◌+◌, ◌-◌, ◌≤◌, ◌<◌}
use native.Mathlib.Nat.{le_trans}
use native.Mathlib.Numerals.{add-one}
use native.Mathlib.Decide.{dec_le, ℕ_discrete}
use native.Mathlib.Omega.{arith}
use mathlib.Core.Path.{◌≡◌, refl, sym, ◌∙◌, ap}
use mathlib.Core.Logic.{◌≢◌}
use mathlib.Core.List.{List}
use lib.ListN.{length}
use Rattle.model.specs.Lists.{tabulate, gather, sum_of}
use Rattle.model.specs.Search.{first_from}
use Rattle.model.specs.Tables.{Task, task_of, loads_of}
use Rattle.equation.specs.Demand.{demand}
use Rattle.runs.specs.Jobs.{Job, job_of, task_for, TasksFit, NoDelay}
use Rattle.runs.specs.Schedule.{Schedule, serves, count_for, served_before, Finished, Ready, Run}
use Rattle.runs.specs.Statement.{OwnJob, release_of, FinishedAt}
use Rattle.runs.specs.Ties.{twins, SecondHalfFails}
use Rattle.runs.proofs.Served.{served_grows, count_own}
use Rattle.runs.proofs.Upper.{finished_in_time}

-- what both tasks have in common
record IsTwin (t : Task) : Type 0 where
  same_priority : t.priority ≡ 1
  period : t.period ≡ 2
  cost : t.cost ≡ 1
  latest : t.latest ≡ 0

module _ (deadline : ℕ) where
  is_twin : (p : ℕ) → p < 2 → IsTwin (task_of (twins deadline) p)
  is_twin zero l = record { same_priority = refl; period = refl; cost = refl; latest = refl }
  is_twin (suc zero) l = record { same_priority = refl; period = refl; cost = refl; latest = refl }
  is_twin (suc (suc p)) l = absurd (omega arith)

  twins_calm : NoDelay (twins deadline)
  twins_calm p l = (is_twin p l).latest

  -- in 2 ticks either of them and the other one ask for 2
  both_ask : (p : ℕ) → p < 2 → demand (task_of (twins deadline) p).cost (loads_of (twins deadline) p) 2 ≡ 2
  unfolding demand gather sum_of
  both_ask zero l = refl
  both_ask (suc zero) l = refl
  both_ask (suc (suc p)) l = absurd (omega arith)

  twins_fit : 1 ≤ deadline → deadline ≤ 2 → TasksFit (twins deadline)
  twins_fit low high =
      record {
        period_low = λ p l. omega (arith, (is_twin p l).period);
        cost_low = λ p l. omega (arith, (is_twin p l).cost);
        deadline_low = λ p l. (due p l).0;
        deadline_high = λ p l. omega (arith, (due p l).1, (is_twin p l).period);
      }
    where
      due : (p : ℕ) → p < 2 → (1 ≤ (task_of (twins deadline) p).deadline) × ((task_of (twins deadline) p).deadline ≤ 2)
      due zero l = (low, high)
      due (suc zero) l = omega arith
      due (suc (suc p)) l = absurd (omega arith)

  module _ (run : Run (twins deadline)) where
    abbrev jobs : List Job
    jobs = run.jobs

    abbrev s : Schedule
    s = run.schedule

    abbrev release : ℕ → ℕ
    release j = (job_of jobs j).release

    abbrev place : ℕ → ℕ
    place j = (job_of jobs j).place

    -- two jobs of one task are 2 apart
    apart : (a b : ℕ) → a < length jobs → b < length jobs → a ≢ b → place a ≡ place b → release a ≤ release b → release a + 2 ≤ release b
    apart a b l m differ same before =
        omega (
          arith,
          run.legal_jobs.apart a b l m differ same before,
          (is_twin (place a) (run.legal_jobs.fits a l).has_task).period,
        )

    -- a job of either task is finished 2 ticks after its release
    in_two : (j : ℕ) → j < length jobs → release j + 2 ≤ run.ticks → Finished jobs s j (release j + 2)
    in_two j l h =
        let is_task : place j < 2 = (run.legal_jobs.fits j l).has_task in
        finished_in_time (twins deadline) (λ p m. omega (arith, (is_twin p m).period)) run.ticks jobs run.legal_jobs twins_calm
        (place j) is_task s run.legal_schedule j 2 l refl (omega arith) (omega (arith, (is_twin (place j) is_task).period))
        (omega (arith, both_ask (place j) is_task)) h

    -- a job needs 1 tick, so the one that a tick serves is finished after it
    served_done : (t j : ℕ) → t < run.ticks → s t ≡ serves j → Finished jobs s j (suc t)
    unfolding served_before
    served_done t j h e =
        let l : j < length jobs = (run.legal_schedule.ready t j h e).is_job in
        let fits = run.legal_jobs.fits j l in
        omega (
          arith,
          fits.need_high,
          (is_twin (place j) fits.has_task).cost,
          ap (count_for j) e,
          count_own j,
        )

    -- all jobs are of one priority
    equal : (a b : ℕ) → a < length jobs → b < length jobs →
        (task_for (twins deadline) jobs a).priority ≡ (task_for (twins deadline) jobs b).priority
    equal a b l m =
        (is_twin (place a) (run.legal_jobs.fits a l).has_task).same_priority
        ∙ sym (is_twin (place b) (run.legal_jobs.fits b m).has_task).same_priority

    -- a tick in which a job is unfinished serves one that is as old or older
    serves_old : (t j : ℕ) → t < run.ticks → Ready jobs s j t → (k : ℕ) × (s t ≡ serves k) × Ready jobs s k t × (release k ≤ release j)
    serves_old t j h r =
        let found = run.legal_schedule.busy t j h r in
        let ready : Ready jobs s found.0 t = run.legal_schedule.ready t found.0 h found.1 in (
          found.0,
          found.1,
          ready,
          run.legal_schedule.oldest t found.0 j h found.1 r (equal j found.0 r.is_job ready.is_job),
        )

    -- A job of place 0, where all older ones of this place were finished after one tick.
    module _ (j : ℕ) (is_job : j < length jobs) (own : place j ≡ 0) (in_run : release j < run.ticks)
        (earlier : (k : ℕ) → k < length jobs → place k ≡ 0 → release k < release j → Finished jobs s k (release k + 1)) where
      -- when a job of place 1 is released one tick before it, all older ones are finished
      older_done : (k m : ℕ) → k < length jobs → m < length jobs → place k ≢ 0 → release k + 1 ≡ release j → m ≢ k → release m ≤ release k →
          Finished jobs s m (release k)
      older_done k m l u other near differ before =
          elim (ℕ_discrete (place m) 0) [
            | yes e ↦
                let late : release m + 2 ≤ release j = apart m j u is_job (λ same. omega (arith, ap release same)) (e ∙ sym own) (omega arith) in
                le_trans (earlier m u e (omega arith)) (served_grows s m (release m + 1) (release k) (omega arith))
            | no d ↦
                let same : place m ≡ place k =
                omega (arith, (run.legal_jobs.fits m u).has_task, (run.legal_jobs.fits k l).has_task) in
                let late : release m + 2 ≤ release k = apart m k u l differ same before in
                le_trans (in_two m u (omega arith)) (served_grows s m (release m + 2) (release k) late)
          ]

      -- so that tick serves it
      last_done : (k : ℕ) → k < length jobs → place k ≢ 0 → release k + 1 ≡ release j → Finished jobs s k (release k + 1)
      last_done k l other near =
          elim (dec_le (job_of jobs k).need (served_before s k (release k))) [
            | yes f ↦ le_trans f (served_grows s k (release k) (release k + 1) (omega arith))
            | no f ↦
                let found = serves_old (release k) k (omega arith) (record { is_job = l; released = omega arith; unfinished = f }) in
                elim (ℕ_discrete found.0 k) [
                  | yes e ↦ rw add-one (served_done (release k) k (omega arith) (found.1 ∙ ap serves e))
                  | no d ↦ absurd (found.2.unfinished (older_done k found.0 l found.2.is_job other near d found.3))
                ]
          ]

      -- at its release no older job of either task is left
      none_older : (k : ℕ) → k < length jobs → release k < release j → Finished jobs s k (release j)
      none_older k l before =
          elim (ℕ_discrete (place k) 0) [
            | yes e ↦ le_trans (earlier k l e before) (served_grows s k (release k + 1) (release j) (omega arith))
            | no d ↦ elim (ℕ_discrete (release k + 1) (release j)) [
              | yes near ↦ le_trans (last_done k l d near) (served_grows s k (release k + 1) (release j) (omega arith))
              | no far ↦ le_trans (in_two k l (omega arith)) (served_grows s k (release k + 2) (release j) (omega arith))
            ]
          ]

      -- so its release tick serves it, before the other task's job of the same release
      one_more : Finished jobs s j (release j + 1)
      one_more =
          elim (dec_le (job_of jobs j).need (served_before s j (release j))) [
            | yes f ↦ le_trans f (served_grows s j (release j) (release j + 1) (omega arith))
            | no f ↦
                let ready : Ready jobs s j (release j) = record { is_job = is_job; released = omega arith; unfinished = f } in
                let found = serves_old (release j) j in_run ready in
                let k : ℕ = found.0 in
                let here : k < length jobs = found.2.is_job in
                elim (ℕ_discrete (release k) (release j)) [
                  | no d ↦ absurd (found.2.unfinished (none_older k here (omega (arith, found.3))))
                  | yes e ↦
                      let first : place k ≤ place j =
                      run.legal_schedule.lower_place (release j) k j in_run found.1 ready (equal j k is_job here) (sym e) in
                      elim (ℕ_discrete k j) [
                        | yes same ↦ rw add-one (served_done (release j) j in_run (found.1 ∙ ap serves same))
                        | no d ↦ absurd (omega (arith, apart k j here is_job d (omega arith) (omega arith)))
                      ]
                ]
          ]

    -- so every job of place 0 is finished after one tick, the older ones first
    in_one_law : (n j : ℕ) → j < length jobs → place j ≡ 0 → release j < n → release j < run.ticks → Finished jobs s j (release j + 1)
    in_one_law zero j l own low h = absurd (omega arith)
    in_one_law (suc n) j l own low h =
        one_more j l own h (λ k m e before. in_one_law n k m e (omega arith) (omega arith))

in_its_tick : (deadline : ℕ) (run : Run (twins deadline)) (job : OwnJob (twins deadline) 0 run) → release_of job + 1 ≤ run.ticks →
    FinishedAt job (release_of job + 1)
in_its_tick deadline run job h =
    in_one_law deadline run (suc (release_of job)) job.number job.is_job job.is_own (omega arith) (omega arith)

pub second_half_fails : SecondHalfFails
unfolding tabulate gather sum_of first_from demand
second_half_fails =
    record {
      in_one = in_its_tick;
      answers = refl;
      not_all = (
        twins_fit 2 (omega arith) (omega arith),
        twins_calm 2,
        λ all. let late = all.needs_all (omega arith) in
            let job = late.1 in
            late.3 (le_trans (in_its_tick 2 late.0 job (omega (arith, late.2)))
            (served_grows late.0.schedule job.number (release_of job + 1) (release_of job + 2 - 1) (omega arith))),
      );
      none = refl;
      not_shown = (
        twins_fit 1 (omega arith) (omega arith),
        twins_calm 1,
        λ all. let late = all.missed refl in late.3 (in_its_tick 1 late.0 late.1 late.2),
      );
    }
