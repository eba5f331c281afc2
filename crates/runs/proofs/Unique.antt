-- Two legal schedules of the same legal jobs serve the same: of two jobs that could both be served one goes before the other.
-- Assumes nothing.
use Prim.Native.Nat.{ℕ, zero, suc, ◌≤◌, ◌<◌}
use native.Mathlib.Nat.{not-suc-le-zero, le_antisymm}
use native.Mathlib.Decide.{ℕ_discrete}
use native.Mathlib.Omega.{arith}
use mathlib.Core.Path.{◌≡◌, refl, sym, ap}
use mathlib.Core.List.{List}
use lib.ListN.{length}
use Rattle.model.specs.Tables.{Task}
use Rattle.runs.specs.Jobs.{Job, job_of, task_for, TasksFit, LegalJobs}
use Rattle.runs.specs.Schedule.{Service, idle, serves, Schedule, count_for, served_before, Ready, LegalSchedule}
use Rattle.runs.specs.Statement.{OnlySchedule}

-- schedules that agree before t have served the same before t
served_same : (s other : Schedule) (j t : ℕ) → ((u : ℕ) → u < t → s u ≡ other u) → served_before s j t ≡ served_before other j t
unfolding served_before
served_same s other j zero h = refl
served_same s other j (suc t) h =
    omega (arith, served_same s other j t (λ u l. h u (omega arith)), ap (count_for j) (h t (omega arith)))

module _ (tasks : List Task) (fit : TasksFit tasks) (ticks : ℕ) (jobs : List Job) (legal : LegalJobs tasks ticks jobs) where
  -- so what is ready is the same
  ready_same : (s other : Schedule) (t : ℕ) → ((u : ℕ) → u < t → s u ≡ other u) → (j : ℕ) → Ready jobs s j t → Ready jobs other j t
  ready_same s other t same j r =
      record { is_job = r.is_job; released = r.released; unfinished = omega (arith, served_same s other j t same) }

  -- two jobs of one place and one release are one
  tie : (j k : ℕ) → j < length jobs → k < length jobs → (job_of jobs j).place ≡ (job_of jobs k).place →
      (job_of jobs j).release ≡ (job_of jobs k).release → j ≡ k
  tie j k l m place release =
      elim (ℕ_discrete j k) [
        | yes e ↦ e
        | no d ↦
            absurd (omega (arith, legal.apart j k l m d place (omega arith), fit.period_low (job_of jobs j).place (legal.fits j l).has_task))
      ]

  module _ (s other : Schedule) (law : LegalSchedule tasks ticks jobs s) (rule : LegalSchedule tasks ticks jobs other) where
    -- where two legal schedules agree before t, they agree at t
    agree_at : (t : ℕ) → t < ticks → ((u : ℕ) → u < t → s u ≡ other u) → (v w : Service) → s t ≡ v → other t ≡ w → v ≡ w
    agree_at t h same idle idle e f = refl
    agree_at t h same idle (serves k) e f =
        let found = law.busy t k h (ready_same other s t (λ u l. sym (same u l)) k (rule.ready t k h f)) in
        let z : ◌≡◌ {A = ℕ} 0 1 = cc found.1 in
        absurd (omega arith)
    agree_at t h same (serves j) idle e f =
        let found = rule.busy t j h (ready_same s other t same j (law.ready t j h e)) in
        let z : ◌≡◌ {A = ℕ} 0 1 = cc found.1 in
        absurd (omega arith)
    agree_at t h same (serves j) (serves k) e f =
        let one : Ready jobs s j t = law.ready t j h e in
        let two : Ready jobs other k t = rule.ready t k h f in
        let there : Ready jobs other j t = ready_same s other t same j one in
        let here : Ready jobs s k t = ready_same other s t (λ u l. sym (same u l)) k two in
        let priority : (task_for tasks jobs j).priority ≡ (task_for tasks jobs k).priority =
        le_antisymm (rule.urgent t k j h f there) (law.urgent t j k h e here) in
        let release : (job_of jobs j).release ≡ (job_of jobs k).release =
        le_antisymm (law.oldest t j k h e here (sym priority)) (rule.oldest t k j h f there priority) in
        let place : (job_of jobs j).place ≡ (job_of jobs k).place =
        le_antisymm (law.lower_place t j k h e here (sym priority) (sym release)) (rule.lower_place t k j h f there priority release) in
        ap serves (tie j k one.is_job two.is_job place release)

    agree_before : (t : ℕ) → t ≤ ticks → (u : ℕ) → u < t → s u ≡ other u
    agree_before zero h u l = absurd (not-suc-le-zero l)
    agree_before (suc t) h u l =
        let same : (v : ℕ) → v < t → s v ≡ other v = agree_before t (omega arith) in
        elim (ℕ_discrete u t) [
          | yes e ↦ rw e (agree_at t h same (s t) (other t) refl refl)
          | no d ↦ same u (omega arith)
        ]

pub only_schedule : OnlySchedule
only_schedule tasks fit ticks jobs legal s other law rule t h =
    agree_before tasks fit ticks jobs legal s other law rule (suc t) h t (omega arith)
