-- The computed schedule is legal, for any tasks and any jobs.
-- Assumes nothing.
use Prim.Native.Nat.{ℕ, zero, suc, ◌≤◌, ◌<◌}
use native.Mathlib.Nat.{not-suc-le-zero, lt-suc_self}
use native.Mathlib.Decide.{ℕ_discrete}
use native.Mathlib.Omega.{arith}
use mathlib.Core.Path.{◌≡◌, refl, subst, ◌∙◌}
use mathlib.Core.Logic.{◌⊎◌, inl, inr}
use mathlib.Core.Bool.{true, false}
use mathlib.Core.List.{List}
use lib.ListN.{length}
use borrow.Author.Tests.{le-leb, lt-ltb}
use Rattle.model.specs.Lists.{sum_of}
use Rattle.model.specs.Tables.{Task}
use Rattle.model.proofs.Tests.{bool?, ltb?, leb?, eqb?, clash}
use Rattle.runs.specs.Jobs.{Job, job_of, task_for}
use Rattle.runs.specs.Schedule.{Service, idle, serves, Schedule, count_for, served_before, Ready, LegalSchedule}
use Rattle.runs.specs.Scheduler.{is_ready, goes_before, better, choose, past, schedule_of}
use Rattle.runs.specs.Statement.{ScheduleExists}

-- job k does not go before job j
record NotBefore (tasks : List Task) (jobs : List Job) (k j : ℕ) : Type 0 where
  urgent : (task_for tasks jobs k).priority ≤ (task_for tasks jobs j).priority
  oldest : (task_for tasks jobs k).priority ≡ (task_for tasks jobs j).priority → (job_of jobs j).release ≤ (job_of jobs k).release
  lower_place : (task_for tasks jobs k).priority ≡ (task_for tasks jobs j).priority → (job_of jobs k).release ≡ (job_of jobs j).release →
      (job_of jobs j).place ≤ (job_of jobs k).place

module _ (tasks : List Task) (jobs : List Job) where
  -- no job goes before itself
  not_itself : (j : ℕ) → NotBefore tasks jobs j j
  not_itself j = record { urgent = omega arith; oldest = λ e. omega arith; lower_place = λ e f. omega arith }

  -- the test says which of two goes before the other; what does not go before the later one does not go before the earlier one
  before? : (a b : ℕ) →
      ((goes_before tasks jobs a b ≡ true) × ((k : ℕ) → NotBefore tasks jobs k b → NotBefore tasks jobs k a))
      ⊎ ((goes_before tasks jobs a b ≡ false) × NotBefore tasks jobs a b)
  before? a b =
      elim (ltb? (task_for tasks jobs b).priority (task_for tasks jobs a).priority) [
        | inl u ↦
            inl (
              rw u.0 refl,
              λ k n. record { urgent = omega arith; oldest = λ e. absurd (omega arith); lower_place = λ e f. absurd (omega arith) },
            )
        | inr u ↦ elim (eqb? (task_for tasks jobs a).priority (task_for tasks jobs b).priority) [
          | inr v ↦ inr (rw (u.0, v.0) refl, record { urgent = u.1; oldest = λ e. absurd (v.1 e); lower_place = λ e f. absurd (v.1 e) })
          | inl v ↦ elim (ltb? (job_of jobs a).release (job_of jobs b).release) [
            | inl w ↦
                inl (
                  rw (u.0, v.0, w.0) refl,
                  λ k n.
                      record {
                        urgent = omega arith;
                        oldest = λ e. omega (arith, n.oldest (e ∙ v.1));
                        lower_place = λ e f. absurd (omega (arith, n.oldest (e ∙ v.1)));
                      },
                )
            | inr w ↦ elim (eqb? (job_of jobs a).release (job_of jobs b).release) [
              | inr x ↦
                  inr (rw (u.0, v.0, w.0, x.0) refl, record { urgent = u.1; oldest = λ e. w.1; lower_place = λ e f. absurd (x.1 f) })
              | inl x ↦ elim (ltb? (job_of jobs a).place (job_of jobs b).place) [
                | inl y ↦
                    inl (
                      rw (u.0, v.0, w.0, x.0, y.0) refl,
                      λ k n.
                          record {
                            urgent = omega arith;
                            oldest = λ e. omega (arith, n.oldest (e ∙ v.1));
                            lower_place = λ e f. omega (arith, n.lower_place (e ∙ v.1) (f ∙ x.1));
                          },
                    )
                | inr y ↦
                    inr (rw (u.0, v.0, w.0, x.0, y.0) refl, record { urgent = u.1; oldest = λ e. w.1; lower_place = λ e f. y.1 })
              ]
            ]
          ]
        ]
      ]

  module _ (before : List Service) (t : ℕ) where
    -- job j is ready, and no ready job of the first n goes before it
    record First (n j : ℕ) : Type 0 where
      is_job : j < n
      ready : is_ready jobs before t j ≡ true
      first : (k : ℕ) → k < n → is_ready jobs before t k ≡ true → NotBefore tasks jobs k j

    -- what is chosen of the first n: such a job, or nothing where none is ready
    abbrev Best : ℕ → Service → Type 0
    Best n idle = (k : ℕ) → k < n → is_ready jobs before t k ≡ true → ⊥
    Best n (serves j) = First n j

    -- the next job is passed over
    skip : (n : ℕ) → is_ready jobs before t n ≡ false → (v : Service) → Best n v → Best (suc n) v
    skip n p idle b =
        λ k l r. elim (ℕ_discrete k n) [ yes e ↦ clash (is_ready jobs before t n) (rw e at r) p | no e ↦ b k (omega arith) r ]
    skip n p (serves j) b =
        record {
          is_job = omega (arith, b.is_job);
          ready = b.ready;
          first = λ k l r. elim (ℕ_discrete k n) [
            | yes e ↦ absurd (clash (is_ready jobs before t n) (rw e at r) p)
            | no e ↦ b.first k (omega arith) r
          ];
        }

    -- the next job is ready: it is taken if it goes before what was found
    weigh : (n : ℕ) → is_ready jobs before t n ≡ true → (v : Service) → Best n v → Best (suc n) (better tasks jobs n v)
    weigh n p idle b =
        record {
          is_job = lt-suc_self n;
          ready = p;
          first = λ k l r. elim (ℕ_discrete k n) [
            | yes e ↦ rw e (not_itself n)
            | no e ↦ absurd (b k (omega arith) r)
          ];
        }
    weigh n p (serves j) b =
        elim (before? n j) [
          | inl u ↦ rw u.0 (record {
            is_job = lt-suc_self n;
            ready = p;
            first = λ k l r. elim (ℕ_discrete k n) [
              | yes e ↦ rw e (not_itself n)
              | no e ↦ u.1 k (b.first k (omega arith) r)
            ];
          })
          | inr u ↦ rw u.0 (record {
            is_job = omega (arith, b.is_job);
            ready = b.ready;
            first = λ k l r. elim (ℕ_discrete k n) [ yes e ↦ rw e u.1 | no e ↦ b.first k (omega arith) r ];
          })
        ]

    chosen : (n : ℕ) → Best n (choose tasks jobs before t n)
    unfolding choose
    chosen zero = λ k l r. not-suc-le-zero l
    chosen (suc n) =
        elim (bool? (is_ready jobs before t n)) [
          | inl p ↦ rw p (weigh n p (choose tasks jobs before t n) (chosen n))
          | inr p ↦ rw p (skip n p (choose tasks jobs before t n) (chosen n))
        ]

  abbrev s : Schedule
  s = schedule_of tasks jobs

  served_past : (j t : ℕ) → served_before s j t ≡ sum_of (count_for j) (past tasks jobs t)
  unfolding served_before past sum_of
  served_past j zero = refl
  served_past j (suc t) = omega (arith, served_past j t)

  ready_test : (j t : ℕ) → Ready jobs s j t → is_ready jobs (past tasks jobs t) t j ≡ true
  ready_test j t r =
      rw (
        le-leb (job_of jobs j).release t r.released,
        lt-ltb (sum_of (count_for j) (past tasks jobs t)) (job_of jobs j).need (omega (arith, served_past j t)),
      ) refl

  test_ready : (j t : ℕ) → j < length jobs → is_ready jobs (past tasks jobs t) t j ≡ true → Ready jobs s j t
  test_ready j t l p =
      elim (leb? (job_of jobs j).release t) [
        | inr u ↦ absurd (clash false (rw u.0 at p) refl)
        | inl u ↦ elim (ltb? (sum_of (count_for j) (past tasks jobs t)) (job_of jobs j).need) [
          | inr v ↦ absurd (clash false (rw (u.0, v.0) at p) refl)
          | inl v ↦ record { is_job = l; released = u.1; unfinished = omega (arith, served_past j t) }
        ]
      ]

  serving : (t j : ℕ) → s t ≡ serves j → First (past tasks jobs t) t (length jobs) j
  serving t j e = subst (Best (past tasks jobs t) t (length jobs)) e (chosen (past tasks jobs t) t (length jobs))

  busy : (t k : ℕ) → Ready jobs s k t → (v : Service) → s t ≡ v → (j : ℕ) × (s t ≡ serves j)
  busy t k r idle e =
      absurd (subst (Best (past tasks jobs t) t (length jobs)) e (chosen (past tasks jobs t) t (length jobs)) k r.is_job (ready_test k t r))
  busy t k r (serves j) e = (j, e)

  legal : (ticks : ℕ) → LegalSchedule tasks ticks jobs s
  legal ticks =
      record {
        ready = λ t j h e. let f = serving t j e in test_ready j t f.is_job f.ready;
        busy = λ t k h r. busy t k r (s t) refl;
        urgent = λ t j k h e r. ((serving t j e).first k r.is_job (ready_test k t r)).urgent;
        oldest = λ t j k h e r. ((serving t j e).first k r.is_job (ready_test k t r)).oldest;
        lower_place = λ t j k h e r. ((serving t j e).first k r.is_job (ready_test k t r)).lower_place;
      }

pub schedule_exists : ScheduleExists
schedule_exists tasks ticks jobs = legal tasks jobs ticks
