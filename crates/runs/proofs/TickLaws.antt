-- What one tick does in the run in which all is released together: what each place has left, and what the tick serves.
-- Assumes nothing.
use Prim.Native.Nat.{ℕ, suc, ◌+◌, ◌*◌, ◌-◌, ◌≤◌, ◌<◌}
use native.Mathlib.Nat.{mul-add}
use native.Mathlib.Omega.{arith}
use mathlib.Core.Path.{◌≡◌, refl, sym, ◌∙◌, ap, subst}
use mathlib.Core.Logic.{inl, inr}
use mathlib.Core.Bool.{Bool, true}
use mathlib.Core.List.{List}
use lib.Dec.{leb, eqb}
use lib.ListN.{length}
use borrow.Author.Tests.{eqb-true, eq-eqb, ne_eqb, le-leb}
use Rattle.model.specs.Choice.{on}
use Rattle.model.specs.Lists.{total}
use Rattle.model.specs.Tables.{Task, task_of, Falling}
use Rattle.model.proofs.Tests.{bool?, ltb?}
use Rattle.model.proofs.Loads.{not_later}
use Rattle.equation.specs.Rounding.{ceil_div}
use Rattle.equation.proofs.Laws.{rounding_up}
use Rattle.runs.specs.Jobs.{Job, job_of, TasksFit}
use Rattle.runs.specs.Schedule.{Service, idle, serves, Schedule, Finished, Ready, LegalSchedule}
use Rattle.runs.specs.Synchronous.{synchronous, still_needed, work_left, FirstJob}
use Rattle.model.proofs.Totals.{total_same, total_add}
use Rattle.runs.proofs.Windows.{within, need_of, is_of}
use Rattle.runs.proofs.Served.{ServesReady, served_most, served_none}
use Rattle.runs.proofs.BusyWindow.{Quiet, asked, worked, worked_on, added, added_idle, added_serves, worked_next, quiet_asked, quiet_next, asked_quiet}
use Rattle.runs.proofs.Loads.{share_of}
use Rattle.runs.proofs.Together.{synchronous_legal, only_first, asked_place}

-- what place p releases in tick t: its cost if a period begins, else 0
abbrev pub fresh : List Task → ℕ → ℕ → ℕ
fresh tasks t p = (task_of tasks p).cost * (ceil_div (suc t) (task_of tasks p).period - ceil_div t (task_of tasks p).period)

-- what a tick that serves so gives place p: 1 if it serves a job of p, else 0
abbrev pub served_place : List Job → Service → ℕ → ℕ
served_place jobs idle p = 0
served_place jobs (serves j) p = on (is_of p (job_of jobs j)) 1

-- what a place asks for by the end of a tick is what it asked for before, and what is fresh
share_next : (tasks : List Task) (t p : ℕ) → share_of tasks (suc t) p ≡ share_of tasks t p + fresh tasks t p
share_next tasks t p =
    let before : ℕ = ceil_div t (task_of tasks p).period in
    let after : ℕ = ceil_div (suc t) (task_of tasks p).period in
    let grows : before ≤ after = rounding_up.monotone t (suc t) (task_of tasks p).period (omega arith) in
    let parts : after ≡ before + (after - before) = omega arith in
    ap (λ (n : ℕ). (task_of tasks p).cost * n) parts ∙ mul-add (task_of tasks p).cost before (after - before)

-- in any run, for the jobs of one place
module _ (ticks : ℕ) (jobs : List Job) (s : Schedule) (ready : ServesReady ticks jobs s) (t p : ℕ) (in_run : t ≤ ticks) where
  -- a job that has asked for its need was served a part of it, and still needs the rest
  needed_rest : (j : ℕ) → still_needed jobs s t p j + worked_on (is_of p) jobs s t j ≡ within (is_of p) need_of 0 t (job_of jobs j)
  unfolding within
  needed_rest j =
      let late : leb 0 (job_of jobs j).release ≡ true = le-leb 0 (job_of jobs j).release (omega arith) in
      elim (bool? (eqb (job_of jobs j).place p)) [
        | inr n ↦ rw n refl
        | inl y ↦ elim (ltb? (job_of jobs j).release t) [
          | inl u ↦ rw (y, late, u.0) (omega (arith, served_most ticks jobs s ready j t in_run))
          | inr u ↦ rw (y, late, u.0) (omega (arith, served_none ticks jobs s ready j t in_run u.1))
        ]
      ]

  -- so what the place has left and what it was served are what it has asked for
  left_worked : work_left jobs s t p + worked (is_of p) jobs s t ≡ asked (is_of p) jobs t
  left_worked =
      sym (total_add (still_needed jobs s t p) (worked_on (is_of p) jobs s t) (length jobs))
      ∙ total_same (λ j. still_needed jobs s t p j + worked_on (is_of p) jobs s t j) (λ j. within (is_of p) need_of 0 t (job_of jobs j)) (length jobs)
      (λ j l. needed_rest j)

  -- nothing is left exactly if no job of the place that was released before is unfinished
  quiet_none : Quiet (is_of p) jobs s t → work_left jobs s t p ≡ 0
  quiet_none q = omega (arith, left_worked, quiet_asked (is_of p) jobs s t q)

  none_quiet : work_left jobs s t p ≡ 0 → Quiet (is_of p) jobs s t
  none_quiet none = asked_quiet (is_of p) jobs s ticks ready t in_run (omega (arith, left_worked))

module _ (tasks : List Task) (fit : TasksFit tasks) (ticks : ℕ) (s : Schedule)
    (law : LegalSchedule tasks ticks (synchronous tasks ticks) s) where
  abbrev jobs : List Job
  jobs = synchronous tasks ticks

  -- before the first tick nothing is left
  pub work_none : (p : ℕ) → work_left (synchronous tasks ticks) s 0 p ≡ 0
  work_none p = quiet_none ticks jobs s law.ready 0 p (omega arith) (λ j l y r. absurd (omega arith))

  -- what a tick adds for a place is what it serves of it
  added_place : (t p : ℕ) → t < ticks → (v : Service) → s t ≡ v → total (added (is_of p) jobs v) (length jobs) ≡ served_place jobs v p
  added_place t p h idle e = added_idle (is_of p) jobs
  added_place t p h (serves j) e = added_serves (is_of p) jobs j (law.ready t j h e).is_job

  -- a tick adds what is fresh, and takes what it serves
  pub work_next : (t p : ℕ) → t < ticks → p < length tasks →
      work_left (synchronous tasks ticks) s (suc t) p + served_place (synchronous tasks ticks) (s t) p
      ≡ work_left (synchronous tasks ticks) s t p + fresh tasks t p
  work_next t p h is_task =
      omega (
        arith,
        left_worked ticks jobs s law.ready t p (omega arith),
        left_worked ticks jobs s law.ready (suc t) p h,
        worked_next (is_of p) jobs s t,
        added_place t p h (s t) refl,
        asked_place tasks fit ticks t (omega arith) p is_task,
        asked_place tasks fit ticks (suc t) h p is_task,
        share_next tasks t p,
      )

  -- a place that has no ready job has nothing left, and nothing fresh, if the tick does not serve it
  work_unready : (t p : ℕ) → t < ticks → p < length tasks → served_place (synchronous tasks ticks) (s t) p ≡ 0 →
      ((k : ℕ) → Ready (synchronous tasks ticks) s k t → (job_of (synchronous tasks ticks) k).place ≡ p → ⊥) →
      work_left (synchronous tasks ticks) s t p + fresh tasks t p ≡ 0
  work_unready t p h is_task unserved none =
      omega (
        arith,
        work_next t p h is_task,
        quiet_none ticks jobs s law.ready (suc t) p h
            (quiet_next (is_of p) jobs s t (λ k r y. none k r (eqb-true (job_of jobs k).place p y))),
      )

  -- in an idle tick no place has any
  pub work_idle : (t : ℕ) → t < ticks → s t ≡ idle → (p : ℕ) → p < length tasks →
      work_left (synchronous tasks ticks) s t p + fresh tasks t p ≡ 0
  work_idle t h e p is_task =
      work_unready t p h is_task (ap (λ (v : Service). served_place jobs v p) e)
      (λ k r own. let z : ◌≡◌ {A = ℕ} 0 1 = cc (law.busy t k h r).1 in omega arith)

  -- up to the end of its period a place has nothing left exactly if its first job is finished
  pub first_done : (i j x : ℕ) → i < length tasks → FirstJob (synchronous tasks ticks) i j → 1 ≤ x → x ≤ (task_of tasks i).period →
      x ≤ ticks →
      (work_left (synchronous tasks ticks) s x i ≡ 0 → Finished (synchronous tasks ticks) s j x)
      × (Finished (synchronous tasks ticks) s j x → work_left (synchronous tasks ticks) s x i ≡ 0)
  first_done i j x is_task first low short h = (
    λ none. none_quiet ticks jobs s law.ready x i h none j first.is_job (eq-eqb (job_of jobs j).place i first.is_own)
        (omega (arith, first.at_once)),
    λ done. quiet_none ticks jobs s law.ready x i h
        (λ k l y r. subst (λ (n : ℕ). Finished jobs s n x)
        (only_first tasks fit ticks i j k first l (eqb-true (job_of jobs k).place i y) (omega arith)) done),
  )

-- where no priority is repeated
module _ (tasks : List Task) (fit : TasksFit tasks) (falling : Falling tasks) (ticks : ℕ) (s : Schedule)
    (law : LegalSchedule tasks ticks (synchronous tasks ticks) s) where
  -- a tick serves a place that has work, and no place before it has any
  pub work_serves : (t j : ℕ) → t < ticks → s t ≡ serves j →
      ((job_of (synchronous tasks ticks) j).place < length tasks)
      × (1 ≤ work_left (synchronous tasks ticks) s t (job_of (synchronous tasks ticks) j).place + fresh tasks t (job_of (synchronous tasks ticks) j).place)
      × ((p : ℕ) → p < (job_of (synchronous tasks ticks) j).place → work_left (synchronous tasks ticks) s t p + fresh tasks t p ≡ 0)
  work_serves t j h e =
      let jobs : List Job = synchronous tasks ticks in
      let place : ℕ = (job_of jobs j).place in
      let is_task : place < length tasks = ((synchronous_legal tasks fit ticks).fits j (law.ready t j h e).is_job).has_task in
      let served : (p : ℕ) → served_place jobs (s t) p ≡ on (eqb place p) 1 = λ p. ap (λ (v : Service). served_place jobs v p) e in (
        is_task,
        omega (arith, work_next tasks fit ticks s law t place h is_task, served place, ap (λ (b : Bool). on b 1) (eq-eqb place place refl)),
        λ p l. work_unready tasks fit ticks s law t p h (omega arith) (served p ∙ ap (λ (b : Bool). on b 1) (ne_eqb place p (omega arith)))
            (λ k r own. omega (arith, not_later tasks falling place p is_task (rw own at (law.urgent t j k h e r)))),
      )
