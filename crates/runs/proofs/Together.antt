-- The run in which all tasks are released together: its jobs are legal, each place has a first job, and what places ask for up to
-- each f.
-- Assumes nothing.
use Prim.Native.Nat.{ℕ, zero, suc, ◌+◌, ◌*◌, ◌-◌, ◌%◌, ◌≤◌, ◌<◌}
use native.Mathlib.Nat.{zero-mul, suc-mul, mul_comm, mul-sub, mul-mod_right, mul-le-mul_right, le-mul_of_pos_right, le_refl, not-suc-le-zero, lt_of_not-le}
use native.Mathlib.Decide.{dec_lt, ℕ_discrete}
use native.Mathlib.Omega.{arith}
use mathlib.Core.Path.{◌≡◌, refl, sym, ◌∙◌, ap}
use mathlib.Core.Logic.{◌≢◌, inl, inr}
use mathlib.Core.Bool.{Bool}
use mathlib.Core.List.{List, ◌++◌}
use lib.Dec.{eqb}
use lib.ListN.{length, length-append, get_or-append}
use lib.Seq.{get_or-append-add}
use borrow.Author.Tests.{le-leb, eq-eqb, ne_eqb}
use Rattle.model.specs.Choice.{on}
use Rattle.model.specs.Lists.{sum_of, total}
use Rattle.model.specs.Tables.{Task, task_of, priority_of, loads_of}
use Rattle.model.proofs.Tests.{bool?, clash}
use Rattle.model.proofs.Lists.{length_tabulate, get_d_tabulate, sum_append}
use Rattle.model.proofs.Append.{append_at, each_append}
use Rattle.equation.specs.Rounding.{ceil_div}
use Rattle.equation.specs.Demand.{demand}
use Rattle.equation.proofs.Laws.{rounding_up}
use Rattle.equation.proofs.RoundingLaws.{positive}
use Rattle.runs.specs.Jobs.{Job, no_job, job_of, TasksFit, NoDelay, JobFits, JobsApart, LegalJobs}
use Rattle.runs.specs.Synchronous.{job_at, jobs_at, jobs_before, synchronous, FirstJob, SynchronousIsRun}
use Rattle.runs.proofs.Sums.{total_zero, total_point, total_apart, total_first, sum_total}
use Rattle.model.proofs.Gather.{sum_tabulate}
use Rattle.runs.proofs.Windows.{within, within_is, within?, need_of, is_of, of_places}
use Rattle.runs.proofs.BusyWindow.{asked}
use Rattle.runs.proofs.Loads.{share_of, as_urgent, demand_is}

-- a job of a place before m, as the run asks for it
record Fits (tasks : List Task) (ticks m : ℕ) (job : Job) : Type 0 where
  fits : JobFits tasks ticks job
  before : job.place < m

-- any two jobs
abbrev Apart : List Task → List Job → Type 0
Apart tasks jobs = (a b : ℕ) → a < length jobs → b < length jobs → a ≢ b → JobsApart tasks (job_of jobs a) (job_of jobs b)

-- the distance of two multiples is a multiple: this run's releases keep to the period, though a run need not
multiples : (a b d : ℕ) → (b * d - a * d) % d ≡ 0
multiples a b d = rw (mul_comm b d, mul_comm a d, ← mul-sub d b a) (mul-mod_right d (b - a))

apart_append : (tasks : List Task) (xs ys : List Job) → Apart tasks xs → Apart tasks ys →
    ((a b : ℕ) → a < length xs → b < length ys → (job_of xs a).place ≢ (job_of ys b).place) → Apart tasks (xs ++ ys)
apart_append tasks xs ys left right differ a b l m d =
    elim (append_at no_job xs ys a l) [
      | inl p ↦ elim (append_at no_job xs ys b m) [
        | inl q ↦ rw (p.1, q.1) (left a b p.0 q.0 d)
        | inr q ↦ rw (p.1, q.3) (λ e. absurd (differ a q.0 p.0 q.1 e))
      ]
      | inr p ↦ elim (append_at no_job xs ys b m) [
        | inl q ↦ rw (p.3, q.1) (λ e. absurd (differ b p.0 q.0 p.1 (sym e)))
        | inr q ↦ rw (p.3, q.3) (right p.0 q.0 p.1 q.1 (λ e. d (p.2 ∙ ap (λ (k : ℕ). length xs + k) e ∙ sym q.2)))
      ]
    ]

module _ (tasks : List Task) (fit : TasksFit tasks) (ticks : ℕ) where
  -- below the rounded-up quotient a multiple of T is below the number
  multiple_below : (p k n : ℕ) → p < length tasks → k < ceil_div n (task_of tasks p).period → k * (task_of tasks p).period < n
  multiple_below p k n h l =
      lt_of_not-le (λ u. omega (arith, rounding_up.least n (task_of tasks p).period k (fit.period_low p h) u))

  job_at_fits : (p k m : ℕ) → p < length tasks → p < m → k < ceil_div ticks (task_of tasks p).period → Fits tasks ticks m (job_at tasks p k)
  job_at_fits p k m h u l =
      record {
        fits =
            record {
              has_task = h;
              in_run = multiple_below p k ticks h l;
              need_low = omega (arith, fit.cost_low p h);
              need_high = omega arith;
            };
        before = u;
      }

  jobs_at_length : (p : ℕ) → length (jobs_at tasks ticks p) ≡ ceil_div ticks (task_of tasks p).period
  jobs_at_length p = length_tabulate (job_at tasks p) (ceil_div ticks (task_of tasks p).period)

  jobs_at_is : (p j : ℕ) → j < length (jobs_at tasks ticks p) → job_of (jobs_at tasks ticks p) j ≡ job_at tasks p j
  jobs_at_is p j l = get_d_tabulate (job_at tasks p) (ceil_div ticks (task_of tasks p).period) j no_job (rw (jobs_at_length p) at l)

  fits_more : (m : ℕ) (job : Job) → Fits tasks ticks m job → Fits tasks ticks (suc m) job
  fits_more m job f =
      record { fits = f.fits; before = omega arith }

  fits_before : (m : ℕ) → m ≤ length tasks → (j : ℕ) → j < length (jobs_before tasks ticks m) → Fits tasks ticks m (job_of (jobs_before tasks ticks m) j)
  unfolding jobs_before
  fits_before zero h = λ j l. absurd (not-suc-le-zero l)
  fits_before (suc m) h =
      each_append no_job (Fits tasks ticks (suc m)) (jobs_before tasks ticks m) (jobs_at tasks ticks m)
      (λ j l. fits_more m (job_of (jobs_before tasks ticks m) j) (fits_before m (omega arith) j l))
      (λ j l. rw (jobs_at_is m j l) (job_at_fits m j (suc m) (omega arith) (omega arith) (rw (jobs_at_length m) at l)))

  apart_at : (p : ℕ) → p < length tasks → Apart tasks (jobs_at tasks ticks p)
  apart_at p h a b l m d =
      rw (jobs_at_is p a l, jobs_at_is p b m)
      (λ e before. elim (dec_lt a b) [
        | yes u ↦
            omega (
              arith,
              mul-le-mul_right (task_of tasks p).period u,
              suc-mul a (task_of tasks p).period,
              multiples a b (task_of tasks p).period,
            )
        | no u ↦
            let less : b < a = omega arith in
            absurd (omega (arith, mul-le-mul_right (task_of tasks p).period less, suc-mul b (task_of tasks p).period, fit.period_low p h))
      ])

  apart_before : (m : ℕ) → m ≤ length tasks → Apart tasks (jobs_before tasks ticks m)
  unfolding jobs_before
  apart_before zero h = λ a b l. absurd (not-suc-le-zero l)
  apart_before (suc m) h =
      apart_append tasks (jobs_before tasks ticks m) (jobs_at tasks ticks m) (apart_before m (omega arith)) (apart_at m h)
      (λ a b l u. rw (jobs_at_is m b u) (omega (arith, (fits_before m (omega arith) a l).before)))

  -- so the jobs are legal, in a run of any number of ticks
  pub synchronous_legal : LegalJobs tasks ticks (synchronous tasks ticks)
  synchronous_legal =
      record {
        fits = λ j l. (fits_before (length tasks) (le_refl (length tasks)) j l).fits;
        apart = apart_before (length tasks) (le_refl (length tasks));
      }

  -- each place before m has a job that is released at 0
  first_before : 1 ≤ ticks → (i m : ℕ) → i < m → m ≤ length tasks → (j : ℕ) × FirstJob (jobs_before tasks ticks m) i j
  unfolding jobs_before
  first_before low i zero l h = absurd (not-suc-le-zero l)
  first_before low i (suc m) l h =
      let left : List Job = jobs_before tasks ticks m in
      let right : List Job = jobs_at tasks ticks m in
      elim (ℕ_discrete i m) [
        | yes e ↦
            let some : 0 < length right = rw (jobs_at_length m) (positive ticks (task_of tasks m).period (fit.period_low m h) low) in
            let here : job_of (left ++ right) (length left + 0) ≡ job_at tasks m 0 = get_or-append-add left right 0 no_job ∙ jobs_at_is m 0 some in (
              length left + 0,
              record {
                is_job = omega (arith, length-append left right);
                is_own = ap (λ (x : Job). x.place) here ∙ sym e;
                at_once = ap (λ (x : Job). x.release) here ∙ zero-mul (task_of tasks m).period;
              },
            )
        | no d ↦
            let found = first_before low i m (omega arith) (omega arith) in
            let first : FirstJob left i found.0 = found.1 in
            let here : job_of (left ++ right) found.0 ≡ job_of left found.0 = get_or-append left right no_job found.0 first.is_job in (
              found.0,
              record {
                is_job = omega (arith, length-append left right, first.is_job);
                is_own = ap (λ (x : Job). x.place) here ∙ first.is_own;
                at_once = ap (λ (x : Job). x.release) here ∙ first.at_once;
              },
            )
      ]

  -- so each task has its first job, if the run has a tick at all
  pub first_job_law : 1 ≤ ticks → (i : ℕ) → i < length tasks → (j : ℕ) × FirstJob (synchronous tasks ticks) i j
  first_job_law low i is_task = first_before low i (length tasks) is_task (le_refl (length tasks))

  -- no other job of a place is released before its period ends
  pub only_first : (i j k : ℕ) → FirstJob (synchronous tasks ticks) i j → k < length (synchronous tasks ticks) →
      (job_of (synchronous tasks ticks) k).place ≡ i → (job_of (synchronous tasks ticks) k).release < (task_of tasks i).period → j ≡ k
  only_first i j k first l own early =
      elim (ℕ_discrete j k) [
        | yes e ↦ e
        | no d ↦
            absurd (omega (
              arith,
              first.at_once,
              rw first.is_own at (synchronous_legal.apart j k first.is_job l d (first.is_own ∙ sym own) (omega (arith, first.at_once))),
            ))
      ]

  -- a set of jobs that is a set of places
  module _ (test : ℕ → Bool) (f : ℕ) (short : f ≤ ticks) where
    -- what one job has asked for before f
    abbrev asks_of : Job → ℕ
    asks_of = within (of_places test) need_of 0 f

    -- what place p has asked for before f, if it is of the set
    abbrev share_in : ℕ → ℕ
    share_in p = on (test p) (share_of tasks f p)

    -- the jobs of a place of the set have asked for its share, the others for nothing
    place_asks : (p : ℕ) → p < length tasks → sum_of asks_of (jobs_at tasks ticks p) ≡ share_in p
    place_asks p h =
        let period : ℕ = (task_of tasks p).period in
        rw (sum_tabulate asks_of (job_at tasks p) (ceil_div ticks period))
        (elim (bool? (test p)) [
          | inl y ↦
              rw y (total_first (task_of tasks p).cost (λ k. asks_of (job_at tasks p k)) (ceil_div f period) (ceil_div ticks period)
              (rounding_up.monotone f ticks period short)
              (λ k l. within_is (of_places test) need_of 0 f (job_at tasks p k) (record { is_in = y; late = omega arith; early = multiple_below p k f h l }))
              (λ k l u. elim (within? (of_places test) need_of 0 f (job_at tasks p k)) [
                | inl i ↦
                    absurd (omega (
                      arith,
                      rounding_up.enough f period (fit.period_low p h),
                      mul-le-mul_right period l,
                      i.early,
                    ))
                | inr z ↦ z
              ]))
          | inr n ↦
              rw n (total_zero (λ k. asks_of (job_at tasks p k)) (ceil_div ticks period)
              (λ k l. elim (within? (of_places test) need_of 0 f (job_at tasks p k)) [
                | inl i ↦ absurd (clash (test p) i.is_in n)
                | inr z ↦ z
              ]))
        ])

    -- so the places before m have asked for the sum of these
    places_ask : (m : ℕ) → m ≤ length tasks → sum_of asks_of (jobs_before tasks ticks m) ≡ total share_in m
    unfolding jobs_before total sum_of
    places_ask zero h = refl
    places_ask (suc m) h =
        rw (sum_append asks_of (jobs_before tasks ticks m) (jobs_at tasks ticks m))
        (omega (arith, places_ask m (omega arith), place_asks m h))

    asked_places : asked (of_places test) (synchronous tasks ticks) f ≡ total share_in (length tasks)
    asked_places = sym (sum_total asks_of no_job (synchronous tasks ticks)) ∙ places_ask (length tasks) (le_refl (length tasks))

  module _ (f : ℕ) (short : f ≤ ticks) (i : ℕ) (is_task : i < length tasks) where
    -- before f a place has asked for its cost as often as periods begin
    pub asked_place : asked (is_of i) (synchronous tasks ticks) f ≡ share_of tasks f i
    asked_place =
        asked_places (λ p. eqb p i) f short
        ∙ total_point (λ p. on (eqb p i) (share_of tasks f p)) i (length tasks) is_task (λ p l d. rw (ne_eqb p i d) refl)
        ∙ rw (eq-eqb i i refl) refl

    -- and the places that are at least as urgent as i have asked for demand(i, f) or more
    pub asked_demand : NoDelay tasks → 1 ≤ f →
        demand (task_of tasks i).cost (loads_of tasks i) f ≤ asked (of_places (as_urgent tasks i)) (synchronous tasks ticks) f
    asked_demand calm low =
        let rounded : 1 ≤ ceil_div f (task_of tasks i).period = positive f (task_of tasks i).period (fit.period_low i is_task) low in
        let own : (task_of tasks i).cost ≤ on (as_urgent tasks i i) (share_of tasks f i) =
        rw (le-leb (priority_of tasks i) (priority_of tasks i) (omega arith)) (le-mul_of_pos_right (task_of tasks i).cost rounded) in
        rw (demand_is tasks calm (task_of tasks i).cost i f, asked_places (as_urgent tasks i) f short)
        (omega (arith, own, total_apart (as_urgent tasks i) (share_of tasks f) i (length tasks) is_task))

pub synchronous_is_run : SynchronousIsRun
synchronous_is_run tasks fit ticks =
    record { legal_jobs = synchronous_legal tasks fit ticks; first_job = first_job_law tasks fit ticks }
