-- The busy window, for any set of jobs that a schedule favours and any bound on what the set asks for in a window. Nothing here
-- asks in which order the jobs of the set go, or what makes a bound hold.
-- Assumes nothing.
use Prim.Native.Nat.{ℕ, zero, suc, ◌+◌, ◌≤◌, ◌<◌}
use native.Mathlib.Nat.{add-zero, add-suc, le_refl, not-suc-le-zero, le_trans}
use native.Mathlib.Decide.{dec_le, dec_lt}
use native.Mathlib.Omega.{arith}
use mathlib.Core.Path.{◌≡◌, refl, ◌∙◌, ap}
use mathlib.Core.Logic.{◌≢◌, ◌⊎◌, inl, inr}
use mathlib.Core.Bool.{Bool, true, false}
use mathlib.Core.List.{List}
use lib.ListN.{length}
use Rattle.model.specs.Choice.{pick, on}
use Rattle.model.specs.Lists.{total}
use Rattle.model.proofs.Tests.{bool?, on_high}
use Rattle.runs.specs.Jobs.{Job, job_of}
use Rattle.runs.specs.Schedule.{Service, idle, serves, Schedule, count_for, served_before, Finished, Ready}
use Rattle.model.proofs.Totals.{total_mono, total_same, total_add}
use Rattle.runs.proofs.Sums.{total_zero, total_point, total_tight}
use Rattle.runs.proofs.Windows.{within, within_is, within?, released, released_split, need_of}
use Rattle.runs.proofs.Served.{ServesReady, served_grows, served_most, served_none, count_own, count_other}

-- A schedule favours a set if it serves ready jobs alone, and one of the set whenever one of the set is ready.
pub record Favours (set : Job → Bool) (ticks : ℕ) (jobs : List Job) (s : Schedule) : Type 0 where
  pub ready : ServesReady ticks jobs s
  pub closed : (t k : ℕ) → t < ticks → Ready jobs s k t → set (job_of jobs k) ≡ true →
      (j : ℕ) × (s t ≡ serves j) × (set (job_of jobs j) ≡ true)

-- at tick t no job of the set that was released before is unfinished
abbrev pub Quiet : (Job → Bool) → List Job → Schedule → ℕ → Type 0
Quiet set jobs s t = (j : ℕ) → j < length jobs → set (job_of jobs j) ≡ true → (job_of jobs j).release < t → Finished jobs s j t

-- what the set has asked for before t, and what it was served
abbrev pub asked : (Job → Bool) → List Job → ℕ → ℕ
asked set jobs t = released set need_of jobs 0 t

abbrev pub worked_on : (Job → Bool) → List Job → Schedule → ℕ → ℕ → ℕ
worked_on set jobs s t j = pick (set (job_of jobs j)) (served_before s j t) 0

abbrev pub worked : (Job → Bool) → List Job → Schedule → ℕ → ℕ
worked set jobs s t = total (worked_on set jobs s t) (length jobs)

-- what a tick that serves so adds for job j
abbrev pub added : (Job → Bool) → List Job → Service → ℕ → ℕ
added set jobs v j = pick (set (job_of jobs j)) (count_for j v) 0

module _ (set : Job → Bool) (jobs : List Job) where
  added_other : (k j : ℕ) → j ≢ k → added set jobs (serves k) j ≡ 0
  added_other k j d = elim (bool? (set (job_of jobs j))) [ inl p ↦ rw p (count_other j k d) | inr p ↦ rw p refl ]

  -- an idle tick adds nothing, and one that serves a job adds 1 if the job is of the set
  pub added_idle : total (added set jobs idle) (length jobs) ≡ 0
  added_idle =
      total_zero (added set jobs idle) (length jobs)
      (λ j l. elim (bool? (set (job_of jobs j))) [ inl p ↦ rw p refl | inr p ↦ rw p refl ])

  pub added_serves : (k : ℕ) → k < length jobs → total (added set jobs (serves k)) (length jobs) ≡ on (set (job_of jobs k)) 1
  added_serves k l =
      total_point (added set jobs (serves k)) k (length jobs) l (λ j m d. added_other k j d)
      ∙ ap (on (set (job_of jobs k))) (count_own k)

  -- a tick serves at most one job
  added_small : (v : Service) → total (added set jobs v) (length jobs) ≤ 1
  added_small idle = omega (arith, added_idle)
  added_small (serves k) =
      elim (dec_lt k (length jobs)) [
        | yes l ↦ omega (arith, added_serves k l, on_high (set (job_of jobs k)) 1)
        | no l ↦ omega (arith, total_zero (added set jobs (serves k)) (length jobs) (λ j m. added_other k j (omega arith)))
      ]

module _ (set : Job → Bool) (jobs : List Job) (s : Schedule) where
  pub worked_next : (t : ℕ) → worked set jobs s (suc t) ≡ worked set jobs s t + total (added set jobs (s t)) (length jobs)
  unfolding served_before
  worked_next t =
      total_same (worked_on set jobs s (suc t)) (λ j. worked_on set jobs s t j + added set jobs (s t) j) (length jobs)
      (λ j l. elim (bool? (set (job_of jobs j))) [ inl p ↦ rw p refl | inr p ↦ rw p refl ])
      ∙ total_add (worked_on set jobs s t) (added set jobs (s t)) (length jobs)

  worked_none : worked set jobs s 0 ≡ 0
  unfolding served_before
  worked_none =
      total_zero (worked_on set jobs s 0) (length jobs)
      (λ j l. elim (bool? (set (job_of jobs j))) [ inl p ↦ rw p refl | inr p ↦ rw p refl ])

  pub worked_slow : (t : ℕ) → worked set jobs s t ≤ t
  worked_slow zero = omega (arith, worked_none)
  worked_slow (suc t) = omega (arith, worked_next t, added_small set jobs (s t), worked_slow t)

  -- where the set is quiet, all that it asked for was served
  pub quiet_asked : (t : ℕ) → Quiet set jobs s t → asked set jobs t ≤ worked set jobs s t
  quiet_asked t q =
      total_mono (λ j. within set need_of 0 t (job_of jobs j)) (worked_on set jobs s t) (length jobs)
      (λ j l. elim (within? set need_of 0 t (job_of jobs j)) [
        | inl i ↦ rw (within_is set need_of 0 t (job_of jobs j) i, i.is_in) (q j l i.is_in i.early)
        | inr z ↦ omega arith
      ])

  -- where no job of the set is ready at a tick, the set is quiet after it
  pub quiet_next : (t : ℕ) → ((k : ℕ) → Ready jobs s k t → set (job_of jobs k) ≡ true → ⊥) → Quiet set jobs s (suc t)
  quiet_next t none j l p r =
      elim (dec_le (job_of jobs j).need (served_before s j t)) [
        | yes f ↦ le_trans f (served_grows s j t (suc t) (omega arith))
        | no f ↦ absurd (none j (record { is_job = l; released = omega arith; unfinished = f }) p)
      ]

  module _ (ticks : ℕ) (ready : ServesReady ticks jobs s) where
    -- a job is served what it asked for, and no more
    worked_most : (t j : ℕ) → t ≤ ticks → worked_on set jobs s t j ≤ within set need_of 0 t (job_of jobs j)
    worked_most t j h =
        elim (bool? (set (job_of jobs j))) [
          | inr p ↦ rw p (omega arith)
          | inl p ↦ elim (dec_lt (job_of jobs j).release t) [
            | yes l ↦
                rw (p, within_is set need_of 0 t (job_of jobs j) (record { is_in = p; late = omega arith; early = l }))
                (served_most ticks jobs s ready j t h)
            | no l ↦ rw p (omega (arith, served_none ticks jobs s ready j t h (omega arith)))
          ]
        ]

    -- where all that the set asked for was served, it is quiet
    pub asked_quiet : (t : ℕ) → t ≤ ticks → asked set jobs t ≤ worked set jobs s t → Quiet set jobs s t
    asked_quiet t h enough j l p r =
        rw (p, within_is set need_of 0 t (job_of jobs j) (record { is_in = p; late = omega arith; early = r })) at
        (total_tight (worked_on set jobs s t) (λ k. within set need_of 0 t (job_of jobs k)) (length jobs)
        (λ k m. worked_most t k h) enough j l)

  module _ (ticks : ℕ) (favours : Favours set ticks jobs s) where
    -- a tick serves the set, or the set is quiet after it
    serve_or_quiet : (t : ℕ) → t < ticks → (worked set jobs s t + 1 ≤ worked set jobs s (suc t)) ⊎ Quiet set jobs s (suc t)
    serve_or_quiet t h = go (s t) refl
      where
        go : (v : Service) → s t ≡ v → (worked set jobs s t + 1 ≤ worked set jobs s (suc t)) ⊎ Quiet set jobs s (suc t)
        go idle e = inr (quiet_next t (λ k r p. let z : ◌≡◌ {A = ℕ} 0 1 = cc (favours.closed t k h r p).1 in omega arith))
        go (serves k) e =
            elim (bool? (set (job_of jobs k))) [
              | inl p ↦
                  inl (omega (
                    arith,
                    worked_next t,
                    ap (λ (v : Service). total (added set jobs v) (length jobs)) e,
                    added_serves set jobs k (favours.ready t k h e).is_job,
                    ap (λ (b : Bool). on b 1) p,
                  ))
              | inr p ↦ inr (quiet_next t (λ i r q. let c = favours.closed t i h r q in other k p e c.0 c.1 c.2))
            ]
          where
            other : (k : ℕ) → set (job_of jobs k) ≡ false → s t ≡ serves k → (j : ℕ) → s t ≡ serves j → set (job_of jobs j) ≡ true → ⊥
            other k p e j f q = let z : ◌≡◌ {A = ℕ} 0 1 = cc in omega arith

    -- in k ticks from a quiet moment the set becomes quiet again or is served k times
    busy : (a : ℕ) → Quiet set jobs s a → (k : ℕ) → a + k ≤ ticks →
        ((t : ℕ) × (a < t) × (t ≤ a + k) × Quiet set jobs s t) ⊎ (worked set jobs s a + k ≤ worked set jobs s (a + k))
    busy a q zero h = inr (rw (add-zero a, add-zero (worked set jobs s a)) (le_refl (worked set jobs s a)))
    busy a q (suc k) h =
        rw (add-suc a k) (elim (busy a q k (omega arith)) [
          | inl f ↦ inl (f.0, f.1, omega (arith, f.2), f.3)
          | inr w ↦ elim (serve_or_quiet (a + k) (omega arith)) [
            | inl u ↦ inr (omega arith)
            | inr u ↦ inl (suc (a + k), omega arith, omega arith, u)
          ]
        ])

    -- a set that asks for at most w in the w ticks from a quiet moment becomes quiet again within them
    quiet_again : (a w : ℕ) → Quiet set jobs s a → 1 ≤ w → a + w ≤ ticks → released set need_of jobs a (a + w) ≤ w →
        (t : ℕ) × (a < t) × (t ≤ a + w) × Quiet set jobs s t
    quiet_again a w q low h bound =
        elim (busy a q w h) [
          | inl f ↦ f
          | inr u ↦ (
            a + w,
            omega arith,
            le_refl (a + w),
            asked_quiet ticks favours.ready (a + w) h
                (omega (arith, quiet_asked a q, released_split set need_of jobs 0 a (a + w) (omega arith) (omega arith))),
          )
        ]

    -- so from any quiet moment up to r one comes to a quiet moment past r, and at most w past it
    quiet_past : (r w : ℕ) → 1 ≤ w → r + w ≤ ticks → ((a : ℕ) → a ≤ r → released set need_of jobs a (a + w) ≤ w) →
        (fuel a : ℕ) → Quiet set jobs s a → a ≤ r → r < a + fuel → (t : ℕ) × (r < t) × (t ≤ r + w) × Quiet set jobs s t
    quiet_past r w low h bound zero a q l f = absurd (omega arith)
    quiet_past r w low h bound (suc fuel) a q l f =
        let next = quiet_again a w q low (omega arith) (bound a l) in
        let later : a < next.0 = next.1 in
        let near : next.0 ≤ a + w = next.2 in
        elim (dec_le next.0 r) [
          | yes m ↦ quiet_past r w low h bound fuel next.0 next.3 m (omega arith)
          | no m ↦ (next.0, omega arith, omega arith, next.3)
        ]

    -- A job of the set is finished w ticks after its release, if the set asks for at most w in any w ticks that begin no later.
    pub finished_within : (j w : ℕ) → j < length jobs → set (job_of jobs j) ≡ true → 1 ≤ w → (job_of jobs j).release + w ≤ ticks →
        ((a : ℕ) → a ≤ (job_of jobs j).release → released set need_of jobs a (a + w) ≤ w) → Finished jobs s j ((job_of jobs j).release + w)
    finished_within j w l p low h bound =
        let r : ℕ = (job_of jobs j).release in
        let found = quiet_past r w low h bound (suc r) 0 (λ k m u z. absurd (not-suc-le-zero z)) (omega arith) (omega arith) in
        le_trans (found.3 j l p found.1) (served_grows s j found.0 (r + w) found.2)
