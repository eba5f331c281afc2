-- What was served before a tick: it grows by at most one, never passes a need, and is nothing before the release.
-- Assumes nothing.
use Prim.Native.Nat.{ℕ, zero, suc, ◌+◌, ◌≤◌, ◌<◌}
use native.Mathlib.Nat.{add-zero, add-suc, le_refl, le_dest}
use native.Mathlib.Decide.{dec_le}
use native.Mathlib.Omega.{arith}
use mathlib.Core.Path.{◌≡◌, refl, sym, ap}
use mathlib.Core.Logic.{◌≢◌, inl, inr}
use mathlib.Core.List.{List}
use borrow.Author.Tests.{eq-eqb, ne_eqb}
use Rattle.model.proofs.Tests.{eqb?}
use Rattle.runs.specs.Jobs.{Job, job_of}
use Rattle.runs.specs.Schedule.{Service, idle, serves, Schedule, count_for, served_before, Ready}

served_later : (s : Schedule) (j x k : ℕ) → served_before s j x ≤ served_before s j (x + k)
unfolding served_before
served_later s j x zero = rw add-zero (le_refl (served_before s j x))
served_later s j x (suc k) = rw add-suc (omega (arith, served_later s j x k))

pub served_grows : (s : Schedule) (j x y : ℕ) → x ≤ y → served_before s j x ≤ served_before s j y
served_grows s j x y h = let d = le_dest h in rw (← d.1) (served_later s j x d.0)

pub count_own : (j : ℕ) → count_for j (serves j) ≡ 1
count_own j = rw (eq-eqb j j refl) refl

pub count_other : (j k : ℕ) → j ≢ k → count_for j (serves k) ≡ 0
count_other j k d = rw (ne_eqb j k d) refl

pub count_small : (j : ℕ) (v : Service) → count_for j v ≤ 1
count_small j idle = omega arith
count_small j (serves k) = elim (eqb? j k) [ inl p ↦ rw p.0 (omega arith) | inr p ↦ rw p.0 (omega arith) ]

-- a tick that adds to what a job was served is one that serves it
pub count_is : (j : ℕ) (v : Service) → 1 ≤ count_for j v → v ≡ serves j
count_is j idle h = absurd (omega arith)
count_is j (serves k) h = elim (eqb? j k) [ inl p ↦ ap serves (sym p.1) | inr p ↦ absurd (omega (arith, count_other j k p.1)) ]

-- what a tick serves is ready
abbrev pub ServesReady : ℕ → List Job → Schedule → Type 0
ServesReady ticks jobs s = (t j : ℕ) → t < ticks → s t ≡ serves j → Ready jobs s j t

module _ (ticks : ℕ) (jobs : List Job) (s : Schedule) (ready : ServesReady ticks jobs s) where
  pub served_most : (j t : ℕ) → t ≤ ticks → served_before s j t ≤ (job_of jobs j).need
  unfolding served_before
  served_most j zero h = omega arith
  served_most j (suc t) h =
      elim (dec_le 1 (count_for j (s t))) [
        | yes p ↦ omega (arith, count_small j (s t), (ready t j h (count_is j (s t) p)).unfinished)
        | no p ↦ omega (arith, served_most j t (omega arith))
      ]

  pub served_none : (j t : ℕ) → t ≤ ticks → t ≤ (job_of jobs j).release → served_before s j t ≡ 0
  unfolding served_before
  served_none j zero h l = refl
  served_none j (suc t) h l =
      elim (dec_le 1 (count_for j (s t))) [
        | yes p ↦ absurd (omega (arith, (ready t j h (count_is j (s t) p)).released))
        | no p ↦ omega (arith, served_none j t (omega arith) (omega arith))
      ]
