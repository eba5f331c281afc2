-- How often a task is released in a window, and what it may ask for there: the arrival rule "Two releases of one task are at least T
-- apart." alone, and no schedule.
-- Assumes nothing.
use Prim.Native.Nat.{ℕ, zero, suc, ◌+◌, ◌*◌, ◌≤◌, ◌<◌}
use native.Mathlib.Nat.{zero-mul, suc-mul, add-zero, mul-one, mul-le-mul_left, le_trans}
use native.Mathlib.Decide.{dec_le, ℕ_discrete}
use native.Mathlib.Omega.{arith}
use mathlib.Core.Path.{◌≡◌, sym, ◌∙◌}
use mathlib.Core.Logic.{◌≢◌, inl, inr}
use mathlib.Core.List.{List}
use lib.ListN.{length}
use borrow.Author.Tests.{eqb-true}
use Rattle.model.specs.Tables.{Task, task_of}
use Rattle.runs.specs.Jobs.{Job, job_of, LegalJobs}
use Rattle.model.proofs.Totals.{total_mono}
use Rattle.runs.proofs.Sums.{total_once, total_times}
use Rattle.runs.proofs.Windows.{within, IsWithin, within_is, within?, released, released_split, released_empty, need_of, one, is_of}

module _ (tasks : List Task) (ticks : ℕ) (jobs : List Job) (legal : LegalJobs tasks ticks jobs) where
  abbrev counted : ℕ → ℕ → ℕ → ℕ → ℕ
  counted p a b j = within (is_of p) one a b (job_of jobs j)

  counted_small : (p a b j : ℕ) → counted p a b j ≤ 1
  counted_small p a b j =
      elim (within? (is_of p) one a b (job_of jobs j)) [
        | inl i ↦ omega (arith, within_is (is_of p) one a b (job_of jobs j) i)
        | inr z ↦ omega arith
      ]

  counted_is : (p a b j : ℕ) → 1 ≤ counted p a b j → IsWithin (is_of p) a b (job_of jobs j)
  counted_is p a b j h = elim (within? (is_of p) one a b (job_of jobs j)) [ inl i ↦ i | inr z ↦ absurd (omega arith) ]

  -- of two jobs of one place in a window of T ticks neither comes first, so they are one
  no_two : (p a x y : ℕ) → x < length jobs → y < length jobs →
      IsWithin (is_of p) a (a + (task_of tasks p).period) (job_of jobs x) → IsWithin (is_of p) a (a + (task_of tasks p).period) (job_of jobs y) →
      x ≢ y → ¬ ((job_of jobs x).release ≤ (job_of jobs y).release)
  no_two p a x y l m i k differ before =
      let px : (job_of jobs x).place ≡ p = eqb-true (job_of jobs x).place p i.is_in in
      let py : (job_of jobs y).place ≡ p = eqb-true (job_of jobs y).place p k.is_in in
      omega (arith, rw px at (legal.apart x y l m differ (px ∙ sym py) before))

  once : (p a : ℕ) → released (is_of p) one jobs a (a + (task_of tasks p).period) ≤ 1
  once p a =
      total_once (counted p a (a + (task_of tasks p).period)) (length jobs) (λ k l. counted_small p a (a + (task_of tasks p).period) k)
      (λ x y l m hx hy. same x y l m (counted_is p a (a + (task_of tasks p).period) x hx) (counted_is p a (a + (task_of tasks p).period) y hy))
    where
      same : (x y : ℕ) → x < length jobs → y < length jobs →
          IsWithin (is_of p) a (a + (task_of tasks p).period) (job_of jobs x) → IsWithin (is_of p) a (a + (task_of tasks p).period) (job_of jobs y) → x ≡ y
      same x y l m i k =
          elim (ℕ_discrete x y) [
            | yes e ↦ e
            | no d ↦ elim (dec_le (job_of jobs x).release (job_of jobs y).release) [
              | yes h ↦ absurd (no_two p a x y l m i k d h)
              | no h ↦ absurd (no_two p a y x m l k i (λ e. d (sym e)) (omega arith))
            ]
          ]

  -- in k periods at most k releases
  often : (p k a : ℕ) → released (is_of p) one jobs a (a + k * (task_of tasks p).period) ≤ k
  often p zero a = rw (zero-mul, add-zero) (omega (arith, released_empty (is_of p) one jobs a))
  often p (suc k) a =
      let period : ℕ = (task_of tasks p).period in
      let whole : a + suc k * period ≡ a + period + k * period = rw suc-mul (omega arith) in
      rw whole (omega (
        arith,
        often p k (a + period),
        once p a,
        released_split (is_of p) one jobs a (a + period) (a + period + k * period) (omega arith) (omega arith),
      ))

  -- so a task asks for at most its cost as often as periods begin
  pub asks : (p a w k : ℕ) → w ≤ k * (task_of tasks p).period →
      released (is_of p) need_of jobs a (a + w) ≤ (task_of tasks p).cost * k
  asks p a w k h =
      le_trans (total_mono (λ j. within (is_of p) need_of a (a + w) (job_of jobs j)) (λ j. (task_of tasks p).cost * counted p a (a + w) j) (length jobs) each)
      (rw (total_times (task_of tasks p).cost (counted p a (a + w)) (length jobs)) (mul-le-mul_left (task_of tasks p).cost few))
    where
      each : (j : ℕ) → j < length jobs → within (is_of p) need_of a (a + w) (job_of jobs j) ≤ (task_of tasks p).cost * counted p a (a + w) j
      each j l =
          elim (within? (is_of p) need_of a (a + w) (job_of jobs j)) [
            | inl i ↦
                rw (within_is (is_of p) need_of a (a + w) (job_of jobs j) i, within_is (is_of p) one a (a + w) (job_of jobs j) i, mul-one)
                (omega (arith, rw (eqb-true (job_of jobs j).place p i.is_in) at (legal.fits j l).need_high))
            | inr z ↦ omega arith
          ]

      few : released (is_of p) one jobs a (a + w) ≤ k
      few =
          omega (
            arith,
            often p k a,
            released_split (is_of p) one jobs a (a + w) (a + k * (task_of tasks p).period) (omega arith) (omega arith),
          )
