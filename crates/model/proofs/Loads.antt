-- Which tasks interfere where a priority is not repeated: document 01's "every more urgent j".
-- Assumes nothing.
use Prim.Native.Nat.{ℕ, zero, suc, ◌+◌, ◌≤◌, ◌<◌}
use native.Mathlib.Omega.{arith}
use native.Mathlib.Nat.{not-suc-le-zero}
use native.Mathlib.Decide.{ℕ_discrete, dec_lt}
use mathlib.Core.Path.{◌≡◌, refl, sym, ◌∙◌, ap}
use mathlib.Core.Bool.{true, false}
use mathlib.Core.Logic.{inl, inr}
use mathlib.Core.List.{List, map}
use lib.ListN.{length}
use borrow.Author.Tests.{le-ltb, le-leb, lt-leb, eq-eqb, ne_eqb}
use Rattle.model.specs.Choice.{on}
use Rattle.model.specs.Lists.{keep, total}
use Rattle.model.specs.Tables.{Task, no_task, task_of, priority_of, load_of, load_from, is_other, interferes, loads_of, Alone, Falling, more_urgent, more_urgent_loads}
use Rattle.model.proofs.Tests.{ltb?}
use Rattle.model.proofs.Append.{list_is}
use Rattle.model.proofs.Gather.{gather_same, keep_gather}

-- a task is not another one than itself
pub other_own : (i : ℕ) → is_other i i ≡ false
other_own i = rw (eq-eqb i i refl) refl

pub other_is : (i k : ℕ) → (k ≡ i → ⊥) → is_other i k ≡ true
other_is i k d = rw (ne_eqb k i d) refl

-- what every place but one adds, and what that one does, is the whole
all_others : (f : ℕ → ℕ) (i n : ℕ) → n ≤ i → total (λ k. on (is_other i k) (f k)) n ≡ total f n
unfolding total
all_others f i zero h = refl
all_others f i (suc n) h = rw (other_is i n (omega arith)) (omega (arith, all_others f i n (omega arith)))

pub total_other : (f : ℕ → ℕ) (i n : ℕ) → i < n → total (λ k. on (is_other i k) (f k)) n + f i ≡ total f n
unfolding total
total_other f i zero h = absurd (omega arith)
total_other f i (suc n) h =
    elim (ℕ_discrete i n) [
      | yes e ↦
          let own : is_other i n ≡ false = rw (eq-eqb n i (sym e)) refl in
          rw own (omega (arith, all_others f i n (omega arith), ap f e))
      | no d ↦ rw (other_is i n (λ e. d (sym e))) (omega (arith, total_other f i n (omega arith)))
    ]

-- where no other task has its priority, a task of equal or greater priority is another one exactly if it is more urgent
alone_test : (tasks : List Task) (i k : ℕ) → Alone tasks i → k < length tasks →
    interferes (priority_of tasks) i k ≡ more_urgent (priority_of tasks i) (task_of tasks k)
alone_test tasks i k alone h =
    elim (ℕ_discrete k i) [
      | yes e ↦ rw (e, other_own i, le-ltb (priority_of tasks i) (priority_of tasks i) (omega arith)) refl
      | no d ↦ elim (ltb? (priority_of tasks i) (priority_of tasks k)) [
        | inl p ↦ rw (other_is i k d, p.0, le-leb (priority_of tasks i) (priority_of tasks k) (omega (arith, p.1))) refl
        | inr p ↦ rw (other_is i k d, p.0, lt-leb (priority_of tasks i) (priority_of tasks k) (below d p.1)) refl
      ]
    ]
  where
    below : (k ≡ i → ⊥) → priority_of tasks k ≤ priority_of tasks i → priority_of tasks k < priority_of tasks i
    below d l =
        elim (dec_lt (priority_of tasks k) (priority_of tasks i)) [
          | yes m ↦ m
          | no m ↦ absurd (d (alone k h (omega arith)))
        ]

-- so its loads are those of the more urgent tasks
pub alone_loads : (tasks : List Task) (i : ℕ) → Alone tasks i → loads_of tasks i ≡ more_urgent_loads tasks i
alone_loads tasks i alone =
    gather_same (interferes (priority_of tasks) i) (λ k. more_urgent (priority_of tasks i) (task_of tasks k)) (load_from tasks) (load_from tasks) (length tasks)
    (λ k h. alone_test tasks i k alone h) (λ k h. refl)
    ∙ sym (keep_gather (more_urgent (priority_of tasks i)) load_of (task_of tasks) (length tasks))
    ∙ ap (λ (ts : List Task). map load_of (keep (more_urgent (priority_of tasks i)) ts)) (list_is (task_of tasks) tasks no_task (λ k h. refl))

module _ (tasks : List Task) (falling : Falling tasks) where
  -- priorities fall from each task to any later one
  pub falls : (i k : ℕ) → i < k → k < length tasks → priority_of tasks k < priority_of tasks i
  falls i zero l h = absurd (not-suc-le-zero l)
  falls i (suc k) l h =
      elim (ℕ_discrete i k) [
        | yes e ↦ rw e (falling k h)
        | no d ↦ omega (arith, falls i k (omega arith) (omega arith), falling k h)
      ]

  -- a task that is at least as urgent as another is not of a later place
  pub not_later : (i k : ℕ) → i < length tasks → priority_of tasks k ≤ priority_of tasks i → i ≤ k
  not_later i k h p = elim (dec_lt k i) [ yes l ↦ absurd (omega (arith, falls k i l h)) | no l ↦ omega arith ]

  -- so no other task has its priority
  pub falling_alone : (i : ℕ) → i < length tasks → Alone tasks i
  falling_alone i h k l e =
      let low : i ≤ k = not_later i k h (omega arith) in
      let high : k ≤ i = not_later k i l (omega arith) in
      omega arith
