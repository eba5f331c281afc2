-- Two tables whose first n tasks have the same numbers are played alike.
-- Assumes nothing.
use Prim.Native.Nat.{ℕ, zero, suc, ◌+◌, ◌*◌, ◌≤◌, ◌<◌}
use native.Mathlib.Decide.{ℕ_discrete}
use native.Mathlib.Omega.{arith}
use mathlib.Core.Path.{◌≡◌, refl, sym, ◌∙◌, ap, fun_ext}
use mathlib.Core.Bool.{Bool}
use lib.Dec.{eqb}
use Rattle.model.specs.Search.{first_from}
use Rattle.machine.specs.Machine.{State, released, raised, in_word, next_place, ready_after, served, after, played}
use Rattle.machine.proofs.MachineLaws.{in_tick, still_none, other_word, tick_empty, the_next}

-- two engines hold the same for the first n places
pub record Same (n : ℕ) (one other : State) : Type 0 where
  pub left : (p : ℕ) → p < n → one.left p ≡ other.left p
  pub due : (p : ℕ) → p < n → one.due p ≡ other.due p
  pub ready : one.ready ≡ other.ready

-- only the releases of a word's first m tasks are looked at
pub raised_same : (due due' : ℕ → ℕ) (t first word m : ℕ) → ((k : ℕ) → k < m → due (first + k) ≡ due' (first + k)) →
    raised due t first word m ≡ raised due' t first word m
unfolding raised
raised_same due due' t first word zero same = refl
raised_same due due' t first word (suc m) same = rw (raised_same due due' t first word m (λ k l. same k (omega arith)), same m (omega arith))

-- what is left matters only at the place that is served, where there is one
served_same : (left left' : ℕ → ℕ) (ready : ℕ → ℕ) (q : ℕ) → (¬ (q ≡ 256) → left q ≡ left' q) → ready 4 ≡ 0 → (w : ℕ) →
    ready_after (eqb (left q) 1) q ready w ≡ ready_after (eqb (left' q) 1) q ready w
served_same left left' ready q same rest w =
    elim (ℕ_discrete q 256) [
      | no d ↦ rw (same d)
      | yes e ↦ elim (ℕ_discrete w 4) [
        | yes four ↦
            still_none (eqb (left q) 1) q ready w (ap ready four ∙ rest) ∙ sym (still_none (eqb (left' q) 1) q ready w (ap ready four ∙ rest))
        | no other ↦
            other_word (eqb (left q) 1) q ready w (λ same. other (omega (arith, same)))
            ∙ sym (other_word (eqb (left' q) 1) q ready w (λ same. other (omega (arith, same))))
      ]
    ]

-- and a tick leaves the same, whatever its place past the first n may hold
pub serve_same : (n : ℕ) (one other : State) → Same n one other → (¬ (next_place one.ready ≡ 256) → next_place one.ready < n) →
    one.ready 4 ≡ 0 → Same n (served one) (served other)
serve_same n one other same place rest =
    record {
      left = λ p h. rw (same.left p h, same.ready);
      due = same.due;
      ready =
          fun_ext (served_same one.left other.left one.ready (next_place one.ready)
          (λ some. same.left (next_place one.ready) (place some)) rest)
          ∙ rw same.ready;
    }

module _ (period cost period' cost' : ℕ → ℕ) (n : ℕ) (same_period : (p : ℕ) → p < n → period p ≡ period' p)
    (same_cost : (p : ℕ) → p < n → cost p ≡ cost' p) where
  -- the same is released
  pub release_same : (t : ℕ) (one other : State) → Same n one other →
      Same n (released period cost n t one) (released period' cost' n t other)
  release_same t one other same =
      record {
        left = λ p h. rw (same.left p h, same.due p h, same_cost p h);
        due = λ p h. rw (same.due p h, same_period p h);
        ready = fun_ext (λ w.
            raised_same one.due other.due t (64 * w) (one.ready w) (in_word n w) (λ k h. same.due (64 * w + k) (omega arith))
            ∙ ap (λ (ready : ℕ → ℕ). raised other.due t (64 * w) (ready w) (in_word n w)) same.ready);
      }

  module _ (few : n ≤ 256) (cost_low : (p : ℕ) → p < n → 1 ≤ cost p) where
    -- so the engines hold the same after every tick
    pub after_same : (t : ℕ) → Same n (after period cost n t) (after period' cost' n t)
    unfolding after
    after_same zero = record { left = λ p h. refl; due = λ p h. refl; ready = refl }
    after_same (suc t) =
        serve_same n (in_tick period cost n t) (in_tick period' cost' n t)
        (release_same t (after period cost n t) (after period' cost' n t) (after_same t))
        (λ some. (the_next period cost n few cost_low t some).is_place) (tick_empty period cost n few cost_low t 4 (omega arith))

    -- and answer alike for each place whose deadlines are the same
    pub played_same : (deadline deadline' : ℕ → ℕ) (i : ℕ) → i < n → deadline i ≡ deadline' i →
        played period cost n deadline i ≡ played period' cost' n deadline' i
    unfolding played
    played_same deadline deadline' i h e =
        rw e
        (ap (λ (test : ℕ → Bool). first_from test 1 (deadline' i)) (fun_ext (λ x. ap (λ (y : ℕ). eqb y 0) ((after_same x).left i h))))
