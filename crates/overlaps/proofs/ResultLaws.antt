-- What the words of all tasks lead to: the first that is late or open.
-- Assumes nothing.
use Prim.Native.Nat.{ℕ, ◌≤◌, ◌<◌}
use native.Mathlib.Omega.{arith}
use mathlib.Core.Path.{◌≡◌, refl, sym, ◌∙◌, ap, subst}
use mathlib.Core.Bool.{true, false}
use mathlib.Core.Logic.{◌⊎◌, inl, inr}
use borrow.Author.Tests.{eq-eqb, ne_eqb}
use Rattle.model.specs.declared.Place.{Place}
use Rattle.model.proofs.First.{all_clean, none_found, first_found, first_stop}
use Rattle.model.proofs.Tests.{bool?, eqb?, clash}
use Rattle.tables.specs.Refusals.{at}
use Rattle.overlaps.specs.declared.Found.{Found}
use Rattle.overlaps.specs.declared.Found.TheVariants.{Refused, Delayed, Schedulable, Late, Open}
use Rattle.model.specs.Tables.{open_word}
use Rattle.overlaps.specs.Outcome.{is_schedulable, said_by, said_at, result_of}
use Rattle.overlaps.specs.Numbers.{found_place}
use Rattle.overlaps.specs.Statements.{InTime, ResultRight}

pub schedulable_only : (f : Found) → is_schedulable f ≡ true → f ≡ Schedulable
schedulable_only (Refused r) p = absurd (clash false p refl)
schedulable_only Delayed p = absurd (clash false p refl)
schedulable_only Schedulable p = refl
schedulable_only (Late i) p = absurd (clash false p refl)
schedulable_only (Open i) p = absurd (clash false p refl)

-- what a word says
said_late : (word : ℕ) (place : Place) → word ≡ 0 → said_by word place ≡ Late place
said_late word place e = rw (eq-eqb word 0 e)

said_open : (word : ℕ) (place : Place) → word ≡ open_word → said_by word place ≡ Open place
said_open word place e = rw (ne_eqb word 0 (λ (z : word ≡ 0). omega (arith, e, z)), eq-eqb word open_word e)

pub said_in_time : (word : ℕ) (place : Place) → InTime word → said_by word place ≡ Schedulable
said_in_time word place w = rw (ne_eqb word 0 (λ (z : word ≡ 0). omega (arith, z, w.not_late)), ne_eqb word open_word w.not_open)

-- one of three
said_cases : (word : ℕ) (place : Place) → (InTime word × (said_by word place ≡ Schedulable))
    ⊎ (((word ≡ 0) × (said_by word place ≡ Late place)) ⊎ ((word ≡ open_word) × (said_by word place ≡ Open place)))
said_cases word place =
    elim (eqb? word 0) [
      | inl late ↦ inr (inl (late.1, said_late word place late.1))
      | inr some ↦
          elim (eqb? word open_word) [
            | inl undecided ↦ inr (inr (undecided.1, said_open word place undecided.1))
            | inr other ↦
                let w : InTime word = record { not_late = omega (arith, some.1); not_open = other.1 } in
                inl (w, said_in_time word place w)
          ]
    ]

module _ (words : ℕ → ℕ) where
  in_time_law : (k : ℕ) → said_at words k ≡ Schedulable → InTime (words k)
  in_time_law k e =
      elim (said_cases (words k) (at k)) [
        | inl w ↦ w.0
        | inr other ↦
            elim other [
              | inl late ↦ absurd (clash false (sym (ap is_schedulable late.1) ∙ ap is_schedulable e) refl)
              | inr undecided ↦ absurd (clash false (sym (ap is_schedulable undecided.1) ∙ ap is_schedulable e) refl)
            ]
      ]

  -- the result is right
  pub result_right : (n : ℕ) → ResultRight words n (result_of words n)
  result_right n =
      elim (bool? (is_schedulable (result_of words n))) [
        | inl p ↦
            let e = schedulable_only (result_of words n) p in
            subst (ResultRight words n) (sym e)
            (λ i h. in_time_law i (all_clean is_schedulable Schedulable refl (said_at words) schedulable_only n e i h))
        | inr p ↦
            let g = first_found is_schedulable Schedulable refl (said_at words) schedulable_only n p in
            elim (said_cases (words g.0) (at g.0)) [
              | inl w ↦ absurd (clash true refl (sym (ap is_schedulable (g.2 ∙ w.1)) ∙ p))
              | inr other ↦
                  elim other [
                    | inl late ↦ subst (ResultRight words n) (sym (g.2 ∙ late.1)) (g.1, late.0, λ i h. in_time_law i (g.3 i h))
                    | inr undecided ↦ subst (ResultRight words n) (sym (g.2 ∙ undecided.1)) (g.1, undecided.0, λ i h. in_time_law i (g.3 i h))
                  ]
            ]
      ]

  all_in_time : (n : ℕ) → ((i : ℕ) → i < n → InTime (words i)) → result_of words n ≡ Schedulable
  all_in_time n each =
      none_found is_schedulable Schedulable refl (said_at words) schedulable_only n (λ i h. said_in_time (words i) (at i) (each i h))

  first_not : (n : ℕ) (f : Found) (k : ℕ) → k < n → said_at words k ≡ f → is_schedulable f ≡ false → ((i : ℕ) → i < k → InTime (words i)) →
      f ≡ result_of words n
  first_not n f k h said not before =
      sym
      (first_stop is_schedulable Schedulable refl (said_at words) k (all_in_time k before) (ap is_schedulable said ∙ not) n h ∙ said)

  -- and nothing else is
  pub result_given : (n : ℕ) (f : Found) → ResultRight words n f → f ≡ result_of words n
  result_given n (Refused r) d = absurd d
  result_given n Delayed d = absurd d
  result_given n Schedulable d = sym (all_in_time n d)
  result_given n (Late place) d = first_not n (Late place) place.0 d.0 (said_late (words place.0) place d.1) refl d.2
  result_given n (Open place) d = first_not n (Open place) place.0 d.0 (said_open (words place.0) place d.1) refl d.2

  -- its place is a task's
  pub result_place : (n : ℕ) → found_place (result_of words n) ≤ n
  result_place n = within (result_of words n) (result_right n)
    where
      within : (f : Found) → ResultRight words n f → found_place f ≤ n
      within (Refused r) d = absurd d
      within Delayed d = absurd d
      within Schedulable d = omega arith
      within (Late place) d = omega (arith, d.0)
      within (Open place) d = omega (arith, d.0)
