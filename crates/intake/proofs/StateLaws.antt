-- What a store and its fill are fit for, and what one call leaves.
-- Assumes nothing.
use Rattle.std.specs.Prelude.{Ok, Err}
use Prim.Native.Nat.{ℕ, ◌+◌, ◌-◌, ◌≤◌, ◌<◌}
use native.Mathlib.Omega.{arith}
use mathlib.Core.Path.{◌≡◌, refl, sym, ◌∙◌, ap}
use mathlib.Core.Logic.{inl, inr}
use mathlib.Core.List.{List, ◌++◌}
use lib.ListN.{length, take, drop, length-take}
use lib.Seq.{length-take-le}
use borrow.Author.Tests.{lt-ltb, le-ltb}
use Rattle.model.proofs.Tests.{ltb?}
use Rattle.printing.specs.Appended.{Appended, bytes_after}
use Rattle.printing.proofs.AppendLaws.{in_part}
use Rattle.intake.specs.declared.Unusable.TheVariants.{ShortStore, WrongFill}
use Rattle.intake.specs.Intake.{Condition, Ended, held, condition_for, roomy, fill_after, Takes, NoSecondTake, NoSecondEnd, EdgesDrawn}

module _ (long fill : ℕ) where
  pub fit_short : long < 4590 → Err ShortStore ≡ condition_for long fill
  fit_short h = rw (lt-ltb long 4590 h) refl

  pub fit_wrong : 4590 ≤ long → 4590 < fill → Err WrongFill ≡ condition_for long fill
  fit_wrong h g = rw (le-ltb long 4590 h, lt-ltb 4590 fill g) refl

  pub fit_ready : 4590 ≤ long → fill ≤ 4590 → Ok tt ≡ condition_for long fill
  fit_ready h g = rw (le-ltb long 4590 h, le-ltb 4590 fill g) refl

  pub ready_means : Ok tt ≡ condition_for long fill → (4590 ≤ long) × (fill ≤ 4590)
  ready_means e =
      elim (ltb? long 4590) [
        | inl short ↦ absurd (let two : Ok tt ≡ Err ShortStore = e ∙ sym (fit_short short.1) in cc)
        | inr roomy ↦
            elim (ltb? 4590 fill) [
              | inl wrong ↦ absurd (let two : Ok tt ≡ Err WrongFill = e ∙ sym (fit_wrong roomy.1 wrong.1) in cc)
              | inr right ↦ (roomy.1, right.1)
            ]
      ]

-- a piece is taken
module _ (store : List ℕ) (fill : ℕ) {condition : Condition} (fit : condition ≡ condition_for (length store) fill)
    (ready : condition ≡ Ok tt) where
  is_ready_law : Ok tt ≡ condition_for (length store) fill
  is_ready_law = sym ready ∙ fit

  pub taken_within : fill ≤ 4590
  taken_within = (ready_means (length store) fill is_ready_law).1

  pub kept_within : fill ≤ length store
  kept_within = omega (arith, ready_means (length store) fill is_ready_law)

  pub store_long : 4590 ≤ length store
  store_long = (ready_means (length store) fill is_ready_law).0

  pub takes : {piece new : List ℕ} {end : ℕ} → Appended (take 4590 store) fill piece end new →
      Takes (held store fill) piece (Ok tt) (held (new ++ drop 4590 store) end)
  takes {piece} {new} {end} a =
      let stored : new ++ drop 4590 store ≡ bytes_after store fill (roomy (held store fill) piece) =
      ap (λ (xs : List ℕ). xs ++ drop 4590 store) a.new_is ∙ in_part 4590 store fill piece taken_within store_long in
      let filled : end ≡ fill + length (roomy (held store fill) piece) =
      omega (arith, a.end_is, length-take (4590 - fill) piece, length-take-le 4590 store store_long, taken_within) in
      record {
        condition_is = is_ready_law;
        state_is =
            rw (sym is_ready_law)
            (ap (λ (xs : List ℕ). held xs end) stored ∙ ap (held (bytes_after store fill (roomy (held store fill) piece))) filled);
      }

pub no_second_take : NoSecondTake
no_second_take state piece condition other left another a b = (a.condition_is ∙ sym b.condition_is, a.state_is ∙ sym b.state_is)

pub no_second_end : NoSecondEnd
no_second_end state answers rounds ended other fill other_fill answers_now answers_too rounds_now rounds_too a b =
    let same = a.answered.ended_is ∙ sym b.answered.ended_is in (
      same,
      a.fill_is ∙ ap (λ (e : Ended). fill_after e state.fill) same ∙ sym b.fill_is,
      a.answered.answers_are ∙ sym b.answered.answers_are,
      a.answered.rounds_are ∙ sym b.answered.rounds_are,
    )

pub edges_drawn : EdgesDrawn
edges_drawn = record { enough = refl; full = refl; longer = refl; short = refl; short_first = refl; wrong = refl; wrong_in_longer = refl }
