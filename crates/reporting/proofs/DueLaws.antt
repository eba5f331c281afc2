-- When a table at hand is whole: the bytes that have come, those that are due, and those that come now.
-- Assumes nothing.
use Prim.Native.Nat.{ℕ, ◌+◌, ◌≤◌, ◌<◌}
use native.Mathlib.Omega.{arith}
use native.Mathlib.Decide.{dec_le}
use mathlib.Core.Path.{◌≡◌, refl, sym, ◌∙◌}
use mathlib.Core.Logic.{inl, inr}
use mathlib.Core.List.{List, ◌++◌}
use lib.ListN.{length, length-append}
use Rattle.model.proofs.Tests.{ltb?}
use Rattle.tables.specs.Layout.{stated_length}
use Rattle.reporting.specs.Cutting.{Begins, Stated}
use Rattle.reporting.specs.Streaming.{due_of}
use Rattle.reporting.proofs.CuttingLaws.{stated_front}

due_head : (rest : List ℕ) → length rest < 5 → due_of rest ≡ 5
due_head rest h =
    elim (ltb? (length rest) 5) [
      | inl p ↦ rw p.0 refl
      | inr p ↦ absurd (omega (arith, h, p.1))
    ]

pub due_stated : (rest : List ℕ) → 5 ≤ length rest → due_of rest ≡ stated_length rest
due_stated rest h =
    elim (ltb? (length rest) 5) [
      | inl p ↦ absurd (omega (arith, h, p.1))
      | inr p ↦ rw p.0 refl
    ]

-- why no table stands at the beginning: its head has not come, it states too little, or it has not come whole
pub data Why (rest : List ℕ) : Type 0 where
  headless : length rest < 5 → due_of rest ≡ 5 → Why rest
  low : 5 ≤ length rest → stated_length rest < 5 → due_of rest ≡ stated_length rest → Why rest
  longer : 5 ≤ length rest → length rest < stated_length rest → due_of rest ≡ stated_length rest → Why rest

why : (rest : List ℕ) → ¬ Begins rest → Why rest
why rest n =
    elim (dec_le 5 (length rest)) [
      | no h ↦ headless (omega (arith, h)) (due_head rest (omega (arith, h)))
      | yes h ↦
          elim (dec_le 5 (stated_length rest)) [
            | no k ↦ low h (omega (arith, k)) (due_stated rest h)
            | yes k ↦
                elim (dec_le (stated_length rest) (length rest)) [
                  | yes l ↦ absurd (n record { head = h; low = k; inside = l })
                  | no l ↦ longer h (omega (arith, l)) (due_stated rest h)
                ]
          ]
    ]

-- A report that is closed: due is less than what has come.
pub closed_low : (rest : List ℕ) → ¬ Begins rest → due_of rest < length rest → (5 ≤ length rest) × (stated_length rest < 5)
closed_low rest n h = go (why rest n)
  where
    go : Why rest → (5 ≤ length rest) × (stated_length rest < 5)
    go (headless k d) = absurd (omega (arith, h, k, d))
    go (low k l d) = (k, l)
    go (longer k l d) = absurd (omega (arith, h, l, d))

module _ (left more : List ℕ) (n : ¬ Begins left) (fits : length left < due_of left → length left + length more ≤ due_of left) where
  long : length (left ++ more) ≡ length left + length more
  long = length-append left more

  stated : 5 ≤ length left → stated_length (left ++ more) ≡ stated_length left
  stated h = stated_front left more (omega (arith, h))

  -- where what is due has not just come, no table is whole, and as much is due
  pub pending : (length left + length more ≡ due_of left → ⊥) → (¬ Begins (left ++ more)) × (due_of left ≡ due_of (left ++ more))
  pending h = go (why left n)
    where
      go : Why left → (¬ Begins (left ++ more)) × (due_of left ≡ due_of (left ++ more))
      go (headless k d) =
          let few : length (left ++ more) < 5 = omega (arith, long, h, d, fits (omega (arith, k, d))) in
          ((λ b. omega (arith, b.head, few)), d ∙ sym (due_head (left ++ more) few))
      go (low k l d) = (
        (λ b. omega (arith, b.low, stated k, l)),
        d ∙ sym (stated k) ∙ sym (due_stated (left ++ more) (omega (arith, long, k))),
      )
      go (longer k l d) =
          let less = fits (omega (arith, l, d)) in (
            (λ b. omega (arith, b.inside, stated k, long, less, h, d)),
            d ∙ sym (stated k) ∙ sym (due_stated (left ++ more) (omega (arith, long, k))),
          )

  module _ (e : length left + length more ≡ due_of left) where
    pub head_come : 5 ≤ length (left ++ more)
    head_come = go (why left n)
      where
        go : Why left → 5 ≤ length (left ++ more)
        go (headless k d) = omega (arith, long, e, d)
        go (low k l d) = omega (arith, long, k)
        go (longer k l d) = omega (arith, long, k)

    -- what is due has come, and it is as much as is stated: the table is whole
    pub ended : stated_length (left ++ more) ≡ length left + length more → Stated (left ++ more)
    ended s = record { low = head_come; stated = s ∙ sym long }

    -- the head has come, and states another length
    pub headed : (stated_length (left ++ more) ≡ length left + length more → ⊥) →
        (¬ Begins (left ++ more)) × (stated_length (left ++ more) ≡ due_of (left ++ more))
    headed h = go (why left n)
      where
        go : Why left → (¬ Begins (left ++ more)) × (stated_length (left ++ more) ≡ due_of (left ++ more))
        go (headless k d) =
            ((λ b. omega (arith, b.low, b.inside, long, e, d, h)), sym (due_stated (left ++ more) head_come))
        go (low k l d) = absurd (omega (arith, e, d, k, l))
        go (longer k l d) = absurd (omega (arith, h, stated k, e, d))
