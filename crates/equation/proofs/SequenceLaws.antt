-- The sequence x0, x1, .. rises to the smallest solution, and its rounds are bounded: for any list of loads and any start that is
-- above no solution.
-- Assumes nothing.
use Prim.Native.Nat.{ℕ, zero, suc, ◌+◌, ◌-◌, ◌≤◌, ◌<◌, min}
use native.Mathlib.Omega.{arith}
use native.Mathlib.Decide.{ℕ_discrete, dec_le}
use mathlib.Core.Path.{◌≡◌, subst}
use mathlib.Core.Bool.{true, false}
use mathlib.Core.List.{List}
use lib.Dec.{eqb}
use borrow.Author.Tests.{eqb-false, lt-ltb, ltb-false}
use Rattle.model.specs.Lists.{sum_of}
use Rattle.model.specs.Tables.{Load}
use Rattle.model.proofs.Search as search_laws
use Rattle.model.proofs.Tests.{not_either, either_right}
use Rattle.equation.specs.Demand.{demand}
use Rattle.equation.specs.Sequence.{term, stops, rounds}
use Rattle.equation.specs.Laws.{IsSmallest, NotAbove, SequenceReaches, ThreeStarts, cost_of, RoundsMean, RoundsBound}
use Rattle.equation.proofs.DemandLaws as demands
use Rattle.equation.proofs.AnswerLaws.{smallest_exists_law}

module _ (base : ℕ) (loads : List Load) where
  pub passes_none_law : (start w k : ℕ) → start ≤ w → demand base loads w ≡ w → term base loads start k ≤ w
  unfolding term
  passes_none_law start w zero h e = h
  passes_none_law start w (suc k) h e =
      omega (arith, demands.monotone base loads (term base loads start k) w (passes_none_law start w k h e))

  -- a start that is above no solution is not above its own demand
  pub start_rises : (start : ℕ) → 1 ≤ base → NotAbove base loads start → start ≤ demand base loads start
  start_rises start b above =
      elim (dec_le start (demand base loads start)) [
        | yes h ↦ h
        | no h ↦
            let v = demand base loads start in
            let s = smallest_exists_law base loads v b (omega (arith, demands.at_least_base_law base loads start))
            (demands.monotone base loads v start (omega arith)) in
            absurd (omega (arith, s.2, above s.0 s.1.positive s.1.solution))
      ]

  pub never_falls : (start k : ℕ) → start ≤ demand base loads start → term base loads start k ≤ term base loads start (suc k)
  unfolding term
  never_falls start zero h = h
  never_falls start (suc k) h =
      demands.monotone base loads (term base loads start k) (demand base loads (term base loads start k)) (never_falls start k h)

  rises : (start k : ℕ) → 1 ≤ base → NotAbove base loads start →
      (term base loads start (suc k) ≡ term base loads start k → ⊥) → term base loads start k < term base loads start (suc k)
  rises start k b above differs = omega (arith, never_falls start k (start_rises start b above))

  below_smallest : {w : ℕ} (start : ℕ) → start ≤ w → IsSmallest base loads w → NotAbove base loads start
  below_smallest start h s v one e = omega (arith, s.least v one e)

  -- short of the smallest solution each step gains at least one
  gains : (start w k : ℕ) → 1 ≤ base → start ≤ w → IsSmallest base loads w → min w (start + k) ≤ term base loads start k
  unfolding term
  gains start w zero b h s = omega arith
  gains start w (suc k) b h s =
      elim (ℕ_discrete (demand base loads (term base loads start k)) (term base loads start k)) [
        | yes e ↦
            omega (
              arith,
              s.least (term base loads start k) (omega (arith, demands.at_least_base_law base loads (term base loads start k))) e,
            )
        | no e ↦ omega (arith, gains start w k b h s, rises start k b (below_smallest start h s) e)
      ]

  reaches : (start w : ℕ) → 1 ≤ base → start ≤ w → IsSmallest base loads w → term base loads start (w - start) ≡ w
  reaches start w b h s = omega (arith, gains start w (w - start) b h s, passes_none_law start w (w - start) h s.solution)

pub sequence_reaches_law : SequenceReaches
sequence_reaches_law = record { passes_none = passes_none_law; rises = rises; reaches = reaches }

pub three_starts_law : ThreeStarts
unfolding demand
three_starts_law base loads w b periods s =
    let low = demands.costs_once loads w s.positive periods in (
      reaches base loads 0 w b (omega arith) s,
      reaches base loads base w b (omega (arith, s.solution)) s,
      reaches base loads (base + sum_of cost_of loads) w b (omega (arith, s.solution)) s,
    )

module _ (base : ℕ) (loads : List Load) (start late deadline : ℕ) where
  -- a k that does not stop the sequence has another x than the k before, within the deadline
  on_at : (k : ℕ) → stops base loads start late deadline k ≡ false →
      (term base loads start k ≡ term base loads start (k - 1) → ⊥) × (term base loads start k + late ≤ deadline)
  on_at k p =
      let n = not_either _ _ p in
      (eqb-false _ _ n.0, ltb-false _ _ n.1)

  -- as long as it does not stop it has risen by one each time
  pub climbs : (n : ℕ) → 1 ≤ base → NotAbove base loads start →
      ((v : ℕ) → 1 ≤ v → v ≤ n → stops base loads start late deadline v ≡ false) → start + n ≤ term base loads start n
  unfolding term
  climbs zero b above on = omega arith
  climbs (suc n) b above on =
      let e : suc n - 1 ≡ n = omega arith in
      let now = subst (λ (m : ℕ). term base loads start (suc n) ≡ term base loads start m → ⊥) e (on_at (suc n) (on (suc n) (omega arith) (omega arith))).0 in
      omega (
        arith,
        climbs n b above (λ v l h. on v l (omega arith)),
        rises base loads start n b above now,
      )

  rounds_positive : 1 ≤ base → NotAbove base loads start → 1 ≤ rounds base loads start late deadline
  rounds_positive b above =
      elim (dec_le 1 (rounds base loads start late deadline)) [
        | yes h ↦ h
        | no h ↦
            let on = search_laws.missed (stops base loads start late deadline) 1 (deadline + 1) (omega arith) (omega arith) in
            absurd
            (omega (
              arith,
              climbs (deadline + 1) b above (λ v l m. on v l (omega arith)),
              (on_at (deadline + 1) (on (deadline + 1) (omega arith) (omega arith))).1,
            ))
      ]

  rounds_first : (k : ℕ) → 1 ≤ k → k < rounds base loads start late deadline → stops base loads start late deadline k ≡ false
  rounds_first k one h =
      (search_laws.found (stops base loads start late deadline) 1 (deadline + 1) (omega arith) (omega arith)).first k one h

  rounds_stop : 1 ≤ base → NotAbove base loads start →
      stops base loads start late deadline (rounds base loads start late deadline) ≡ true
  rounds_stop b above =
      (search_laws.found (stops base loads start late deadline) 1 (deadline + 1) (omega arith) (rounds_positive b above)).passes

  rounds_within : 1 ≤ base → NotAbove base loads start → start + late ≤ deadline →
      rounds base loads start late deadline ≤ deadline - late - start + 1
  rounds_within b above h =
      let k = rounds base loads start late deadline - 1 in
      elim (dec_le 1 k) [
        | yes p ↦
            omega (
              arith,
              climbs k b above (λ v l m. rounds_first v l (omega arith)),
              (on_at k (rounds_first k p (omega arith))).1,
            )
        | no p ↦ omega arith
      ]

  -- a start that is late stops the sequence at once
  stops_at_once : 1 ≤ base → NotAbove base loads start → deadline < start + late → stops base loads start late deadline 1 ≡ true
  unfolding term
  stops_at_once b above h =
      either_right (eqb (term base loads start 1) (term base loads start 0)) _
      (lt-ltb deadline (term base loads start 1 + late) (omega (arith, start_rises base loads start b above)))

  rounds_otherwise : 1 ≤ base → NotAbove base loads start → deadline < start + late → rounds base loads start late deadline ≡ 1
  rounds_otherwise b above h =
      search_laws.finds (stops base loads start late deadline) 1 (deadline + 1) 1
      (record
      { passes = stops_at_once b above h; low = omega arith; high = omega arith; first = λ v l m. absurd (omega arith) })

pub rounds_mean_law : RoundsMean
rounds_mean_law = record { stop = rounds_stop; first = rounds_first }

pub rounds_bound_law : RoundsBound
rounds_bound_law = record { positive = rounds_positive; within = rounds_within; otherwise = rounds_otherwise }
