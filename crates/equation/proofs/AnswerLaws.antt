-- What the searches of the definitions find: the smallest solution and the answer.
-- Assumes nothing.
use Prim.Native.Nat.{ℕ, zero, suc, ◌+◌, ◌-◌, ◌≤◌, ◌<◌}
use native.Mathlib.Omega.{arith}
use native.Mathlib.Decide.{ℕ_discrete, dec_le}
use mathlib.Core.Path.{◌≡◌, refl, ◌∙◌, ap, subst}
use mathlib.Core.List.{List}
use borrow.Author.Tests.{eqb-true, eq-eqb, ne_eqb, lt-ltb, le-leb, lt-leb}
use Rattle.model.specs.Tables.{Load}
use Rattle.model.proofs.Search as search_laws
use Rattle.model.proofs.Tests.{clash}
use Rattle.equation.specs.Demand.{demand}
use Rattle.equation.specs.Answer.{solves, smallest, answer, answer_for}
use Rattle.equation.specs.Laws.{IsSmallest, SmallestMeans, AnswerMeans, SmallestExists, EnoughInTime, RaisedNotAbove}
use Rattle.equation.proofs.DemandLaws as demands

smallest_found : (base : ℕ) (loads : List Load) (limit : ℕ) →
    1 ≤ smallest base loads limit → IsSmallest base loads (smallest base loads limit)
smallest_found base loads limit p =
    let f = search_laws.found (solves base loads) 1 limit (omega arith) p in
    record {
      positive = p;
      solution = eqb-true _ _ f.passes;
      least = λ v one e.
          elim (dec_le (smallest base loads limit) v) [
            | yes h ↦ h
            | no h ↦ absurd (clash _ (eq-eqb _ _ e) (f.first v one (omega arith)))
          ];
    }

smallest_limited : (base : ℕ) (loads : List Load) (limit : ℕ) → smallest base loads limit ≤ limit
smallest_limited base loads limit =
    elim (dec_le 1 (smallest base loads limit)) [
      | yes p ↦ omega (arith, (search_laws.found (solves base loads) 1 limit (omega arith) p).high)
      | no p ↦ omega arith
    ]

smallest_complete : (base : ℕ) (loads : List Load) (limit w : ℕ) →
    IsSmallest base loads w → w ≤ limit → smallest base loads limit ≡ w
smallest_complete base loads limit w s h =
    search_laws.finds (solves base loads) 1 limit w
    (record {
      passes = eq-eqb _ _ s.solution;
      low = s.positive;
      high = omega arith;
      first = λ v one less. ne_eqb _ _ (λ (e : demand base loads v ≡ v). omega (arith, s.least v one e));
    })

pub smallest_means_law : SmallestMeans
smallest_means_law = record { found = smallest_found; limited = smallest_limited; complete = smallest_complete }

-- what the answer is, by the w that was found
pub answer_at : (late deadline w : ℕ) → 1 ≤ w → w + late ≤ deadline → answer_for late deadline w ≡ w + late
answer_at late deadline w p h = rw (lt-ltb 0 w p, le-leb (w + late) deadline h)

pub answer_late : (late deadline w : ℕ) → 1 ≤ w → deadline < w + late → answer_for late deadline w ≡ 0
answer_late late deadline w p h = rw (lt-ltb 0 w p, lt-leb (w + late) deadline h)

answer_answered : (base : ℕ) (loads : List Load) (late deadline w : ℕ) →
    IsSmallest base loads w → w + late ≤ deadline → answer base loads late deadline ≡ w + late
answer_answered base loads late deadline w s h =
    rw (smallest_complete base loads deadline w s (omega arith)) (answer_at late deadline w s.positive h)

answer_positive : (base : ℕ) (loads : List Load) (late deadline : ℕ) → 1 ≤ answer base loads late deadline →
    (w : ℕ) × IsSmallest base loads w × (w + late ≤ deadline) × (answer base loads late deadline ≡ w + late)
answer_positive base loads late deadline p =
    go (smallest base loads deadline) refl
  where
    go : (w : ℕ) → smallest base loads deadline ≡ w →
        (w : ℕ) × IsSmallest base loads w × (w + late ≤ deadline) × (answer base loads late deadline ≡ w + late)
    go zero e = absurd (omega (arith, ap (answer_for late deadline) e))
    go (suc w) e =
        elim (dec_le (suc w + late) deadline) [
          | yes h ↦ (
            suc w,
            subst (IsSmallest base loads) e (smallest_found base loads deadline (omega arith)),
            h,
            ap (answer_for late deadline) e ∙ answer_at late deadline (suc w) (omega arith) h,
          )
          | no h ↦
              absurd (omega (arith, ap (answer_for late deadline) e, answer_late late deadline (suc w) (omega arith) (omega arith)))
        ]

pub answer_means_law : AnswerMeans
answer_means_law = record { answered = answer_answered; positive = answer_positive }

-- If demand(w) ≤ w, then at demand(w) it is so again, and lower: a solution is met on the way down.
down : (base : ℕ) (loads : List Load) (fuel w : ℕ) → 1 ≤ base → 1 ≤ w → w ≤ fuel → demand base loads w ≤ w →
    (v : ℕ) × (1 ≤ v) × (demand base loads v ≡ v) × (v ≤ w)
down base loads zero w b p f h = absurd (omega arith)
down base loads (suc fuel) w b p f h =
    elim (ℕ_discrete (demand base loads w) w) [
      | yes e ↦ (w, p, e, omega arith)
      | no e ↦
          let v = demand base loads w in
          let d = down base loads fuel v b (omega (arith, demands.at_least_base_law base loads w)) (omega arith)
          (demands.monotone base loads v w h) in
          (d.0, d.1, d.2, omega (arith, d.3))
    ]

-- where some number solves the equation there is a smallest one
pub some_smallest : (base : ℕ) (loads : List Load) (w : ℕ) → 1 ≤ w → demand base loads w ≡ w →
    (v : ℕ) × IsSmallest base loads v × (v ≤ w)
some_smallest base loads w p e =
    elim (dec_le 1 (smallest base loads w)) [
      | yes q ↦ (smallest base loads w, smallest_found base loads w q, smallest_limited base loads w)
      | no q ↦
          absurd
          (clash _ (eq-eqb _ _ e) (search_laws.missed (solves base loads) 1 w (omega arith) (omega arith) w p (omega arith)))
    ]

pub smallest_exists_law : SmallestExists
smallest_exists_law base loads w b p h =
    let d = down base loads w w b p (omega arith) h in
    let s = some_smallest base loads d.0 d.1 d.2 in
    (s.0, s.1, omega (arith, s.2, d.3))

pub enough_in_time_law : EnoughInTime
enough_in_time_law base loads late deadline w b p h in_time =
    let s = smallest_exists_law base loads w b p h in
    let e = answer_answered base loads late deadline s.0 s.1 (omega (arith, s.2)) in
    (omega (arith, e, s.1.positive), omega (arith, e, s.2))

-- a demand with a raised base is raised by as much
raised_demand : (base : ℕ) (loads : List Load) (more w : ℕ) → demand (base + more) loads w ≡ demand base loads w + more
unfolding demand
raised_demand base loads more w = omega arith

-- What a solution of the raised equation has without the raise is enough for the equation itself, which so has a solution no later.
pub raised_not_above_law : RaisedNotAbove
raised_not_above_law base loads more w b s v one e =
    let raised = raised_demand base loads more v in
    let low = demands.at_least_base_law base loads v in
    let less = demands.monotone base loads (v - more) v (omega arith) in
    let found = smallest_exists_law base loads (v - more) b (omega (arith, raised, low)) (omega (arith, raised, less)) in
    omega (arith, raised, low, found.2, s.least found.0 found.1.positive found.1.solution)
