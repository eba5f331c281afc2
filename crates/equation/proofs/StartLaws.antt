-- Every start that is above no solution gives the answer, and a later one takes no more rounds than an earlier one: for any list of
-- loads.
-- Assumes nothing.
use Prim.Native.Nat.{ℕ, zero, suc, ◌+◌, ◌-◌, ◌≤◌, ◌<◌}
use native.Mathlib.Omega.{arith}
use native.Mathlib.Decide.{dec_le}
use native.Mathlib.Nat.{zero-add, suc-add}
use mathlib.Core.Path.{◌≡◌, refl, sym, ◌∙◌, ap}
use mathlib.Core.Logic.{◌⊎◌, inl, inr}
use mathlib.Core.Bool.{Bool}
use mathlib.Core.List.{List}
use lib.ListN.{get_or}
use lib.Dec.{eqb}
use borrow.Author.Tests.{eqb-true, eqb-false, ltb-true, ltb-false}
use Rattle.model.specs.Lists.{sum_of, gather, total, word_of}
use Rattle.model.specs.Search.{first_from}
use Rattle.model.specs.Tables.{Load, is_other}
use Rattle.model.proofs.Gather.{gather_each, gather_sum}
use Rattle.model.proofs.Loads.{total_other}
use Rattle.model.proofs.Tests.{bool?, not_either, either_true}
use Rattle.equation.specs.declared.Start.{Start}
use Rattle.equation.specs.declared.Start.TheVariants.{EveryCost, OwnCost}
use Rattle.equation.specs.Demand.{demand}
use Rattle.equation.specs.Answer.{answer}
use Rattle.equation.specs.Sequence.{term, rounds}
use Rattle.equation.specs.Slices.{load_at}
use Rattle.equation.specs.Laws.{IsSmallest, NotAbove, cost_of, no_load}
use Rattle.equation.specs.Starts.{start_from, PeriodsLow, answer_from, AnyStart, BothStarts, BoundReached}
use Rattle.equation.proofs.DemandLaws as demands
use Rattle.equation.proofs.AnswerLaws.{answer_at, answer_late}
use Rattle.equation.proofs.Laws.{answer_means, sequence_reaches, rounds_mean, rounds_bound}

module _ (base : ℕ) (loads : List Load) (b : 1 ≤ base) where
  -- every x behind the start is at least base
  later_positive : (start k : ℕ) → 1 ≤ k → 1 ≤ term base loads start k
  unfolding term
  later_positive start zero h = absurd (omega arith)
  later_positive start (suc k) h = omega (arith, demands.at_least_base_law base loads (term base loads start k))

  -- an x that solves the equation is the smallest that does
  pub solution_smallest : (start k : ℕ) → NotAbove base loads start → demand base loads (term base loads start k) ≡ term base loads start k →
      IsSmallest base loads (term base loads start k)
  solution_smallest start k above e =
      record {
        positive = omega (arith, demands.at_least_base_law base loads (term base loads start k));
        solution = e;
        least = λ v one s. sequence_reaches.passes_none base loads start v k (above v one s) s;
      }

  -- and so is an x that is the one before
  equal_smallest : (start k : ℕ) → NotAbove base loads start → 1 ≤ k → term base loads start k ≡ term base loads start (k - 1) →
      IsSmallest base loads (term base loads start k)
  unfolding term
  equal_smallest start zero above one e = absurd (omega arith)
  equal_smallest start (suc k) above one e =
      let less : suc k - 1 ≡ k = omega arith in
      solution_smallest start (suc k) above (ap (demand base loads) (e ∙ ap (term base loads start) less))

  -- an x that is late leaves every solution late
  pub all_late : (start late deadline k : ℕ) → NotAbove base loads start → deadline < term base loads start k + late →
      answer base loads late deadline ≡ 0
  all_late start late deadline k above h =
      elim (dec_le 1 (answer base loads late deadline)) [
        | yes p ↦
            let s = answer_means.positive base loads late deadline p in
            absurd
            (omega (
              arith,
              s.2,
              sequence_reaches.passes_none base loads start s.0 k
                  (above s.0 s.1.positive s.1.solution) s.1.solution,
            ))
        | no p ↦ omega arith
      ]

  -- a sequence that another is not behind at its start stays so
  terms_above : (start other shift : ℕ) → start ≤ term base loads other shift → (k : ℕ) →
      term base loads start k ≤ term base loads other (k + shift)
  unfolding term
  terms_above start other shift h zero = rw (zero-add shift) h
  terms_above start other shift h (suc k) =
      rw (suc-add k shift)
      (demands.monotone base loads (term base loads start k) (term base loads other (k + shift)) (terms_above start other shift h k))

  -- the rounds before the last, said without tests
  pub earlier_goes_on : (start late deadline k : ℕ) → 1 ≤ k → k < rounds base loads start late deadline →
      (¬ (term base loads start k ≡ term base loads start (k - 1))) × (term base loads start k + late ≤ deadline)
  earlier_goes_on start late deadline k low high =
      let n = not_either (eqb (term base loads start k) (term base loads start (k - 1))) _
      (rounds_mean.first base loads start late deadline k low high) in
      (eqb-false _ _ n.0, ltb-false _ _ n.1)

  module _ (start late deadline : ℕ) (above : NotAbove base loads start) where
    -- the last round, said without tests
    pub last_stops : (term base loads start (rounds base loads start late deadline) ≡ term base loads start (rounds base loads start late deadline - 1))
        ⊎ (deadline < term base loads start (rounds base loads start late deadline) + late)
    last_stops =
        let k = rounds base loads start late deadline in
        elim (bool? (eqb (term base loads start k) (term base loads start (k - 1)))) [
          | inl y ↦ inl (eqb-true _ _ y)
          | inr n ↦
              inr
              (ltb-true _ _
              (either_true (eqb (term base loads start k) (term base loads start (k - 1))) _
              (rounds_mean.stop base loads start late deadline b above) n))
        ]

    -- what the sequence stops at is the smallest solution, or late
    answer_from_law : answer_from base loads start late deadline ≡ answer base loads late deadline
    answer_from_law =
        let k = rounds base loads start late deadline in
        let one = rounds_bound.positive base loads start late deadline b above in
        let x = later_positive start k one in
        elim (dec_le (term base loads start k + late) deadline) [
          | yes h ↦
              elim last_stops [
                | inl e ↦
                    answer_at late deadline (term base loads start k) x h
                    ∙ sym (answer_means.answered base loads late deadline (term base loads start k) (equal_smallest start k above one e) h)
                | inr l ↦ absurd (omega arith)
              ]
          | no h ↦
              answer_late late deadline (term base loads start k) x (omega arith)
              ∙ sym (all_late start late deadline k above (omega arith))
        ]

    -- Where another sequence has come as far `shift` rounds on, it has stopped by then: it is late where this one is, and at the
    -- solution where this one is.
    catches_up : (other shift : ℕ) → NotAbove base loads other →
        ((k : ℕ) → term base loads start k ≤ term base loads other (k + shift)) →
        rounds base loads other late deadline ≤ rounds base loads start late deadline + shift
    catches_up other shift above_other far =
        elim (dec_le (rounds base loads other late deadline) (rounds base loads start late deadline + shift)) [
          | yes p ↦ p
          | no p ↦ absurd (longer p)
        ]
      where
        longer : ¬ (rounds base loads other late deadline ≤ rounds base loads start late deadline + shift) → ⊥
        longer p =
            let k = rounds base loads start late deadline in
            let one = rounds_bound.positive base loads start late deadline b above in
            let on = earlier_goes_on other late deadline (k + shift) (omega arith) (omega arith) in
            elim last_stops [
              | inl e ↦
                  let s = equal_smallest start k above one e in
                  let w = term base loads start k in
                  let low = above_other w s.positive s.solution in
                  let before : k - 1 + shift ≡ k + shift - 1 = omega arith in
                  on.0
                  (omega (
                    arith,
                    e,
                    far k,
                    far (k - 1),
                    ap (term base loads other) before,
                    sequence_reaches.passes_none base loads other w (k + shift) low s.solution,
                    sequence_reaches.passes_none base loads other w (k + shift - 1) low s.solution,
                  ))
              | inr l ↦ omega (arith, l, on.1, far k)
            ]

later_fewer : (base : ℕ) (loads : List Load) (start later late deadline : ℕ) → 1 ≤ base → NotAbove base loads start → NotAbove base loads later →
    start ≤ later → rounds base loads later late deadline ≤ rounds base loads start late deadline
unfolding term
later_fewer base loads start later late deadline b above above_later h =
    omega (arith, catches_up base loads b start late deadline above later 0 above_later (terms_above base loads b start later 0 h))

earlier_one_more : (base : ℕ) (loads : List Load) (start later late deadline : ℕ) → 1 ≤ base → NotAbove base loads start →
    NotAbove base loads later → later ≤ demand base loads start → rounds base loads start late deadline ≤ rounds base loads later late deadline + 1
unfolding term
earlier_one_more base loads start later late deadline b above above_later h =
    catches_up base loads b later late deadline above_later start 1 above (terms_above base loads b later start 1 h)

pub any_start : AnyStart
any_start =
    record {
      answers = λ base loads start late deadline b above. answer_from_law base loads b start late deadline above;
      fewer = later_fewer;
      one_more = earlier_one_more;
    }

-- a solution holds base and one cost of every load
not_above_law : (start : Start) (base : ℕ) (loads : List Load) → PeriodsLow loads → NotAbove base loads (start_from start base loads)
unfolding demand
not_above_law EveryCost base loads periods w one e = omega (arith, e, demands.costs_once loads w one periods)
not_above_law OwnCost base loads periods w one e = omega (arith, demands.at_least_base_law base loads w)

-- one round from the old start asks for the default's start at least
first_round : (base : ℕ) (loads : List Load) → 1 ≤ base → PeriodsLow loads → start_from EveryCost base loads ≤ demand base loads base
unfolding demand
first_round base loads b periods = omega (arith, demands.costs_once loads base b periods)

pub both_starts : BothStarts
both_starts =
    record {
      not_above = not_above_law;
      answers = λ start base loads late deadline b periods.
          any_start.answers base loads (start_from start base loads) late deadline b (not_above_law start base loads periods);
      fewer = λ base loads late deadline b periods.
          any_start.fewer base loads (start_from OwnCost base loads) (start_from EveryCost base loads) late deadline b
          (not_above_law OwnCost base loads periods) (not_above_law EveryCost base loads periods) (omega arith);
      one_more = λ base loads late deadline b periods.
          any_start.one_more base loads (start_from OwnCost base loads) (start_from EveryCost base loads) late deadline b
          (not_above_law OwnCost base loads periods) (not_above_law EveryCost base loads periods) (first_round base loads b periods);
    }

pub bound_reached : BoundReached
unfolding first_from term demand sum_of
bound_reached EveryCost = refl
bound_reached OwnCost = refl

-- loads gathered from places have periods where each place has one
pub periods_low : (test : ℕ → Bool) (load : ℕ → Load) (n : ℕ) → ((k : ℕ) → k < n → 1 ≤ (load k).period) → PeriodsLow (gather test load n)
periods_low test load n each = gather_each test load (λ l. 1 ≤ l.period) no_load n each

-- one cost of each load, and the own cost, are the costs of all places
pub costs_others : (periods costs spreads : List ℕ) (own end : ℕ) → own < end →
    sum_of cost_of (gather (is_other own) (load_at periods costs spreads) end) + get_or costs own 0 ≡ total (word_of costs) end
costs_others periods costs spreads own end h =
    ap (λ (n : ℕ). n + get_or costs own 0) (gather_sum (is_other own) (load_at periods costs spreads) cost_of end)
    ∙ total_other (word_of costs) own end h
