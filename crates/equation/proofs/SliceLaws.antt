-- The sum over lent slices, one load after the other, and that it fits 64 bits within the limits.
-- Assumes nothing.
use Prim.Native.Nat.{ℕ, zero, suc, ◌+◌, ◌-◌, ◌*◌, ◌≤◌, ◌<◌, max}
use native.Mathlib.Omega.{arith}
use native.Mathlib.Numerals.{unary_clauses}
use native.Mathlib.Decide.{dec_le}
use native.Mathlib.Nat.{mul-le-mul, mul-le-mul_left, mul-one, le_refl}
use mathlib.Core.Path.{◌≡◌, sym, ◌∙◌, ap}
use mathlib.Core.List.{List}
use Rattle.model.specs.Lists.{total, sum_of}
use Rattle.model.specs.Tables.{Load, is_other}
use Rattle.model.proofs.Gather.{gather_all, gather_sum, sum_tabulate}
use Rattle.model.proofs.Loads.{other_is, total_other}
use Rattle.model.proofs.Totals.{total_none, total_more, total_same, total_add, total_high, total_longer}
use Rattle.equation.specs.Rounding.{ceil_div}
use Rattle.equation.specs.Demand.{demand, share}
use Rattle.equation.specs.Slices.{load, loads, load_at, more, more_at, LoadFits, LoadsFit}
use Rattle.equation.specs.Laws.{cost_of}
use Rattle.equation.proofs.RoundingLaws.{at_most, positive, least}

share_high : (w : ℕ) (l : Load) → LoadFits l → w ≤ 1000000000 → share w l ≤ 1001000000000000
share_high w l f h =
    let q : ceil_div (w + l.spread) l.period ≤ 1001000000 =
    omega (arith, at_most (w + l.spread) l.period f.period_low, f.spread_high) in
    mul-le-mul {n₁ = l.cost} {m₁ = ceil_div (w + l.spread) l.period} {n₂ = 1000000} {m₂ = 1001000000} f.cost_high q

-- beside its cost a load asks for as many costs as periods begin behind the first
module _ (period cost spread w sum : ℕ) (f : LoadFits (load period cost spread)) (low : 1 ≤ w) where
  -- where one period covers the ticks, for nothing
  pub more_none : w + spread ≤ period → sum ≡ sum + more w (load period cost spread)
  more_none h =
      let one : ceil_div (w + spread) period ≡ 1 =
      omega (arith, positive (w + spread) period f.period_low (omega arith), least (w + spread) period 1 f.period_low (omega arith)) in
      rw (one, mul-one cost) (omega arith)

  module _ (begun : ℕ) (is : begun ≡ ceil_div (w + spread) period) where
    pub begun_low : 1 ≤ begun
    begun_low = omega (arith, is, positive (w + spread) period f.period_low (omega arith))

    same_more : cost * (begun - 1) ≡ more w (load period cost spread)
    same_more = rw (sym is) (one_less cost begun)
      where
        one_less : (c b : ℕ) → c * (b - 1) ≡ c * b - c
        one_less c zero = simp unary_clauses (omega arith)
        one_less c (suc b) = simp unary_clauses (omega arith)

    pub more_is : sum + cost * (begun - 1) ≡ sum + more w (load period cost spread)
    more_is = omega (arith, same_more)

    pub more_fits : w ≤ 1000000000 → cost * (begun - 1) ≤ 1001000000000000
    more_fits h = omega (arith, same_more, share_high w (load period cost spread) f h)

-- one load after the other
module _ (periods costs spreads : List ℕ) (to w : ℕ) (fit : LoadsFit periods costs spreads to) (high : w ≤ 1000000000) where
  more_high : (k : ℕ) → k < to → more_at periods costs spreads w k ≤ 1001000000000000
  more_high k h = omega (arith, share_high w (load_at periods costs spreads k) (fit.each k h) high)

  -- all that is asked for fits 64 bits, and so does each part of it
  total_fits : total (more_at periods costs spreads w) to ≤ 200200000000000000
  total_fits = omega (arith, total_high (more_at periods costs spreads w) to 1001000000000000 more_high, fit.few)

  pub part_fits : (first end part : ℕ) → first ≤ 100000000000 → part ≡ first + (total (more_at periods costs spreads w) end - total (more_at periods costs spreads w) 0) →
      end ≤ to → part ≤ 1000000000000000000
  part_fits first end part small is h = omega (arith, is, total_longer (more_at periods costs spreads w) end to h, total_fits)

-- what is known once the loads of the places from `from` on and before k are added to a sum
pub record Summing (periods costs spreads : List ℕ) (first from to w k sum : ℕ) : Type 0 where
  pub fit : LoadsFit periods costs spreads to
  pub low : 1 ≤ w
  pub high : w ≤ 1000000000
  pub first_high : first ≤ 1000000000000000000
  pub begun : from ≤ k
  pub within : k ≤ max from to
  pub sums : sum + total (more_at periods costs spreads w) from ≡ first + total (more_at periods costs spreads w) k

module _ (periods costs spreads : List ℕ) (first from to w : ℕ) where
  pub summing_none : LoadsFit periods costs spreads to → 1 ≤ w → w ≤ 1000000000 → first ≤ 1000000000000000000 →
      Summing periods costs spreads first from to w from first
  summing_none f low high first_high =
      record { fit = f; low = low; high = high; first_high = first_high; begun = le_refl from; within = omega arith; sums = omega arith }

  module _ (k sum next : ℕ) (s : Summing periods costs spreads first from to w k sum) where
    pub sum_high : k < to → sum ≤ 10000000000000000000
    sum_high h =
        omega (
          arith,
          s.sums,
          s.first_high,
          total_longer (more_at periods costs spreads w) k to (omega arith),
          total_fits periods costs spreads to w s.fit s.high,
        )

    pub summing_more : k < to → next ≡ sum + more_at periods costs spreads w k → Summing periods costs spreads first from to w (k + 1) next
    summing_more h is =
        record {
          fit = s.fit;
          low = s.low;
          high = s.high;
          first_high = s.first_high;
          begun = omega (arith, s.begun);
          within = omega arith;
          sums = omega (arith, is, s.sums, total_more (more_at periods costs spreads w) k);
        }

  pub summed_all : (k sum : ℕ) → Summing periods costs spreads first from to w k sum → to ≤ k →
      sum ≡ first + (total (more_at periods costs spreads w) to - total (more_at periods costs spreads w) from)
  summed_all k sum s h =
      let sums = total (more_at periods costs spreads w) in
      elim (dec_le from to) [
        | yes some ↦
            let all : k ≡ to = omega (arith, s.within) in
            omega (arith, s.sums, ap sums all, total_longer (more_at periods costs spreads w) from to some)
        | no none ↦
            let same : k ≡ from = omega (arith, s.within, s.begun) in
            omega (arith, s.sums, ap sums same, total_longer (more_at periods costs spreads w) to from (omega arith))
      ]

-- the slices hold fewer loads too
pub loads_less : {periods costs spreads : List ℕ} {n k : ℕ} → LoadsFit periods costs spreads n → k ≤ n → LoadsFit periods costs spreads k
loads_less f h =
    record {
      few = omega (arith, f.few);
      periods_long = omega (arith, f.periods_long);
      costs_long = omega (arith, f.costs_long);
      spreads_long = omega (arith, f.spreads_long);
      each = λ j l. f.each j (omega arith);
    }

-- the demand is one cost of each load, and what they ask for besides, without the own place: where it is not one of them, and where it is
module _ {periods costs spreads : List ℕ} {count : ℕ} (fit : LoadsFit periods costs spreads count) (base w own others : ℕ) (low : 1 ≤ w)
    (high : w ≤ 1000000000) (once : others ≡ sum_of cost_of (loads periods costs spreads own count)) where
  abbrev load_on : ℕ → Load
  load_on = load_at periods costs spreads

  abbrev more_on : ℕ → ℕ
  more_on = more_at periods costs spreads w

  abbrev cost_on : ℕ → ℕ
  cost_on k = cost_of (load_on k)

  abbrev share_on : ℕ → ℕ
  share_on k = share w (load_on k)

  -- a share is its cost and what is more
  share_parts : (k : ℕ) → k < count → share_on k ≡ more_on k + cost_on k
  share_parts k h =
      let l = load_on k in
      omega (arith, mul-le-mul_left l.cost (positive (w + l.spread) l.period (fit.each k h).period_low (omega arith)), mul-one l.cost)

  all_parts : total share_on count ≡ total more_on count + total cost_on count
  all_parts = total_same share_on (λ k. more_on k + cost_on k) count share_parts ∙ total_add more_on cost_on count

  demand_alone : own ≡ count → (all : ℕ) → all ≡ base + others + (total more_on own - total more_on 0) →
      all ≡ demand base (loads periods costs spreads own count) w
  unfolding demand
  demand_alone last all is =
      let same = gather_all (is_other own) load_on count (λ k l. other_is own k (omega arith)) in
      omega (
        arith,
        is,
        once,
        ap (total more_on) last,
        total_none more_on,
        ap (sum_of cost_of) same,
        ap (sum_of (share w)) same,
        sum_tabulate cost_of load_on count,
        sum_tabulate (share w) load_on count,
        all_parts,
      )

  demand_around : own < count → (before all : ℕ) → before ≡ base + others + (total more_on own - total more_on 0) →
      all ≡ before + (total more_on count - total more_on (own + 1)) → all ≡ demand base (loads periods costs spreads own count) w
  unfolding demand
  demand_around h before all first second =
      omega (
        arith,
        first,
        second,
        once,
        total_none more_on,
        total_more more_on own,
        total_longer more_on (own + 1) count (omega arith),
        gather_sum (is_other own) load_on cost_of count,
        gather_sum (is_other own) load_on (share w) count,
        total_other cost_on own count h,
        total_other share_on own count h,
        share_parts own h,
        all_parts,
      )

  pub demand_parts : own ≤ count → (before all : ℕ) → before ≡ base + others + (total more_on own - total more_on 0) →
      all ≡ before + (total more_on count - total more_on (own + 1)) → all ≡ demand base (loads periods costs spreads own count) w
  demand_parts h before all first second =
      elim (dec_le count own) [
        | yes last ↦
            let same : own ≡ count = omega arith in
            demand_alone same all (omega (arith, first, second, total_longer more_on count (own + 1) (omega arith)))
        | no more ↦ demand_around (omega arith) before all first second
      ]
