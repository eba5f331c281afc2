-- The marks and the running sum are right, by the laws of specs/Invariant.antt: over any places.
-- Assumes nothing.
use Prim.Native.Nat.{ℕ, ◌+◌, ◌-◌, ◌*◌, ◌≤◌, ◌<◌}
use native.Mathlib.Omega.{arith}
use mathlib.Core.Path.{◌≡◌, refl, sym, ◌∙◌, ap}
use mathlib.Core.Bool.{true, false}
use mathlib.Core.Logic.{inl, inr}
use Rattle.model.specs.Choice.{on}
use Rattle.model.specs.Lists.{gather, sum_of, total}
use Rattle.model.proofs.Gather.{gather_sum}
use Rattle.model.proofs.Tests.{bool?}
use Rattle.model.proofs.Totals.{total_same, total_add}
use Rattle.equation.specs.Demand.{demand, share}
use Rattle.equation.specs.Laws.{cost_of}
use Rattle.equation.proofs.RoundingLaws as rounding
use Rattle.marks.specs.Marks.{raise, never, begun_past, moved_mark}
use Rattle.marks.specs.Invariant.{Places, InLimits, begun_in, counted_at, Marked, FirstMarks, NonePassed, asked_at, MarksRight, MarksFit}
use Rattle.marks.proofs.PassLaws.{begun_none, begun_high, moved_low}

-- later ticks begin no fewer periods
later : (p : Places) (v w : ℕ) (mark : ℕ → ℕ) (sum : ℕ) → v ≤ w → Marked p v mark sum → Marked p w mark sum
later p v w mark sum h m =
    record {
      counts = m.counts;
      held = m.held;
      not_beyond = λ k l t.
          omega (arith, m.not_beyond k l t, rounding.monotone (v + (p.load k).spread) (w + (p.load k).spread) (p.load k).period (omega arith));
      other = m.other;
      summed = m.summed;
    }

module _ (p : Places) (fits : InLimits p) where
  -- in at least one tick each load begins a period
  first : (w : ℕ) (mark : ℕ → ℕ) → 1 ≤ w → FirstMarks p mark →
      Marked p w mark (p.base + sum_of cost_of (gather p.test p.load p.count))
  first w mark one f =
      record {
        counts = λ k. 1;
        held = λ k h t. f.loads k h t ∙ omega arith;
        not_beyond = λ k h t. rounding.positive (w + (p.load k).spread) (p.load k).period (fits.period_low k h) (omega arith);
        other = f.others;
        summed =
            ap (λ (n : ℕ). p.base + n)
            (gather_sum p.test p.load cost_of p.count
            ∙ total_same (λ k. on (p.test k) (p.load k).cost) (counted_at p (λ k. 1)) p.count (λ k h. ap (on (p.test k)) (omega arith)));
      }

  -- where w has passed no mark, every load has begun all its periods
  all_begun : (w : ℕ) (mark : ℕ → ℕ) (sum : ℕ) (m : Marked p w mark sum) → NonePassed p w mark →
      (k : ℕ) → k < p.count → p.test k ≡ true → m.counts k ≡ begun_in p w k
  all_begun w mark sum m none k h t =
      omega (
        arith,
        m.not_beyond k h t,
        rounding.least (w + (p.load k).spread) (p.load k).period (m.counts k) (fits.period_low k h)
            (omega (arith, none k h, m.held k h t, fits.spread_high k h)),
      )

  exact : (w : ℕ) (mark : ℕ → ℕ) (sum : ℕ) → Marked p w mark sum → NonePassed p w mark →
      sum ≡ demand p.base (gather p.test p.load p.count) w
  unfolding demand
  exact w mark sum m none =
      m.summed
      ∙ ap (λ (n : ℕ). p.base + n)
      (total_same (counted_at p m.counts) (λ k. on (p.test k) (share w (p.load k))) p.count each
      ∙ sym (gather_sum p.test p.load (share w) p.count))
    where
      each : (k : ℕ) → k < p.count → counted_at p m.counts k ≡ on (p.test k) (share w (p.load k))
      each k h =
          elim (bool? (p.test k)) [
            | inl t ↦ rw t (ap (λ (n : ℕ). (p.load k).cost * n) (all_begun w mark sum m none k h t))
            | inr t ↦ rw t refl
          ]

  -- a pass begins what is still to begin
  module _ (w : ℕ) (mark new : ℕ → ℕ) (sum : ℕ) (far : w + raise ≤ never) (m : Marked p w mark sum)
      (moved : (k : ℕ) → k < p.count → new k ≡ moved_mark (w + raise) (p.load k).period (mark k)) where
    abbrev more : ℕ → ℕ
    more k = begun_past (w + raise) (p.load k).period (mark k)

    abbrev counted : ℕ → ℕ
    counted k = m.counts k + more k

    -- a place that is no load is not passed
    stays : (k : ℕ) → k < p.count → p.test k ≡ false → more k ≡ 0
    stays k h t = begun_none (w + raise) (p.load k).period (mark k) (fits.period_low k h) (omega (arith, m.other k h t))

    -- what w is past the mark is within the periods that are still to begin
    within : (k : ℕ) → k < p.count → p.test k ≡ true → w + raise - mark k ≤ (begun_in p w k - m.counts k) * (p.load k).period
    within k h t =
        let rest : begun_in p w k ≡ m.counts k + (begun_in p w k - m.counts k) = omega (arith, m.not_beyond k h t) in
        omega (
          arith,
          ap (λ (n : ℕ). n * (p.load k).period) rest,
          rounding.enough (w + (p.load k).spread) (p.load k).period (fits.period_low k h),
          m.held k h t,
          m.not_beyond k h t,
          fits.spread_high k h,
        )

    each : (k : ℕ) → k < p.count → counted_at p counted k ≡ counted_at p m.counts k + asked_at p w mark k
    each k h =
        elim (bool? (p.test k)) [
          | inl t ↦ rw t (omega arith)
          | inr t ↦ rw t (omega (arith, ap (λ (n : ℕ). (p.load k).cost * n) (stays k h t)))
        ]

    parts : total (counted_at p counted) p.count ≡ total (counted_at p m.counts) p.count + total (asked_at p w mark) p.count
    parts =
        total_same (counted_at p counted) (λ k. counted_at p m.counts k + asked_at p w mark k) p.count each
        ∙ total_add (counted_at p m.counts) (asked_at p w mark) p.count

    passed : Marked p w new (sum + total (asked_at p w mark) p.count) × NonePassed p w new
    passed = (
      record {
        counts = counted;
        held = λ k h t. omega (arith, moved k h, m.held k h t);
        not_beyond = λ k h t.
            omega (
              arith,
              rounding.least (w + raise - mark k) (p.load k).period (begun_in p w k - m.counts k) (fits.period_low k h) (within k h t),
              m.not_beyond k h t,
            );
        other = λ k h t. omega (arith, moved k h, m.other k h t, ap (λ (n : ℕ). n * (p.load k).period) (stays k h t));
        summed = omega (arith, m.summed, parts);
      },
      λ k h. omega (arith, moved k h, moved_low (w + raise) (p.load k).period (mark k) (fits.period_low k h)),
    )

pub marks_right : MarksRight
marks_right = record { first = first; later = later; passed = passed; exact = exact }

pub marks_fit : MarksFit
marks_fit =
    record {
      first = λ period spread h. omega arith;
      moved = λ w period mark low h. omega (arith, begun_high w period mark low);
    }
