-- Why the marks and the running sum are right: one invariant, over any places of which some are loads, and so over any list of loads.
-- Assumes nothing.
use Rattle.std.specs.Prelude.{ℕ, ◌+◌, ◌-◌, ◌*◌, ◌≤◌, ◌<◌, ◌≡◌, Bool, true, false, List, length}
use Rattle.model.specs.Choice.{on}
use Rattle.model.specs.Lists.{gather, sum_of, total, word_of}
use Rattle.model.specs.Tables.{Load, is_other}
use Rattle.equation.specs.Rounding.{ceil_div}
use Rattle.equation.specs.Demand.{demand}
use Rattle.equation.specs.Laws.{cost_of}
use Rattle.equation.specs.Slices.{load_at}
use Rattle.marks.specs.Marks.{raise, never, first_mark, begun_past, moved_mark}

-- places, some of which are loads, and a base: the loads are `gather test load count`
pub record Places : Type 0 where
  pub test : ℕ → Bool
  pub load : ℕ → Load
  pub count : ℕ
  pub base : ℕ

-- the loads are within their limits (SPECIFICATION 2.5)
pub record InLimits (p : Places) : Type 0 where
  pub period_low : (k : ℕ) → k < p.count → 1 ≤ (p.load k).period
  pub spread_high : (k : ℕ) → k < p.count → (p.load k).spread ≤ raise

-- how many periods the load at a place begins in w ticks
abbrev pub begun_in : Places → ℕ → ℕ → ℕ
begun_in p w k = ceil_div (w + (p.load k).spread) (p.load k).period

-- what a place asks for whose load has begun so many periods
abbrev pub counted_at : Places → (ℕ → ℕ) → ℕ → ℕ
counted_at p counts k = on (p.test k) ((p.load k).cost * counts k)

-- Each load has begun some of the periods that it begins in w ticks, and no others; its mark is the last tick for which that number holds,
-- raised; and the sum is what the loads then ask for. A place that is no load has a mark that is never passed.
pub record Marked (p : Places) (w : ℕ) (mark : ℕ → ℕ) (sum : ℕ) : Type 0 where
  pub counts : ℕ → ℕ
  pub held : (k : ℕ) → k < p.count → p.test k ≡ true → mark k ≡ counts k * (p.load k).period + (raise - (p.load k).spread)
  pub not_beyond : (k : ℕ) → k < p.count → p.test k ≡ true → counts k ≤ begun_in p w k
  pub other : (k : ℕ) → k < p.count → p.test k ≡ false → mark k ≡ never
  pub summed : sum ≡ p.base + total (counted_at p counts) p.count

-- the places of lent slices: all but the own one are loads
abbrev pub places : (periods costs spreads : List ℕ) (own count base : ℕ) → Places
places periods costs spreads own count base =
    record { test = is_other own; load = load_at periods costs spreads; count = count; base = base }

-- Over lent slices, from round to round: the marks and the sum are right for x or for a tick before it, no mark is below the least, and a 0
-- stands behind them.
pub record Right (periods costs spreads : List ℕ) (own count base x : ℕ) (marks : List ℕ) (sum least : ℕ) : Type 0 where
  pub marked : Marked (places periods costs spreads own count base) x (word_of marks) sum
  pub under : (k : ℕ) → k < count → least ≤ word_of marks k
  pub end : word_of marks count ≡ 0
  pub room : count < length marks

-- the first marks, where each load has begun one period
pub record FirstMarks (p : Places) (mark : ℕ → ℕ) : Type 0 where
  pub loads : (k : ℕ) → k < p.count → p.test k ≡ true → mark k ≡ first_mark (p.load k).period (p.load k).spread
  pub others : (k : ℕ) → k < p.count → p.test k ≡ false → mark k ≡ never

-- w has passed no mark
abbrev pub NonePassed : Places → ℕ → (ℕ → ℕ) → Type 0
NonePassed p w mark = (k : ℕ) → k < p.count → w + raise ≤ mark k

-- what the load at a place asks for as w comes
abbrev pub asked_at : Places → ℕ → (ℕ → ℕ) → ℕ → ℕ
asked_at p w mark k = (p.load k).cost * begun_past (w + raise) (p.load k).period (mark k)

-- The first marks are right for every w of at least one tick; marks that are right for a w are right for a later one; a pass keeps them
-- right, and leaves none passed; and where w has passed none, the sum is demand(w).
pub record MarksRight : Type 0 where
  pub first : (p : Places) → InLimits p → (w : ℕ) (mark : ℕ → ℕ) → 1 ≤ w → FirstMarks p mark →
      Marked p w mark (p.base + sum_of cost_of (gather p.test p.load p.count))
  pub later : (p : Places) → (v w : ℕ) (mark : ℕ → ℕ) (sum : ℕ) → v ≤ w → Marked p v mark sum → Marked p w mark sum
  pub passed : (p : Places) → InLimits p → (w : ℕ) (mark new : ℕ → ℕ) (sum : ℕ) → w + raise ≤ never → Marked p w mark sum →
      ((k : ℕ) → k < p.count → new k ≡ moved_mark (w + raise) (p.load k).period (mark k)) →
      Marked p w new (sum + total (asked_at p w mark) p.count) × NonePassed p w new
  pub exact : (p : Places) → InLimits p → (w : ℕ) (mark : ℕ → ℕ) (sum : ℕ) → Marked p w mark sum → NonePassed p w mark →
      sum ≡ demand p.base (gather p.test p.load p.count) w

-- Marks need no more than 32 bits: within the limits a first mark is at most 2,000,000, and a mark that w has passed is moved to less than a
-- period past w.
pub record MarksFit : Type 0 where
  pub first : (period spread : ℕ) → period ≤ 1000000 → first_mark period spread ≤ 2000000
  pub moved : (w period mark : ℕ) → 1 ≤ period → mark < w → moved_mark w period mark < w + period
