-- The marks of loads, for the contracts of the functions that the solver calls, and for the statements of Invariant.antt. No demand and no public
-- entry's contract speaks of them.
-- Assumes nothing.
use Rattle.std.specs.Prelude.{ℕ, zero, suc, ◌+◌, ◌-◌, ◌*◌, ◌≤◌, ◌<◌, min, ◌≡◌, List, length}
use Rattle.model.specs.Choice.{pick}
use Rattle.model.specs.Lists.{filled, sum_of, total, word_of}
use Rattle.model.specs.Tables.{Load, is_other}
use Rattle.equation.specs.Rounding.{ceil_div}
use Rattle.equation.specs.Laws.{cost_of}

-- what every mark is raised by: the greatest spread
abbrev pub raise : ℕ
raise = 1000000

-- a mark that no count of ticks passes: the greatest word
abbrev pub never : ℕ
never = 4294967295

-- the last w with w + spread ≤ period, raised: up to it a load begins one period
abbrev pub first_mark : (period spread : ℕ) → ℕ
first_mark period spread = period + (raise - spread)

abbrev pub first_mark_at : (periods spreads : List ℕ) → ℕ → ℕ
first_mark_at periods spreads k = first_mark (word_of periods k) (word_of spreads k)

-- the first marks for the task at place `own`, which is no load of its own
abbrev pub first_mark_for : (periods spreads : List ℕ) (own : ℕ) → ℕ → ℕ
first_mark_for periods spreads own k = pick (is_other own k) (first_mark_at periods spreads k) never

-- the least of a number and of f 0 to f (n − 1)
unfoldable pub least_from : ℕ → (ℕ → ℕ) → ℕ → ℕ
least_from high f zero = high
least_from high f (suc n) = min (least_from high f n) (f n)

-- how many periods a load begins between its mark and w: none where w has not passed it
abbrev pub begun_past : (w period mark : ℕ) → ℕ
begun_past w period mark = ceil_div (w - mark) period

-- where its mark then stands, and what it asks for
abbrev pub moved_mark : (w period mark : ℕ) → ℕ
moved_mark w period mark = mark + begun_past w period mark * period

abbrev pub moved_at : (periods marks : List ℕ) (w : ℕ) → ℕ → ℕ
moved_at periods marks w k = moved_mark w (word_of periods k) (word_of marks k)

abbrev pub more_at : (periods costs marks : List ℕ) (w : ℕ) → ℕ → ℕ
more_at periods costs marks w k = word_of costs k * begun_past w (word_of periods k) (word_of marks k)

-- no period is above its limit (SPECIFICATION 2.5), so that marks need no more than 32 bits
abbrev pub PeriodsHigh : List ℕ → ℕ → Type 0
PeriodsHigh periods n = (k : ℕ) → k < n → word_of periods k ≤ 1000000

-- the slices hold the periods and spreads of n loads within their limits
pub record Markable (periods spreads : List ℕ) (n : ℕ) : Type 0 where
  pub few : n ≤ 200
  pub periods_long : n ≤ length periods
  pub spreads_long : n ≤ length spreads
  pub period_high : PeriodsHigh periods n
  pub spread_high : (k : ℕ) → k < n → word_of spreads k ≤ 1000000

-- the first place from `from` on whose mark is below another mark
pub record NextBelow (marks : List ℕ) (least from found : ℕ) : Type 0 where
  pub low : from ≤ found
  pub below : word_of marks found < least
  pub first : (k : ℕ) → from ≤ k → k < found → least ≤ word_of marks k

-- and there is no second one
abbrev pub OnlyNext : Type 0
OnlyNext = (marks : List ℕ) (least from found other : ℕ) → NextBelow marks least from found → NextBelow marks least from other → found ≡ other

-- What is asked of the slices and numbers of one pass over `count` marks: within the limits, and 0 behind the last mark, which ends a search.
pub record Passable (periods costs marks : List ℕ) (count w ahead sum : ℕ) : Type 0 where
  pub few : count ≤ 200
  pub periods_long : count ≤ length periods
  pub costs_long : count ≤ length costs
  pub marks_long : count < length marks
  pub period_low : (k : ℕ) → k < count → 1 ≤ word_of periods k
  pub period_high : PeriodsHigh periods count
  pub cost_high : (k : ℕ) → k < count → word_of costs k ≤ 1000000
  pub end : word_of marks count ≡ 0
  pub w_low : 1 ≤ w
  pub w_high : w ≤ 1001000000
  pub ahead_high : ahead ≤ 1000000
  pub sum_high : sum ≤ 1000000000

-- What one pass leaves: every mark that w had passed is moved, and what its load asks for is added. The least mark is looked for up to `ahead`
-- ticks from w on.
pub record Passed (periods costs marks : List ℕ) (count w ahead sum : ℕ) (after : List ℕ) (new_sum new_least : ℕ) : Type 0 where
  pub marks_are : after ≡ filled (moved_at periods marks w) count marks
  pub sum_is : new_sum ≡ sum + total (more_at periods costs marks w) count
  pub least_is : new_least ≡ least_from (w + ahead) (moved_at periods marks w) count

-- The same, where a mark is known that none is below: nothing is passed, and nothing changes, where w is not above it.
pub record Advanced (periods costs marks : List ℕ) (count w ahead sum least : ℕ) (after : List ℕ) (new_sum new_least : ℕ) : Type 0 where
  pub stays : w ≤ least → (after ≡ marks) × (new_sum ≡ sum) × (new_least ≡ least)
  pub passes : least < w → Passed periods costs marks count w ahead sum after new_sum new_least

-- What the solver knows before its first round: one cost of every load, a mark that none of the first marks is below, and that in the start,
-- which is at least one tick, every load begins a period.
pub record Begun (periods spreads : List ℕ) (count : ℕ) (loads : List Load) (base others start least : ℕ) : Type 0 where
  pub period_high : PeriodsHigh periods count
  pub others_are : others ≡ sum_of cost_of loads
  pub once_high : base + others ≤ 1000000000
  pub start_low : 1 ≤ start
  pub least_high : least ≤ 2000000
  pub least_low : (k : ℕ) → k < count → least ≤ first_mark_at periods spreads k
