-- What is asked of the slices and numbers of one task, and what is found for it. These exist for the contracts of functions that know no
-- bytes and no table. What is to be believed is `longest` and `tried`.
-- Assumes nothing.
use Rattle.std.specs.Prelude.{ℕ, ◌+◌, ◌≤◌, ◌≡◌, List}
use Rattle.model.specs.Tables.{Load}
use Rattle.equation.specs.Laws.{NotAbove}
use Rattle.equation.specs.Slices.{loads, LoadsFit}
use Rattle.marks.specs.Marks.{raise, PeriodsHigh, Begun}
use Rattle.marks.specs.Invariant.{Right}
use Rattle.jobs.specs.Overlaps.{Studied, longest, tried}

abbrev pub studied : (blocking cost period deadline : ℕ) → List Load → Studied
studied blocking cost period deadline loads =
    record { blocking = blocking; cost = cost; period = period; deadline = deadline; loads = loads }

-- each number within its limit (SPECIFICATION 2.5)
pub record StudiedFits (s : Studied) : Type 0 where
  pub blocking_high : s.blocking ≤ 1000000
  pub cost_low : 1 ≤ s.cost
  pub cost_high : s.cost ≤ 1000000
  pub period_high : s.period ≤ 1000000
  pub deadline_high : s.deadline ≤ 1000000

-- What one task's word and number of q tried are.
pub record LongestBy (s : Studied) (word count : ℕ) : Type 0 where
  pub word_is : word ≡ longest s
  pub tried_is : count ≡ tried s

-- a task whose loads are those of the first `count` places of lent slices without its own
abbrev pub studied_from : (periods costs spreads : List ℕ) (own count blocking cost period deadline : ℕ) → Studied
studied_from periods costs spreads own count blocking cost period deadline =
    studied blocking cost period deadline (loads periods costs spreads own count)

-- What is asked before the first look at a task: one cost of every load, a mark that none of their first marks is below, nor the own one, and
-- that B + C and those costs are above no w(0).
pub record Beginnable (periods costs spreads : List ℕ) (own count : ℕ) (s : Studied) (others least : ℕ) : Type 0 where
  pub fit : LoadsFit periods costs spreads count
  pub numbers : StudiedFits s
  pub begun : Begun periods spreads count s.loads (s.cost + s.blocking) others (s.cost + s.blocking + others) least
  pub not_above : NotAbove (s.cost + s.blocking) s.loads (s.cost + s.blocking + others)
  pub least_own : least ≤ s.period + raise

-- What is asked before q = 0 is tried: `start` is above no w(0), it is the sum, and the marks are right for it.
pub record Searchable (periods costs spreads : List ℕ) (own count : ℕ) (s : Studied) (start ahead : ℕ) (marks : List ℕ) (least : ℕ) : Type 0 where
  pub fit : LoadsFit periods costs spreads count
  pub period_high : PeriodsHigh periods count
  pub numbers : StudiedFits s
  pub start_low : 1 ≤ start
  pub start_high : start ≤ 1000000000
  pub not_above : NotAbove (s.cost + s.blocking) s.loads start
  pub right : Right periods costs spreads own count (s.cost + s.blocking) start marks start least
  pub ahead_high : ahead ≤ 1000000
