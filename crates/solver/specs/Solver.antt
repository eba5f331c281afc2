-- What the solver asks of its numbers, and what it gives.
-- Assumes nothing.
use Rattle.std.specs.Prelude.{ℕ, ◌+◌, ◌≤◌, ◌≡◌, Bool, true, false, List, eqb, Option, Some, None}
use Rattle.model.specs.Choice.{pick}
use Rattle.model.specs.Tables.{Load}
use Rattle.model.specs.declared.Ticks.{Ticks}
use Rattle.equation.specs.Answer.{answer}
use Rattle.equation.specs.Sequence as sequence
use Rattle.equation.specs.Laws.{NotAbove}
use Rattle.equation.specs.Slices.{loads, LoadsFit}
use Rattle.marks.specs.Marks.{PeriodsHigh}
use Rattle.marks.specs.Invariant.{Right}

-- late, where there are no ticks; and those that there are, 0 where there are none
abbrev pub is_late : Option Ticks → Bool
is_late None = true
is_late (Some ticks) = false

abbrev pub ticks_of : Option Ticks → ℕ
ticks_of None = 0
ticks_of (Some ticks) = ticks.0

-- A start that is above no solution, and numbers within limits that those of a table keep (SPECIFICATION 2.5), the deadline also where 63 periods
-- are added to it (SPECIFICATION 13.8; document 02, L8).
pub record Solvable (base : ℕ) (loads : List Load) (start late deadline : ℕ) : Type 0 where
  pub base_positive : 1 ≤ base
  pub not_above : NotAbove base loads start
  pub start_high : start ≤ 1000000000
  pub late_high : late ≤ 1000000
  pub deadline_high : deadline ≤ 100000000

-- the response is the definition's answer, it is late where that is 0, and the rounds are those of the written sequence
pub record SolvedBy (base : ℕ) (loads : List Load) (start late deadline : ℕ) (too_late : Bool) (given spent : ℕ) : Type 0 where
  pub late_is : too_late ≡ eqb given 0
  pub response : given ≡ answer base loads late deadline
  pub rounds : spent ≡ sequence.rounds base loads start late deadline

-- what is asked of the slices and numbers from which a sequence is followed
pub record Followable (periods costs spreads : List ℕ) (own count base start late deadline ahead : ℕ) (marks : List ℕ) (sum least : ℕ) : Type 0 where
  pub fit : LoadsFit periods costs spreads count
  pub asked : Solvable base (loads periods costs spreads own count) start late deadline
  pub in_time : start + late ≤ deadline
  pub right : Right periods costs spreads own count base start marks sum least
  pub sum_high : sum ≤ 1000000000
  pub period_high : PeriodsHigh periods count
  pub ahead_high : ahead ≤ 1000000

-- What following it gives: the answer, with the last term for w, and the rounds. Where it is not late, the marks are right for that term, which
-- is the sum.
pub record FollowedBy (periods costs spreads : List ℕ) (own count base start late deadline : ℕ) (too_late : Bool) (window spent : ℕ) (marks : List ℕ) (least : ℕ) : Type 0 where
  pub solved : SolvedBy base (loads periods costs spreads own count) start late deadline too_late (pick too_late 0 (window + late)) spent
  pub within : window + late ≤ deadline
  pub held : too_late ≡ false → Right periods costs spreads own count base window marks window least
