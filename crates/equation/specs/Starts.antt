-- Where the written sequence starts (SPECIFICATION 5.1; document 02, L5): the rounds depend on it, and no answer does. For any list of
-- loads; the proofs are in proofs/StartLaws.antt.
-- Assumes nothing.
use Rattle.std.specs.Prelude.{ℕ, ◌+◌, ◌-◌, ◌≤◌, ◌<◌, ◌≡◌, List, [], ◌∷◌, length, get_or}
use Rattle.model.specs.Lists.{sum_of}
use Rattle.model.specs.Tables.{Load}
use Rattle.equation.specs.declared.Start.{Start}
use Rattle.equation.specs.declared.Start.TheVariants.{EveryCost, OwnCost}
use Rattle.equation.specs.Demand.{demand}
use Rattle.equation.specs.Answer.{answer_for, answer}
use Rattle.equation.specs.Sequence.{term, rounds}
use Rattle.equation.specs.Laws.{NotAbove, cost_of, no_load}

-- "the task's cost and blocking plus one cost of every more urgent task" (document 02, L5), which are now those that interfere (L6: "so read
-- demand, rounds and L5's start"), or "the old start": document 01's "x0 = C_i + B_i" (SPECIFICATION 5.1)
abbrev pub first_term : Start → ℕ → ℕ → ℕ
first_term EveryCost base others = base + others
first_term OwnCost base others = base

-- x0 over a list of loads: one cost of each, whatever its spread lets in at once
abbrev pub start_from : Start → ℕ → List Load → ℕ
start_from start base loads = first_term start base (sum_of cost_of loads)

-- "T and C are 1 to 1,000,000": no period is 0
abbrev pub PeriodsLow : List Load → Type 0
PeriodsLow loads = (k : ℕ) → k < length loads → 1 ≤ (get_or loads k no_load).period

-- The answer that the sequence itself gives: "w + J_i if .. w + J_i ≤ D_i; else 0", with the x of its last round for w.
abbrev pub answer_from : ℕ → List Load → ℕ → ℕ → ℕ → ℕ
answer_from base loads start late deadline = answer_for late deadline (term base loads start (rounds base loads start late deadline))

-- Every start that is not above the smallest solution reaches it (`SequenceReaches`), so that it gives the answer; of two such starts
-- the later one takes no more rounds; and if one round from the earlier one comes as far, then at most one fewer.
pub record AnyStart : Type 0 where
  pub answers : (base : ℕ) (loads : List Load) (start late deadline : ℕ) → 1 ≤ base → NotAbove base loads start →
      answer_from base loads start late deadline ≡ answer base loads late deadline
  pub fewer : (base : ℕ) (loads : List Load) (start later late deadline : ℕ) → 1 ≤ base →
      NotAbove base loads start → NotAbove base loads later → start ≤ later →
      rounds base loads later late deadline ≤ rounds base loads start late deadline
  pub one_more : (base : ℕ) (loads : List Load) (start later late deadline : ℕ) → 1 ≤ base →
      NotAbove base loads start → NotAbove base loads later → later ≤ demand base loads start →
      rounds base loads start late deadline ≤ rounds base loads later late deadline + 1

-- "Answers don't change; rounds do": neither start is above a solution, and the default takes as many rounds as the old start or one
-- fewer.
pub record BothStarts : Type 0 where
  pub not_above : (start : Start) (base : ℕ) (loads : List Load) → PeriodsLow loads → NotAbove base loads (start_from start base loads)
  pub answers : (start : Start) (base : ℕ) (loads : List Load) (late deadline : ℕ) → 1 ≤ base → PeriodsLow loads →
      answer_from base loads (start_from start base loads) late deadline ≡ answer base loads late deadline
  pub fewer : (base : ℕ) (loads : List Load) (late deadline : ℕ) → 1 ≤ base → PeriodsLow loads →
      rounds base loads (start_from EveryCost base loads) late deadline ≤ rounds base loads (start_from OwnCost base loads) late deadline
  pub one_more : (base : ℕ) (loads : List Load) (late deadline : ℕ) → 1 ≤ base → PeriodsLow loads →
      rounds base loads (start_from OwnCost base loads) late deadline ≤ rounds base loads (start_from EveryCost base loads) late deadline + 1

-- "The bound on rounds speaks of the start used" (`RoundsBound`), and can be no smaller. With base 1 and a load of cost 1 in each tick
-- x rises by one in every round, and is late at 6 where the deadline is 5: from 1 after 5 rounds, from 2 after 4.
abbrev pub every_tick : List Load
every_tick = record { period = 1; cost = 1; spread = 0 } ∷ []

abbrev pub BoundReached : Type 0
BoundReached = (start : Start) → rounds 1 every_tick (start_from start 1 every_tick) 0 5 ≡ 5 - 0 - start_from start 1 every_tick + 1
