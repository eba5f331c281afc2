-- The answers over the slices that hold a decoded table, and what those slices are asked to hold.
--
-- Answers and rounds have two forms. The one to believe is `answer_of` and `rounds_of` of a table (crates/response/specs/Analysis.antt), with
-- the table's own blocking and the tasks that interfere; the public contract and every demand speak of that. The form here, `answer_in` and
-- `rounds_in`, says the same of columns of numbers. It exists for the contract of `answer_all`, which knows no bytes and no table. That both
-- agree for the columns of every accepted table is proved in crates/response/proofs/DecodedLaws.antt.
-- Assumes nothing.
use Rattle.std.specs.Prelude.{ℕ, suc, ◌+◌, ◌≤◌, ◌<◌, List, Bool, eqb, leb, length, get_or, ◌≡◌}
use Rattle.model.specs.Choice.{pick, on}
use Rattle.model.specs.Lists.{total, gather, filled, word_of}
use Rattle.model.specs.Tables.{Load, interferes}
use Rattle.equation.specs.Answer.{answer}
use Rattle.equation.specs.Sequence as sequence
use Rattle.equation.specs.Slices.{load_at, LoadsFit}
use Rattle.equation.specs.declared.Start.{Start}
use Rattle.equation.specs.Starts.{start_from}
use Rattle.answering.specs.declared.Verdict.{Verdict}
use Rattle.answering.specs.Results.{result_of}

-- a decoded table, and the blocking of its tasks: a word of each of seven slices for each task
pub record Decoded : Type 0 where
  pub priorities : List ℕ
  pub periods : List ℕ
  pub costs : List ℕ
  pub deadlines : List ℕ
  pub spreads : List ℕ
  pub latest : List ℕ
  pub held : List ℕ

abbrev pub decoded : (priorities periods costs deadlines spreads latest held : List ℕ) → Decoded
decoded priorities periods costs deadlines spreads latest held =
    record {
      priorities = priorities;
      periods = periods;
      costs = costs;
      deadlines = deadlines;
      spreads = spreads;
      latest = latest;
      held = held;
    }

abbrev pub base_in : Decoded → ℕ → ℕ
base_in d i = get_or d.costs i 0 + get_or d.held i 0

-- "Every other task of equal or greater priority interferes", of n tasks (SPECIFICATION 4.2; document 02, L6)
abbrev pub loads_in : Decoded → ℕ → ℕ → List Load
loads_in d n i = gather (interferes (word_of d.priorities) i) (load_at d.periods d.costs d.spreads) n

unfoldable pub answer_in : Decoded → ℕ → ℕ → ℕ
answer_in d n i = answer (base_in d i) (loads_in d n i) (get_or d.latest i 0) (get_or d.deadlines i 0)

unfoldable pub rounds_in : Start → Decoded → ℕ → ℕ → ℕ
rounds_in start d n i =
    sequence.rounds (base_in d i) (loads_in d n i) (start_from start (base_in d i) (loads_in d n i)) (get_or d.latest i 0) (get_or d.deadlines i 0)

-- a task that is at least as urgent as the one at place i, counted
abbrev pub as_urgent : List ℕ → ℕ → ℕ → ℕ
as_urgent priorities i k = on (leb (word_of priorities i) (word_of priorities k)) 1

-- How many of n tasks are at least as urgent as the one at place i. Where priorities do not rise, they stand before all others, so that this
-- is the place where the group of that task ends.
abbrev pub group_end : List ℕ → ℕ → ℕ → ℕ
group_end priorities n i = total (as_urgent priorities i) n

-- n priorities that do not rise, with a byte of any value behind them, and for each task a cost within its limit
pub record Ranked (priorities costs : List ℕ) (n : ℕ) : Type 0 where
  pub few : n ≤ 200
  pub priorities_long : n < length priorities
  pub costs_long : n ≤ length costs
  pub cost_high : (k : ℕ) → k < n → word_of costs k ≤ 1000000
  pub not_rising : (k : ℕ) → suc k < n → word_of priorities (suc k) ≤ word_of priorities k

-- Before place i is looked at: where the last group ends that was looked for, one cost of every task before that end, and that it is the end
-- of i's group, if i is before it.
pub record GroupBefore (priorities costs : List ℕ) (n i end sum : ℕ) : Type 0 where
  pub within : end ≤ n
  pub summed : sum ≡ total (word_of costs) end
  pub goes_on : i < end → end ≡ group_end priorities n i

-- is the byte behind the priority of place i the same?
abbrev pub same_next : List ℕ → ℕ → Bool
same_next priorities i = eqb (word_of priorities (i + 1)) (word_of priorities i)

-- What is found of the group of place i: of how many places its loads are, without its own; one cost of every task up to the end of the group;
-- and the end and the costs up to it, where the end was looked for, or what was known before.
pub record GroupFound (priorities costs : List ℕ) (n i before_end before_sum count all end sum : ℕ) : Type 0 where
  pub count_is : count ≡ pick (same_next priorities i) (group_end priorities n i) i
  pub all_is : all ≡ total (word_of costs) (group_end priorities n i)
  pub end_is : end ≡ pick (same_next priorities i) (group_end priorities n i) before_end
  pub sum_is : sum ≡ pick (same_next priorities i) (total (word_of costs) (group_end priorities n i)) before_sum

-- n tasks stand in the slices, each number within its limit
pub record DecodedFits (d : Decoded) (n : ℕ) : Type 0 where
  pub loads_fit : LoadsFit d.periods d.costs d.spreads n
  pub ranked : Ranked d.priorities d.costs n
  pub deadlines_long : n ≤ length d.deadlines
  pub latest_long : n ≤ length d.latest
  pub held_long : n ≤ length d.held
  pub cost_low : (i : ℕ) → i < n → 1 ≤ get_or d.costs i 0
  pub deadline_high : (i : ℕ) → i < n → get_or d.deadlines i 0 ≤ 1000000
  pub latest_high : (i : ℕ) → i < n → get_or d.latest i 0 ≤ 1000000
  pub held_high : (i : ℕ) → i < n → get_or d.held i 0 ≤ 1000000

-- a lent slice: its words before a call and after it
pub record Slice : Type 0 where
  pub before : List ℕ
  pub after : List ℕ

abbrev pub slice : (before after : List ℕ) → Slice
slice before after = record { before = before; after = after }

-- the result, and the first n words of both slices, are those of the decoded table
pub record Answered (start : Start) (d : Decoded) (n : ℕ) (verdict : Verdict) (answers rounds : Slice) : Type 0 where
  pub verdict_is : verdict ≡ result_of (answer_in d n) n
  pub answers_are : answers.after ≡ filled (answer_in d n) n answers.before
  pub rounds_are : rounds.after ≡ filled (rounds_in start d n) n rounds.before
