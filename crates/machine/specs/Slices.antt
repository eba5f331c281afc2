-- What the engine's slices hold, within which limits, and what a tick leaves in them.
-- Assumes nothing.
use Rattle.std.specs.Prelude.{ℕ, ◌+◌, ◌-◌, ◌*◌, ◌/◌, ◌≤◌, ◌<◌, min, ◌≡◌, List, Option, None, Some, eqb, ltb, length, set}
use Rattle.model.specs.declared.Place.{Place}
use Rattle.model.specs.Choice.{pick, both}
use Rattle.model.specs.Lists.{filled, word_of}
use Rattle.machine.specs.Machine.{State, left_with, due_with, raised, in_word, released, served, next_place, after, earliest, behind, next_in, ticks_played}

-- n tasks stand in the slices, within the limits of a table (SPECIFICATION 2.5; document 01): "T and C are 1 to 1,000,000. D is 1 to T."; and
-- "n up to 200"
pub record TasksHeld (periods costs : List ℕ) (n : ℕ) : Type 0 where
  pub some : 1 ≤ n
  pub few : n ≤ 200
  pub periods_long : n ≤ length periods
  pub costs_long : n ≤ length costs
  pub period_low : (p : ℕ) → p < n → 1 ≤ word_of periods p
  pub period_high : (p : ℕ) → p < n → word_of periods p ≤ 1000000
  pub cost_low : (p : ℕ) → p < n → 1 ≤ word_of costs p
  pub cost_high : (p : ℕ) → p < n → word_of costs p ≤ 1000000

pub record DeadlinesHeld (periods deadlines : List ℕ) (n : ℕ) : Type 0 where
  pub long : n ≤ length deadlines
  pub high : (p : ℕ) → p < n → word_of deadlines p ≤ word_of periods p

-- how many words the bits of n tasks take, 64 to a word
abbrev pub words_for : ℕ → ℕ
words_for n = (n + 63) / 64

-- the four slices that the engine keeps its state in: the work left and the next release of each task, the ready words, and for each word the
-- earliest next release of its tasks
pub record Kept : Type 0 where
  pub left : List ℕ
  pub due : List ℕ
  pub ready : List ℕ
  pub nexts : List ℕ

abbrev pub kept : (left due ready nexts : List ℕ) → Kept
kept left due ready nexts = record { left = left; due = due; ready = ready; nexts = nexts }

-- the state that they hold
abbrev pub state_in : Kept → State
state_in k = record { left = word_of k.left; due = word_of k.due; ready = word_of k.ready }

-- with the releases of tick t, and after the tick
abbrev pub released_in : (periods costs : List ℕ) (n t : ℕ) → Kept → State
released_in periods costs n t k = released (word_of periods) (word_of costs) n t (state_in k)

abbrev pub served_in : (periods costs : List ℕ) (n t : ℕ) → Kept → State
served_in periods costs n t k = served (released_in periods costs n t k)

-- from place `first` on, the numbers of n tasks are there, and none is too large to be added to
pub record WorkHeld (first n : ℕ) (left due : List ℕ) : Type 0 where
  pub left_long : n ≤ length left
  pub due_long : n ≤ length due
  pub left_high : (p : ℕ) → first ≤ p → p < n → word_of left p ≤ 1000000000000
  pub due_high : (p : ℕ) → first ≤ p → p < n → word_of due p ≤ 2000000

-- the ready words of n tasks are there, and those of no task are 0
pub record WordsHeld (n : ℕ) (ready : List ℕ) : Type 0 where
  pub long : words_for n ≤ length ready
  pub rest : (w : ℕ) → words_for n ≤ w → word_of ready w ≡ 0

-- a state of n tasks stands in the slices, and nothing is due before tick t
pub record StateHeld (n t : ℕ) (k : Kept) : Type 0 where
  pub work : WorkHeld 0 n k.left k.due
  pub words : WordsHeld n k.ready
  pub nexts_long : words_for n ≤ length k.nexts
  pub nexts_are : (w : ℕ) → w < words_for n → word_of k.nexts w ≡ next_in (word_of k.due) n w
  pub not_past : (p : ℕ) → p < n → t ≤ word_of k.due p

-- a place as the code has it: none for 256, behind the last bit of the fourth word
abbrev pub place_or_none : ℕ → Option Place
place_or_none p = pick (eqb p 256) None (Some (record { 0 = p }))

-- before tick t: the earliest tick at which a task is due, and the place of the next task, where nothing is due in the tick
pub record NextKnown (n t : ℕ) (k : Kept) (place next : ℕ) : Type 0 where
  pub place_is : t < next → place ≡ next_place (word_of k.ready)
  pub next_is : next ≡ earliest (word_of k.due) n

-- what a tick, or its releases, leave in the slices: a state in place of another, and the earliest ticks at which something is due, in each
-- word and of all
pub record Leaves (n : ℕ) (before : Kept) (state : State) (now : Kept) (next : ℕ) : Type 0 where
  pub left_is : now.left ≡ filled state.left n before.left
  pub due_is : now.due ≡ filled state.due n before.due
  pub ready_is : now.ready ≡ filled state.ready (words_for n) before.ready
  pub nexts_are : now.nexts ≡ filled (next_in state.due n) (words_for n) before.nexts
  pub next_is : next ≡ earliest state.due n

-- what is left of the tasks from place `first` to before place `to`, which have their bits in one word, once those of them that are due are
-- released. Nothing before them is due.
pub record SomeReleased (periods costs : List ℕ) (first to t : ℕ) (left due : List ℕ) (word : ℕ) (left_now due_now : List ℕ) (word_now next : ℕ) : Type 0 where
  pub left_is : left_now ≡ filled (left_with (word_of costs) (word_of due) t (word_of left)) to left
  pub due_is : due_now ≡ filled (due_with (word_of periods) (word_of due) t) to due
  pub word_is : word_now ≡ raised (word_of due) t first word (to - first)
  pub next_is : next ≡ earliest (behind (due_with (word_of periods) (word_of due) t) first) (to - first)

-- where the tasks of the words before w end, of n tasks
abbrev pub end_of : (n w : ℕ) → ℕ
end_of n w = min n (64 * w)

-- nothing before place `first` is due in tick t
abbrev pub NoneDue : (first t : ℕ) (due : List ℕ) → Type 0
NoneDue first t due = (p : ℕ) → p < first → word_of due p ≡ t → ⊥

-- what is left in the slices once word w is looked at
pub record WordReleased (periods costs : List ℕ) (n w t : ℕ) (k now : Kept) (next : ℕ) : Type 0 where
  pub left_is : now.left ≡ filled (left_with (word_of costs) (word_of k.due) t (word_of k.left)) (end_of n (w + 1)) k.left
  pub due_is : now.due ≡ filled (due_with (word_of periods) (word_of k.due) t) (end_of n (w + 1)) k.due
  pub ready_is : now.ready ≡ set k.ready w (raised (word_of k.due) t (64 * w) (word_of k.ready w) (in_word n w))
  pub nexts_are : now.nexts ≡ set k.nexts w (next_in (due_with (word_of periods) (word_of k.due) t) n w)
  pub next_is : next ≡ next_in (due_with (word_of periods) (word_of k.due) t) n w

-- slices that hold what the engine starts with: no work is left, every task is due at tick 0, and no bit is set
pub record StartHeld (n : ℕ) (k : Kept) : Type 0 where
  pub left_long : n ≤ length k.left
  pub due_long : n ≤ length k.due
  pub no_work : (p : ℕ) → p < n → word_of k.left p ≡ 0
  pub all_due : (p : ℕ) → p < n → word_of k.due p ≡ 0
  pub words : words_for n ≤ length k.ready
  pub no_bit : (w : ℕ) → word_of k.ready w ≡ 0
  pub nexts_long : words_for n ≤ length k.nexts
  pub no_next : (w : ℕ) → w < words_for n → word_of k.nexts w ≡ 0

-- what a play of at most `limit` ticks leaves in them: the state after the ticks that it played, how many these are, and the next task's place
pub record PlayLeaves (periods costs : List ℕ) (n limit : ℕ) (before now : Kept) (ticks : ℕ) (place : Option Place) (next : ℕ) : Type 0 where
  pub ticks_are : ticks ≡ ticks_played (word_of periods) (word_of costs) n limit
  pub state_is : Leaves n before (after (word_of periods) (word_of costs) n ticks) now next
  pub place_is : place ≡ place_or_none (next_place (after (word_of periods) (word_of costs) n ticks).ready)

-- the tick has a place to serve: one of the n tasks, with work
pub record HasNext (n : ℕ) (state : State) : Type 0 where
  pub is_place : next_place state.ready < n
  pub has_work : 1 ≤ state.left (next_place state.ready)

-- what is reported at a place after a tick in which so much work was there: the tick's end, where that work was the last and the
-- deadline is not past; else what was reported before
abbrev pub reported_in : (work t deadline before : ℕ) → ℕ
reported_in work t deadline before = pick (both (eqb work 1) (ltb t deadline)) (t + 1) before
