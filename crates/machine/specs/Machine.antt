-- The engine that plays a table (SPECIFICATION 9; document 02, L1 and L9), over numbers alone: what it holds after so many ticks, and what
-- a tick does.
-- Assumes nothing.
use Rattle.std.specs.Prelude.{ℕ, zero, suc, ◌+◌, ◌-◌, ◌*◌, ◌/◌, ◌%◌, ◌^◌, min, Bool, eqb}
use Rattle.std.specs.Int.Bits.{bit_or, bit_and}
use Rattle.std.specs.Int.Count.{count_trailing_zeros}
use Rattle.model.specs.Choice.{pick, both, on}
use Rattle.model.specs.Search.{first_from}

-- what the engine holds: the work left and the tick of the next release of the task at each place, and the ready words
pub record State : Type 0 where
  pub left : ℕ → ℕ
  pub due : ℕ → ℕ
  pub ready : ℕ → ℕ

-- before tick 0 no work is left, and every task is due at 0
abbrev pub started : State
started = record { left = λ p. 0; due = λ p. 0; ready = λ w. 0 }

-- "L1's ready word becomes four 64-bit words.", "holds one bit for each task": the task at place p has bit p % 64 of word p / 64
abbrev pub bit_of : ℕ → ℕ → ℕ
bit_of word bit = word / 2 ^ bit % 2

abbrev pub bit_at : (ready : ℕ → ℕ) → ℕ → ℕ
bit_at ready p = bit_of (ready (p / 64)) (p % 64)

-- the word in which the bit of place p alone is set
abbrev pub mask : ℕ → ℕ
mask p = 2 ^ (p % 64)

-- is the task at place p released in tick t?
abbrev pub is_due : (ℕ → ℕ) → ℕ → ℕ → Bool
is_due due t p = eqb (due p) t

-- "releases all tasks at tick 0 and then every T, runs each at full cost": a release adds the cost to what is left
abbrev pub left_with : (cost due : ℕ → ℕ) (t : ℕ) (left : ℕ → ℕ) → ℕ → ℕ
left_with cost due t left p = left p + on (is_due due t p) (cost p)

-- the next one comes a period later
abbrev pub due_with : (period due : ℕ → ℕ) (t : ℕ) → ℕ → ℕ
due_with period due t p = due p + on (is_due due t p) (period p)

-- a task that is released has its bit set
abbrev pub raised_by : (is_released : Bool) (place word : ℕ) → ℕ
raised_by is_released place word = pick is_released (bit_or word (mask place)) word

-- and so for the first k tasks of a word, whose first task stands at place `first`
unfoldable pub raised : (due : ℕ → ℕ) (t first word k : ℕ) → ℕ
raised due t first word zero = word
raised due t first word (suc k) = raised_by (is_due due t (first + k)) (first + k) (raised due t first word k)

-- how many of n tasks have their bits in word w: those at the places 64 w to 64 w + 63
abbrev pub in_word : (n w : ℕ) → ℕ
in_word n w = min (n - 64 * w) 64

abbrev pub released : (period cost : ℕ → ℕ) (n t : ℕ) → State → State
released period cost n t state =
    record {
      left = left_with cost state.due t state.left;
      due = due_with period state.due t;
      ready = λ w. raised state.due t (64 * w) (state.ready w) (in_word n w);
    }

-- "the next task is found from that word's trailing zeros": from those of the first of k words, from word w on, that is not 0; and the place
-- behind them where there is none
unfoldable pub next_from : (ready : ℕ → ℕ) (w k : ℕ) → ℕ
next_from ready w zero = 64 * w
next_from ready w (suc k) = pick (eqb (ready w) 0) (next_from ready (suc w) k) (64 * w + count_trailing_zeros 64 (ready w))

-- of all four: 256, which is no task's place, where no bit is set
abbrev pub next_place : (ready : ℕ → ℕ) → ℕ
next_place ready = next_from ready 0 4

-- a tick takes one off what is left at the place that it serves
abbrev pub left_after : (left : ℕ → ℕ) (place : ℕ) → ℕ → ℕ
left_after left place p = left p - on (eqb p place) 1

-- and clears the place's bit, in its word, where that was the last
abbrev pub ready_after : (last : Bool) (place : ℕ) (ready : ℕ → ℕ) → ℕ → ℕ
ready_after last place ready w =
    pick (both last (eqb w (place / 64))) (bit_and (ready w) (18446744073709551615 - mask place)) (ready w)

abbrev pub served : State → State
served state =
    record {
      left = left_after state.left (next_place state.ready);
      due = state.due;
      ready = ready_after (eqb (state.left (next_place state.ready)) 1) (next_place state.ready) state.ready;
    }

-- what the engine holds after the ticks before t, for n tasks
unfoldable pub after : (period cost : ℕ → ℕ) (n t : ℕ) → State
after period cost n zero = started
after period cost n (suc t) = served (released period cost n t (after period cost n t))

-- the place that is served in tick t
abbrev pub place_served : (period cost : ℕ → ℕ) (n t : ℕ) → ℕ
place_served period cost n t = next_place (released period cost n t (after period cost n t)).ready

-- is no work left at place i after x ticks?
abbrev pub is_done : (period cost : ℕ → ℕ) (n i x : ℕ) → Bool
is_done period cost n i x = eqb ((after period cost n x).left i) 0

-- "tick by tick up to the deadline of the task asked about, and reports when its first job is done": the number of ticks until no
-- work is left at its place, and 0 where some is left at every one up to the deadline. (The deadline is within the period, so up to
-- it there is no work but the first job's.)
unfoldable pub played : (period cost : ℕ → ℕ) (n : ℕ) (deadline : ℕ → ℕ) → ℕ → ℕ
played period cost n deadline i = first_from (is_done period cost n i) 1 (deadline i)

-- up to which tick a first job is reported where at most `limit` ticks are played
abbrev pub up_to : (limit : ℕ) (deadline : ℕ → ℕ) → ℕ → ℕ
up_to limit deadline i = min limit (deadline i)

-- has no task work left after x ticks?
abbrev pub is_quiet : (period cost : ℕ → ℕ) (n x : ℕ) → Bool
is_quiet period cost n x = eqb (next_place (after period cost n x).ready) 256

-- the number of ticks that are played where at most `limit` are: from 1 on the first after which no task has work left, since then every
-- first job is done and no later tick changes an answer; and `limit` where there is none
unfoldable pub ticks_played : (period cost : ℕ → ℕ) (n limit : ℕ) → ℕ
ticks_played period cost n limit =
    let found = first_from (is_quiet period cost n) 1 limit in
    pick (eqb found 0) limit found

-- an answer that is not known yet
abbrev pub none : ℕ → ℕ
none i = 0

-- the earliest of the first n ticks that f names (4,294,967,295 where n is 0)
unfoldable pub earliest : (ℕ → ℕ) → ℕ → ℕ
earliest f zero = 4294967295
earliest f (suc n) = min (earliest f n) (f n)

-- what f names from `first` on
abbrev pub behind : (f : ℕ → ℕ) (first : ℕ) → ℕ → ℕ
behind f first k = f (first + k)

-- the earliest tick at which a task of word w is due, of n tasks
abbrev pub next_in : (due : ℕ → ℕ) (n w : ℕ) → ℕ
next_in due n w = earliest (behind due (64 * w)) (in_word n w)
