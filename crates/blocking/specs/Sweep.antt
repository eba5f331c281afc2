-- What the sweep over the rows keeps of each semaphore.
-- Assumes nothing.
use Rattle.std.specs.Prelude.{ℕ, ◌≤◌, ◌<◌, max, ◌≡◌, List, eqb, length, get_or}
use Rattle.model.specs.Choice.{pick, on}
use Rattle.model.specs.Lists.{total, word_of}

-- row k, counted where it names semaphore s
abbrev pub uses_at : List ℕ → ℕ → ℕ → ℕ
uses_at semaphores s k = on (eqb (get_or semaphores k 0) s) 1

-- how many of the first `count` rows name semaphore s
abbrev pub rows_of : List ℕ → ℕ → ℕ → ℕ
rows_of semaphores s count = total (uses_at semaphores s) count

-- what is kept of a semaphore with a row more, where `rest` of its rows stand before that one: nothing, where there is none
abbrev pub kept_with : ℕ → ℕ → ℕ → ℕ
kept_with rest section before = pick (eqb rest 0) 0 (max before section)

-- the slice holds the semaphores of `count` rows, 255 at most, and none is above 16
pub record SemaphoresHeld (semaphores : List ℕ) (count : ℕ) : Type 0 where
  pub few : count ≤ 255
  pub long : count ≤ length semaphores
  pub low : (k : ℕ) → k < count → get_or semaphores k 0 ≤ 16

-- the first n words of a slice are 0
pub record Zeros (words : List ℕ) (n : ℕ) : Type 0 where
  pub long : n ≤ length words
  pub each : (i : ℕ) → i < n → word_of words i ≡ 0
