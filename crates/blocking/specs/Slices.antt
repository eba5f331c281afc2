-- The same over lent slices: `count` rows, each with its place, its semaphore and its longest section.
-- Assumes nothing.
use Rattle.std.specs.Prelude.{ℕ, suc, ◌≤◌, ◌<◌, List, eqb, leb, ltb, length, get_or}
use Rattle.model.specs.Choice.{both, on}
use Rattle.model.specs.Lists.{largest_to}

-- the priority of row k's task
abbrev pub owner_at : List ℕ → List ℕ → ℕ → ℕ
owner_at priorities places k = get_or priorities (get_or places k 0) 0

abbrev pub claim_at : List ℕ → List ℕ → List ℕ → ℕ → ℕ → ℕ
claim_at priorities places semaphores s k = on (eqb (get_or semaphores k 0) s) (owner_at priorities places k)

-- the ceiling of semaphore s
abbrev pub ceiling_in : List ℕ → List ℕ → List ℕ → ℕ → ℕ → ℕ
ceiling_in priorities places semaphores count s = largest_to (claim_at priorities places semaphores s) count

-- the ceiling of row k's semaphore
abbrev pub top_at : List ℕ → List ℕ → List ℕ → ℕ → ℕ → ℕ
top_at priorities places semaphores count k = ceiling_in priorities places semaphores count (get_or semaphores k 0)

-- what row k adds to the blocking of a task of priority p
abbrev pub section_at : List ℕ → List ℕ → List ℕ → List ℕ → ℕ → ℕ → ℕ → ℕ
section_at priorities places semaphores longest count p k =
    on (both (ltb (owner_at priorities places k) p) (leb p (top_at priorities places semaphores count k))) (get_or longest k 0)

-- B of the task at place i
unfoldable pub blocking_at : List ℕ → List ℕ → List ℕ → List ℕ → ℕ → ℕ → ℕ
blocking_at priorities places semaphores longest count i =
    largest_to (section_at priorities places semaphores longest count (get_or priorities i 0)) count

-- The slices hold n priorities that do not rise, and `count` rows, 255 at most, that do not fall by place, each of one of the n tasks and of semaphore 16
-- at most.
pub record RowsHeld (priorities places semaphores longest : List ℕ) (n count : ℕ) : Type 0 where
  pub few : count ≤ 255
  pub priorities_long : n ≤ length priorities
  pub places_long : count ≤ length places
  pub semaphores_long : count ≤ length semaphores
  pub longest_long : count ≤ length longest
  pub places_low : (k : ℕ) → k < count → get_or places k 0 < n
  pub semaphores_low : (k : ℕ) → k < count → get_or semaphores k 0 ≤ 16
  pub not_rising : (i : ℕ) → suc i < n → get_or priorities (suc i) 0 ≤ get_or priorities i 0
  pub not_falling : (k : ℕ) → suc k < count → get_or places k 0 ≤ get_or places (suc k) 0
