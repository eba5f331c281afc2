-- Blocking over slices that hold the rows of a table is the document's.
-- Assumes nothing.
use Prim.Native.Nat.{ℕ, ◌<◌}
use mathlib.Core.Path.{◌≡◌}
use mathlib.Core.List.{List}
use lib.ListN.{get_or}
use Rattle.model.specs.Lists.{tabulate, largest_to, largest_of}
use Rattle.model.specs.Tables.{Task, Row}
use Rattle.model.proofs.Lists.{largest_tabulate}
use Rattle.blocking.specs.Ceilings.{owner, claim, ceiling, section}
use Rattle.blocking.specs.Slices.{owner_at, claim_at, ceiling_in, section_at}

module _ (tasks : List Task) (row : ℕ → Row) (m : ℕ) (priorities places semaphores longest : List ℕ)
    (places_read : (k : ℕ) → k < m → get_or places k 0 ≡ (row k).place)
    (semaphores_read : (k : ℕ) → k < m → get_or semaphores k 0 ≡ (row k).semaphore)
    (longest_read : (k : ℕ) → k < m → get_or longest k 0 ≡ (row k).longest)
    (owners_read : (k : ℕ) → k < m → get_or priorities (row k).place 0 ≡ owner tasks (row k)) where
  owner_agrees : (k : ℕ) → k < m → owner_at priorities places k ≡ owner tasks (row k)
  owner_agrees k h = rw (places_read k h) (owners_read k h)

  ceiling_agrees : (s : ℕ) → ceiling_in priorities places semaphores m s ≡ ceiling tasks (tabulate row m) s
  unfolding ceiling
  ceiling_agrees s =
      largest_tabulate (claim tasks s) row (claim_at priorities places semaphores s) m
      (λ k h. rw (semaphores_read k h, owner_agrees k h))

  pub blocking_agrees : (own : ℕ) →
      largest_to (section_at priorities places semaphores longest m own) m ≡ largest_of (section tasks (tabulate row m) own) (tabulate row m)
  blocking_agrees own =
      largest_tabulate (section tasks (tabulate row m) own) row (section_at priorities places semaphores longest m own) m
      (λ k h.
      rw (owner_agrees k h, ceiling_agrees (get_or semaphores k 0), semaphores_read k h, longest_read k h))
