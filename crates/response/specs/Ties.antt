-- What document 02's L6 leaves as it was (SPECIFICATION 13.6), for the bytes of any table. The proof is in proofs/Ties.antt.
-- Assumes nothing.
use Rattle.std.specs.Prelude.{ℕ, ◌<◌, ◌≡◌, List}
use Rattle.model.specs.Tables.{loads_of, Alone, Falling, more_urgent_loads}
use Rattle.tables.specs.Layout.{task_count, tasks_of}

-- Demand, rounds and both starts of a task (crates/response/specs/Analysis.antt) know the other tasks by its loads alone.
pub record NothingMoved : Type 0 where
  -- where priorities strictly fall, the loads of each task are document 01's, "over every more urgent j"
  pub falling : (bytes : List ℕ) → Falling (tasks_of bytes) → (i : ℕ) → i < task_count bytes →
      loads_of (tasks_of bytes) i ≡ more_urgent_loads (tasks_of bytes) i
  -- and so are those of each task whose priority no other task has, whatever ties there are among the others
  pub alone : (bytes : List ℕ) (i : ℕ) → Alone (tasks_of bytes) i → loads_of (tasks_of bytes) i ≡ more_urgent_loads (tasks_of bytes) i
