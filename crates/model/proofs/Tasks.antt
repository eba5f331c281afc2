-- Two tasks with the same numbers are the same task, and two rows likewise.
-- Assumes nothing.
use mathlib.Core.Path.{◌≡◌}
use Rattle.model.specs.Tables.{Task, Row}

pub same_task_law : (a b : Task) → a.priority ≡ b.priority → a.period ≡ b.period → a.cost ≡ b.cost →
    a.deadline ≡ b.deadline → a.earliest ≡ b.earliest → a.latest ≡ b.latest → a ≡ b
same_task_law a b priority period cost deadline earliest latest =
    λ i.
    record
    { priority = priority i; period = period i; cost = cost i; deadline = deadline i; earliest = earliest i; latest = latest i }

pub same_row_law : (a b : Row) → a.place ≡ b.place → a.semaphore ≡ b.semaphore → a.longest ≡ b.longest → a ≡ b
same_row_law a b place semaphore longest = λ i. record { place = place i; semaphore = semaphore i; longest = longest i }
