-- Blocking by priority ceiling (SPECIFICATION 4.1; document 01, "The equation"). "Blocking still comes from strictly lower tasks."
-- (document 02, L6): "less urgent" is of a smaller priority, and tasks of one priority do not block each other.
-- Assumes nothing.
use Rattle.std.specs.Prelude.{ℕ, Bool, List, eqb, leb, ltb}
use Rattle.model.specs.Choice.{both, on}
use Rattle.model.specs.Lists.{largest_of}
use Rattle.model.specs.Tables.{Task, Row, Table, task_of}

-- the priority of the task that a row belongs to
abbrev pub owner : List Task → Row → ℕ
owner tasks row = (task_of tasks row.place).priority

-- what a row adds to the ceiling of semaphore s
abbrev pub claim : List Task → ℕ → Row → ℕ
claim tasks s row = on (eqb row.semaphore s) (owner tasks row)

-- "a semaphore's ceiling is the most urgent priority among tasks with a row for it"
unfoldable pub ceiling : List Task → List Row → ℕ → ℕ
ceiling tasks rows s = largest_of (claim tasks s) rows

-- is it a row "of less urgent tasks whose semaphore's ceiling is at least i's priority"? Priority p is i's.
abbrev pub blocks : List Task → List Row → ℕ → Row → Bool
blocks tasks rows p row = both (ltb (owner tasks row) p) (leb p (ceiling tasks rows row.semaphore))

abbrev pub section : List Task → List Row → ℕ → Row → ℕ
section tasks rows p row = on (blocks tasks rows p row) row.longest

-- "B of task i is the longest section among rows of less urgent tasks whose semaphore's ceiling is at least i's priority, and 0 if
-- there is none."
unfoldable pub blocking_of : Table → ℕ → ℕ
blocking_of table i = largest_of (section table.tasks table.rows (task_of table.tasks i).priority) table.rows
