-- What the analysis answers for each task of a table (SPECIFICATION 4.3 and 5; document 01, "The equation"; document 02, L4: the answer
-- adds the latest delay, and "every test against the deadline and the bound on rounds use the latest"; L6: `loads_of` are the loads of every
-- other task of equal or greater priority).
-- Assumes nothing.
use Rattle.std.specs.Prelude.{ℕ, ◌+◌}
use Rattle.model.specs.Tables.{Table, task_of, loads_of}
use Rattle.equation.specs.Answer.{answer}
use Rattle.equation.specs.Sequence.{rounds}
use Rattle.equation.specs.declared.Start.{Start}
use Rattle.equation.specs.Starts.{start_from}
use Rattle.blocking.specs.Ceilings.{blocking_of}

-- "C_i + B_i"
abbrev pub base_of : Table → ℕ → ℕ
base_of table i = (task_of table.tasks i).cost + blocking_of table i

-- the answer of the task at place i
unfoldable pub answer_of : Table → ℕ → ℕ
answer_of table i =
    answer (base_of table i) (loads_of table.tasks i) (task_of table.tasks i).latest (task_of table.tasks i).deadline

-- its x0: the task's cost and blocking plus one cost of every task that interferes with it, or document 01's (SPECIFICATION 5.1;
-- document 02, L5 and L6)
abbrev pub start_of : Start → Table → ℕ → ℕ
start_of start table i = start_from start (base_of table i) (loads_of table.tasks i)

-- its rounds, from the start used
unfoldable pub rounds_of : Start → Table → ℕ → ℕ
rounds_of start table i =
    rounds (base_of table i) (loads_of table.tasks i) (start_of start table i) (task_of table.tasks i).latest (task_of table.tasks i).deadline
