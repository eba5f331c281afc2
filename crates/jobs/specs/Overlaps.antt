-- The second analysis of one task (SPECIFICATION 13.8; document 02, L8, and source document 001): jobs of the task that overlap, for
-- q = 0, 1, 2 and so on. Nothing here iterates: w is searched for, and so is the q that ends it.
-- Assumes nothing.
use Rattle.std.specs.Prelude.{ℕ, ◌+◌, ◌*◌, ◌-◌, Bool, List, eqb, leb}
use Rattle.model.specs.Choice.{pick, either}
use Rattle.model.specs.Lists.{largest_to}
use Rattle.model.specs.Search.{first_from}
use Rattle.model.specs.Tables.{Table, Load, open_word, task_of, loads_of}
use Rattle.equation.specs.Answer.{smallest}
use Rattle.blocking.specs.Ceilings.{blocking_of}

-- what is known of the task: B, C, T and D, and the loads of the tasks that interfere with it
pub record Studied : Type 0 where
  pub blocking : ℕ
  pub cost : ℕ
  pub period : ℕ
  pub deadline : ℕ
  pub loads : List Load

-- "B + (1 + q)C"
abbrev pub base_at : Studied → ℕ → ℕ
base_at s q = s.blocking + (1 + q) * s.cost

-- D + qT: for a w above it R(q) is above D
abbrev pub limit_at : Studied → ℕ → ℕ
limit_at s q = s.deadline + q * s.period

-- "find the smallest w equal to B + (1 + q)C plus interference", of those from 1 to D + qT; 0 where none of them is one
unfoldable pub window_at : Studied → ℕ → ℕ
window_at s q = smallest (base_at s q) s.loads (limit_at s q)

-- "R(q) = w − qT"
unfoldable pub response_at : Studied → ℕ → ℕ
response_at s q = window_at s q - q * s.period

-- "A task is late as soon as some R(q) exceeds D or has no w": there is no w up to D + qT
abbrev pub late_at : Studied → ℕ → Bool
late_at s q = eqb (window_at s q) 0

-- late there, or "stop at the first R(q) ≤ T"
unfoldable pub ends_at : Studied → ℕ → Bool
ends_at s q = either (late_at s q) (leb (response_at s q) s.period)

-- is the last of the first k, which is q = k − 1, one that ends it?
abbrev pub ends_by : Studied → ℕ → Bool
ends_by s k = ends_at s (k - 1)

-- how many q are tried up to the first that ends it; 0 where none of "q = 0 to 63" does
unfoldable pub ended_after : Studied → ℕ
ended_after s = first_from (ends_by s) 1 64

-- "The first slice gets the answer, 0 for late and 4,294,967,295 for open": "the answer is the largest" R(q) of those tried
abbrev pub word_after : Studied → ℕ → ℕ
word_after s k = pick (eqb k 0) open_word (pick (late_at s (k - 1)) 0 (largest_to (response_at s) k))

unfoldable pub longest : Studied → ℕ
longest s = word_after s (ended_after s)

-- "the second gets the number of q tried": all 64 where none of them ended it
abbrev pub tried_after : ℕ → ℕ
tried_after k = pick (eqb k 0) 64 k

unfoldable pub tried : Studied → ℕ
tried s = tried_after (ended_after s)

-- the task at place i of a table
abbrev pub studied_of : Table → ℕ → Studied
studied_of table i =
    record {
      blocking = blocking_of table i;
      cost = (task_of table.tasks i).cost;
      period = (task_of table.tasks i).period;
      deadline = (task_of table.tasks i).deadline;
      loads = loads_of table.tasks i;
    }

unfoldable pub longest_of : Table → ℕ → ℕ
longest_of table i = longest (studied_of table i)

unfoldable pub tried_of : Table → ℕ → ℕ
tried_of table i = tried (studied_of table i)
