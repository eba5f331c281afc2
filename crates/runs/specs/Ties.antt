-- Why demand 3 keeps only its first half for a task whose priority another task has (SPECIFICATION 8.3; document 02, L6): a table for which
-- the second half is false.
-- Assumes nothing.
use Rattle.std.specs.Prelude.{ℕ, ◌+◌, ◌≤◌, ◌≡◌, List, [], ◌∷◌}
use Rattle.model.specs.Lists.{tabulate}
use Rattle.model.specs.Tables.{Task}
use Rattle.runs.specs.Jobs.{TasksFit, NoDelay}
use Rattle.runs.specs.Schedule.{Run}
use Rattle.runs.specs.Statement.{OwnJob, release_of, FinishedAt, Answers, response_of}

-- (2, 1, D)
abbrev pub twin : ℕ → Task
twin deadline = record { priority = 1; period = 2; cost = 1; deadline = deadline; earliest = 0; latest = 0 }

-- (2, 1, D) and (2, 1, 2), of one priority
abbrev pub twins : ℕ → List Task
twins deadline = twin deadline ∷ twin 2 ∷ []

pub record SecondHalfFails : Type 0 where
  -- In any legal run, and whatever its deadline, no job of place 0 takes more than 1 tick: the other task's job of the same release stands
  -- behind it, and one that is older is finished by then.
  pub in_one : (deadline : ℕ) (run : Run (twins deadline)) (job : OwnJob (twins deadline) 0 run) → release_of job + 1 ≤ run.ticks →
      FinishedAt job (release_of job + 1)
  -- Yet the answers of (2, 1, 2) and (2, 1, 2) are 2 and 2: no run needs all of the first one.
  pub answers : tabulate (response_of (twins 2)) 2 ≡ 2 ∷ 2 ∷ []
  pub not_all : TasksFit (twins 2) × NoDelay (twins 2) × (¬ Answers (twins 2) 0 2)
  -- And where it is due after 1 tick, its answer is 0, though no run misses that: "Answer 0 then means "not shown"."
  pub none : response_of (twins 1) 0 ≡ 0
  pub not_shown : TasksFit (twins 1) × NoDelay (twins 1) × (¬ Answers (twins 1) 0 0)
