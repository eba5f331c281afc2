-- The worked tables that are marked * (SPECIFICATION 12; document 01, "Worked tables", and document 02, L4, L5 and L6), as rows of one
-- list under one statement.
-- Assumes nothing.
use Rattle.std.specs.Prelude.{ℕ, suc, ◌≤◌, ◌≡◌, Bool, true, List, [], ◌∷◌, eqb, length}
use Rattle.model.specs.Choice.{pick, both}
use Rattle.model.specs.Lists.{tabulate, word_of}
use Rattle.model.specs.Tables.{Task, Row, Table}
use Rattle.tables.specs.Layout.{table_of}
use Rattle.tables.specs.Meaning.{TableRight}
use Rattle.encoding.specs.Bytes.{encode}
use Rattle.encoding.specs.Statements.{AreBytes}
use Rattle.blocking.specs.Ceilings.{blocking_of}
use Rattle.equation.specs.declared.Start.{Start}
use Rattle.equation.specs.declared.Start.TheVariants.{EveryCost, OwnCost}
use Rattle.response.specs.Analysis.{answer_of, rounds_of}
use Rattle.response.specs.Outcome.{Left, lending, Outcome}

-- "entries are (T, C, D), with J 0 and no rows unless given"
pub record Entry : Type 0 where
  pub period : ℕ
  pub cost : ℕ
  pub deadline : ℕ
  pub earliest : ℕ
  pub latest : ℕ

abbrev pub entry : ℕ → ℕ → ℕ → Entry
entry period cost deadline = record { period = period; cost = cost; deadline = deadline; earliest = 0; latest = 0 }

-- with two delays; J alone is the latest
abbrev pub delayed : ℕ → ℕ → ℕ → ℕ → ℕ → Entry
delayed period cost deadline earliest latest =
    record { period = period; cost = cost; deadline = deadline; earliest = earliest; latest = latest }

abbrev pub row : ℕ → ℕ → ℕ → Row
row place semaphore longest = record { place = place; semaphore = semaphore; longest = longest }

-- an entry of that priority
abbrev pub ranked : ℕ → Entry → Task
ranked priority e =
    record {
      priority = priority;
      period = e.period;
      cost = e.cost;
      deadline = e.deadline;
      earliest = e.earliest;
      latest = e.latest;
    }

-- "Priorities fall down each list"
abbrev pub prioritised : List Entry → List Task
prioritised [] = []
prioritised (e ∷ es) = ranked (suc (length es)) e ∷ prioritised es

-- what the document says, where it says it
pub data Said : Type 0 where
  nothing : Said
  says : List ℕ → Said

pub record Worked : Type 0 where
  pub tasks : List Task
  pub rows : List Row
  pub blocking : Said
  pub answers : Said
  pub rounds : Start → Said

-- no rounds are given
abbrev pub uncounted : Start → Said
uncounted start = nothing

-- document 01's rounds, and L5's
abbrev pub both_counted : List ℕ → List ℕ → Start → Said
both_counted own every OwnCost = says own
both_counted own every EveryCost = says every

abbrev pub plain : List Entry → List ℕ → Worked
plain entries answers = record { tasks = prioritised entries; rows = []; blocking = nothing; answers = says answers; rounds = uncounted }

-- with the priorities as they are given
abbrev pub counted_tasks : List Task → List ℕ → (own every : List ℕ) → Worked
counted_tasks tasks answers own every =
    record { tasks = tasks; rows = []; blocking = nothing; answers = says answers; rounds = both_counted own every }

abbrev pub counted : List Entry → List ℕ → (own every : List ℕ) → Worked
counted entries = counted_tasks (prioritised entries)

abbrev pub worked_table : Worked → Table
worked_table w = record { tasks = w.tasks; rows = w.rows }

-- how many tasks it has
abbrev pub tasks_in : Worked → ℕ
tasks_in w = length w.tasks

unfoldable pub worked_tables : List Worked
worked_tables =
    plain (entry 1 1 1 ∷ []) (1 ∷ [])
    ∷ plain (entry 9 5 5 ∷ []) (5 ∷ [])
    ∷ plain (entry 9 6 5 ∷ []) (0 ∷ [])
    ∷ plain (entry 2 1 2 ∷ entry 6 3 6 ∷ []) (1 ∷ 6 ∷ [])
    ∷ counted (entry 4 1 4 ∷ entry 6 2 6 ∷ entry 10 3 10 ∷ []) (1 ∷ 3 ∷ 10 ∷ []) (1 ∷ 2 ∷ 5 ∷ []) (1 ∷ 1 ∷ 4 ∷ [])
    ∷ plain (entry 3 1 3 ∷ entry 5 1 5 ∷ entry 6 1 6 ∷ entry 10 2 10 ∷ []) (1 ∷ 2 ∷ 3 ∷ 9 ∷ [])
    ∷ plain (entry 10 1 3 ∷ entry 6 2 4 ∷ entry 5 1 5 ∷ []) (1 ∷ 3 ∷ 4 ∷ [])
    ∷ plain (entry 5 1 5 ∷ entry 6 2 4 ∷ entry 10 1 3 ∷ []) (1 ∷ 3 ∷ 0 ∷ [])
    ∷ plain (entry 6 4 6 ∷ entry 12 4 12 ∷ []) (4 ∷ 12 ∷ [])
    ∷ plain (entry 6 3 6 ∷ entry 12 8 12 ∷ []) (3 ∷ 0 ∷ [])
    ∷ counted (delayed 30 10 20 0 10 ∷ entry 1000 15 25 ∷ []) (20 ∷ 0 ∷ []) (1 ∷ 2 ∷ []) (1 ∷ 1 ∷ [])
    ∷ plain (delayed 30 10 20 10 10 ∷ entry 1000 15 25 ∷ []) (20 ∷ 25 ∷ [])
    ∷ counted_tasks (ranked 2 (entry 4 1 4) ∷ ranked 1 (entry 6 2 6) ∷ ranked 1 (entry 10 3 10) ∷ []) (1 ∷ 0 ∷ 10 ∷ []) (1 ∷ 2 ∷ 5 ∷ []) (1 ∷ 1 ∷ 4 ∷ [])
    ∷ counted_tasks (ranked 1 (entry 2 1 2) ∷ ranked 1 (entry 2 1 2) ∷ []) (2 ∷ 2 ∷ []) (2 ∷ 2 ∷ []) (1 ∷ 1 ∷ [])
    ∷ record {
      tasks = prioritised (entry 10 2 5 ∷ entry 20 3 12 ∷ entry 40 10 40 ∷ entry 100 4 50 ∷ []);
      rows = row 1 1 1 ∷ row 1 2 1 ∷ row 2 2 5 ∷ row 3 1 2 ∷ [];
      blocking = says (0 ∷ 5 ∷ 2 ∷ 0 ∷ []);
      answers = says (2 ∷ 10 ∷ 19 ∷ 26 ∷ []);
      rounds = uncounted;
    }
    ∷ []

-- a function of the place gives what is said, task by task
abbrev pub Gives : (ℕ → ℕ) → ℕ → Said → Type 0
Gives f n nothing = Unit {0}
Gives f n (says words) = tabulate f n ≡ words

pub record WorkedRight (w : Worked) : Type 0 where
  pub blocking_said : Gives (blocking_of (worked_table w)) (tasks_in w) w.blocking
  pub answers_said : Gives (answer_of (worked_table w)) (tasks_in w) w.answers
  pub rounds_said : (start : Start) → Gives (rounds_of start (worked_table w)) (tasks_in w) (w.rounds start)

abbrev pub EachRight : List Worked → Type 0
EachRight [] = Unit {0}
EachRight (w ∷ ws) = WorkedRight w × EachRight ws

-- Every worked table has the blocking, the answers and, from each start, the rounds that the documents give.
unfoldable pub WorkedTablesRight : Type 0
WorkedTablesRight = EachRight worked_tables

-- J alone is enough where no task has an earliest delay, so that every version can hold the table; else versions 2 and 3 can
abbrev pub no_earliest : List Task → Bool
no_earliest [] = true
no_earliest (t ∷ ts) = both (eqb t.earliest 0) (no_earliest ts)

abbrev pub versions_of : Worked → List ℕ
versions_of w = pick (no_earliest w.tasks) (1 ∷ 2 ∷ 3 ∷ []) (2 ∷ 3 ∷ [])

-- The table's bytes in a version are bytes, are accepted and read back as it, and what is left for them, from each start, is what is
-- said.
pub record WorkedBytes (w : Worked) (version : ℕ) : Type 0 where
  pub are_bytes : AreBytes (encode version (worked_table w))
  pub accepted : TableRight (encode version (worked_table w))
  pub read_back : table_of (encode version (worked_table w)) ≡ worked_table w
  pub answered : (start : Start) (answers rounds : List ℕ) (result : Left) →
      Outcome start (lending (encode version (worked_table w)) answers rounds) result →
      tasks_in w ≤ length answers → tasks_in w ≤ length rounds →
      Gives (word_of result.answers) (tasks_in w) w.answers
      × Gives (word_of result.rounds) (tasks_in w) (w.rounds start)

abbrev pub EachVersion : Worked → List ℕ → Type 0
EachVersion w [] = Unit {0}
EachVersion w (version ∷ versions) = WorkedBytes w version × EachVersion w versions

abbrev pub EachInBytes : List Worked → Type 0
EachInBytes [] = Unit {0}
EachInBytes (w ∷ ws) = EachVersion w (versions_of w) × EachInBytes ws

-- So the worked tables are about bytes: every one of them, in every version that can hold it.
unfoldable pub WorkedTablesInBytes : Type 0
WorkedTablesInBytes = EachInBytes worked_tables
