-- What is claimed of the checker for the bytes of any table and any list of words (SPECIFICATION 13.7; document 02, L7), as named statements
-- about what `check_claims` answers (`Checked`, its contract). The proofs are in proofs/Claims.antt, Versions.antt and FirstLaws.antt.
-- Assumes nothing.
use Rattle.std.specs.Prelude.{ℕ, ◌+◌, ◌≤◌, ◌<◌, ◌≡◌, ◌≢◌, List, length, take}
use Rattle.model.specs.Lists.{word_of}
use Rattle.model.specs.Tables.{Table, task_of, loads_of}
use Rattle.tables.specs.Layout.{version_of, task_count, row_count, tasks_of, table_of}
use Rattle.tables.specs.Meaning.{TableRight, RoomFor}
use Rattle.tables.specs.Deserved.{Deserved}
use Rattle.tables.specs.FirstBytes.{kept_of}
use Rattle.equation.specs.Demand.{demand}
use Rattle.equation.specs.declared.Start.{Start}
use Rattle.runs.specs.Jobs.{NoDelay}
use Rattle.runs.specs.Statement.{NoneExceeds}
use Rattle.answering.specs.declared.Verdict.TheVariants.{Schedulable}
use Rattle.response.specs.Analysis.{base_of}
use Rattle.response.specs.Outcome.{Call, Left, Outcome}
use Rattle.response.specs.Versions.{as_three}
use Rattle.claims.specs.declared.Claimed.{Claimed}
use Rattle.claims.specs.declared.Claimed.TheVariants.{Refused, WrongCount, Pass, Fails}
use Rattle.claims.specs.Claims.{claimed_of, Checked}

-- "claim r passes if w = r minus the latest delay is at least 1, r is within the deadline, and demand at w is at most w", without any test
pub record Passes (table : Table) (i r : ℕ) : Type 0 where
  pub w : ℕ
  pub difference : w + (task_of table.tasks i).latest ≡ r
  pub positive : 1 ≤ w
  pub in_time : r ≤ (task_of table.tasks i).deadline
  pub enough : demand (base_of table i) (loads_of table.tasks i) w ≤ w

-- the claims of the places before k pass
abbrev pub PassBefore : List ℕ → List ℕ → ℕ → Type 0
PassBefore bytes claims k = (i : ℕ) → i < k → Passes (table_of bytes) i (word_of claims i)

-- the table breaks no rule, and there is a claim for each task
pub record Compared (bytes claims : List ℕ) : Type 0 where
  pub right : TableRight bytes
  pub counted : length claims ≡ task_count bytes

-- When each answer is right. "Refusals 1 to 7 come first": those that the analysis gives where it is lent a word for each task. "then a
-- claim list with fewer or more words than tasks is refused with 10, place 0. Otherwise the answer is pass, or the first place that fails."
abbrev pub ClaimedRight : List ℕ → List ℕ → Claimed → Type 0
ClaimedRight bytes claims (Refused refusal) = Deserved bytes (task_count bytes) (task_count bytes) refusal
ClaimedRight bytes claims WrongCount = TableRight bytes × (length claims ≢ task_count bytes)
ClaimedRight bytes claims Pass = Compared bytes claims × PassBefore bytes claims (task_count bytes)
ClaimedRight bytes claims (Fails place) =
    Compared bytes claims × (place.0 < task_count bytes) × (¬ Passes (table_of bytes) place.0 (word_of claims place.0))
    × PassBefore bytes claims place.0

-- Any bytes and any list get an answer: `check_claims` has no `requires` and is proved to return. It is right, and these sentences alone leave
-- no second one: so a refusal is given exactly when it is deserved, pass exactly where every claim passes, and a place exactly where it is the
-- first that fails.
pub record ClaimsChecked : Type 0 where
  pub answered : (bytes claims : List ℕ) → (claimed : Claimed) × Checked bytes claims claimed
  pub right : (bytes claims : List ℕ) (claimed : Claimed) → Checked bytes claims claimed → ClaimedRight bytes claims claimed
  pub only : (bytes claims : List ℕ) (claimed other : Claimed) → ClaimedRight bytes claims claimed → ClaimedRight bytes claims other →
      claimed ≡ other

-- the contract leaves no second answer either
abbrev pub NoSecondClaimed : Type 0
NoSecondClaimed =
    (bytes claims : List ℕ) (claimed other : Claimed) → Checked bytes claims claimed → Checked bytes claims other → claimed ≡ other

-- "If all pass, the table is schedulable and no true answer is above its claim": so the analysis of the same bytes says, from either start,
-- lent a word for each task, and so are the words that it leaves.
abbrev pub ClaimsSound : Type 0
ClaimsSound =
    (start : Start) (lent : Call) (result : Left) (claims : List ℕ) → Outcome start lent result →
    RoomFor lent.bytes (length lent.answers) (length lent.rounds) → Checked lent.bytes claims Pass →
    (result.verdict ≡ Schedulable) × ((i : ℕ) → i < task_count lent.bytes → word_of result.answers i ≤ word_of claims i)

-- "a schedulable table's true answers always pass": the words that the analysis leaves, one for each task
abbrev pub ClaimsComplete : Type 0
ClaimsComplete =
    (start : Start) (lent : Call) (result : Left) (claimed : Claimed) → Outcome start lent result → result.verdict ≡ Schedulable →
    Checked lent.bytes (take (task_count lent.bytes) result.answers) claimed → claimed ≡ Pass

-- Demand 3's first half for claims (SPECIFICATION 8.3): where no task has a delay and there is no row, and all pass, every job of every legal
-- run is finished by its claim after its release. Equal priorities are allowed.
abbrev pub ClaimsInRuns : Type 0
ClaimsInRuns =
    (bytes claims : List ℕ) → Checked bytes claims Pass → NoDelay (tasks_of bytes) → row_count bytes ≡ 0 →
    (i : ℕ) → i < task_count bytes → (1 ≤ word_of claims i) × NoneExceeds (tasks_of bytes) i (word_of claims i)

-- "Version 3 has version 2's layout" (SPECIFICATION 13.9; document 02, L9): with at most 32 tasks the same bytes in either version, right
-- or wrong, get the same answer for the same list.
abbrev pub ClaimsInVersionThree : Type 0
ClaimsInVersionThree =
    (bytes claims : List ℕ) → version_of bytes ≡ 2 → task_count bytes ≤ 32 → claimed_of (as_three bytes) claims ≡ claimed_of bytes claims

-- "Bytes after the 4,590th are dropped, with the same refusals" (SPECIFICATION 13.13; document 02, L11): the claims for a table that came
-- through an intake are judged as those for all its bytes.
abbrev pub ClaimsOfFirstBytes : Type 0
ClaimsOfFirstBytes = (bytes claims : List ℕ) → claimed_of (kept_of bytes) claims ≡ claimed_of bytes claims
