-- What is said of a list of claims, for any bytes and any list of words (SPECIFICATION 13.7; document 02, L7).
-- Assumes nothing.
use Rattle.std.specs.Prelude.{ℕ, ◌-◌, ◌≡◌, Bool, true, false, List, eqb, leb, length, Ok, Err}
use Rattle.model.specs.Choice.{pick, both}
use Rattle.model.specs.Lists.{word_of}
use Rattle.model.specs.Search.{first_of}
use Rattle.model.specs.Tables.{Table, Load, task_of, loads_of}
use Rattle.tables.specs.Layout.{task_count, table_of}
use Rattle.tables.specs.Refusals.{Check, at}
use Rattle.tables.specs.Checks.{read_check}
use Rattle.equation.specs.Demand.{demand}
use Rattle.response.specs.Analysis.{base_of}
use Rattle.claims.specs.declared.Claimed.{Claimed}
use Rattle.claims.specs.declared.Claimed.TheVariants.{Refused, WrongCount, Pass, Fails}

-- "claim r passes if w = r minus the latest delay is at least 1, r is within the deadline, and demand at w is at most w" (where the latest
-- delay is above r, the difference of natural numbers is 0)
unfoldable pub claim_passes : ℕ → List Load → ℕ → ℕ → ℕ → Bool
claim_passes base loads latest deadline r =
    let w = r - latest in
    both (leb 1 w) (both (leb r deadline) (leb (demand base loads w) w))

-- for the task at place i of a table, and a list of claims
unfoldable pub passes_at : Table → List ℕ → ℕ → Bool
passes_at table claims i =
    claim_passes (base_of table i) (loads_of table.tasks i) (task_of table.tasks i).latest (task_of table.tasks i).deadline (word_of claims i)

abbrev pub is_pass : Claimed → Bool
is_pass (Refused refusal) = false
is_pass WrongCount = false
is_pass Pass = true
is_pass (Fails place) = false

-- fails at a place, where the test of its claim does
abbrev pub fails_at : (ℕ → Bool) → ℕ → Claimed
fails_at passes i = pick (passes i) Pass (Fails (at i))

-- "Otherwise the answer is pass, or the first place that fails."
abbrev pub compared_of : (ℕ → Bool) → ℕ → Claimed
compared_of passes n = first_of is_pass Pass (fails_at passes) n

-- "Refusals 1 to 7 come first; then a claim list with fewer or more words than tasks is refused with 10, place 0."
abbrev pub claimed_for : Check → Bool → Claimed → Claimed
claimed_for (Err refusal) counted compared = Refused refusal
claimed_for (Ok _) counted compared = pick counted compared WrongCount

unfoldable pub claimed_of : List ℕ → List ℕ → Claimed
claimed_of bytes claims =
    claimed_for (read_check 1 bytes) (eqb (length claims) (task_count bytes)) (compared_of (passes_at (table_of bytes) claims) (task_count bytes))

-- The whole outcome of a call: nothing is written.
abbrev pub Checked : List ℕ → List ℕ → Claimed → Type 0
Checked bytes claims claimed = claimed ≡ claimed_of bytes claims
