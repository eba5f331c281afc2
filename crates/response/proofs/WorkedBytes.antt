-- The worked tables as bytes: one test, computed over the whole list in each version, and the rule at each row of it.
-- Assumes nothing.
use Rattle.std.specs.Prelude.{Ok, Err}
use Prim.Native.Nat.{ℕ, ◌<◌}
use native.Mathlib.Omega.{arith}
use mathlib.Core.Path.{◌≡◌, refl, ◌∙◌, ap}
use mathlib.Core.Bool.{Bool, true, false}
use mathlib.Core.List.{List, [], ◌∷◌}
use lib.Dec.{eqb, leb}
use borrow.Author.Tests.{eqb-true, leb-true}
use Rattle.model.specs.Choice.{both}
use Rattle.model.specs.Lists.{tabulate, word_of}
use Rattle.model.specs.Search.{first_of}
use Rattle.model.specs.Tables.{Task, Row, Table}
use Rattle.model.proofs.Lists.{tabulate_same}
use Rattle.model.proofs.Tasks.{same_task_law, same_row_law}
use Rattle.model.proofs.Tests.{both_true, clash}
use Rattle.tables.specs.Layout.{layout_for, task_count, table_of}
use Rattle.tables.specs.Refusals.{Check, is_clean, unless, or_else, first_in, fields_check}
use Rattle.tables.specs.Rules.{count_test, lengths_agree, priority_fits, record_test, row_after, row_test}
use Rattle.tables.specs.Checks.{counts_check, record_check, row_check, head_check, records_check, rows_check, body_check, room_check, table_check_spanning, table_check}
use Rattle.tables.proofs.CheckLaws.{table_right}
use Rattle.encoding.specs.Bytes.{joined, encode}
use Rattle.encoding.specs.Statements.{AreBytes}
use Rattle.encoding.proofs.ByteLaws.{are_none, are_more}
use Rattle.response.specs.Analysis.{answer_of, rounds_of}
use Rattle.response.specs.Outcome.{lending}
use Rattle.response.specs.Statements.{Accepted}
use Rattle.response.specs.Worked.{Said, nothing, says, Worked, worked_table, tasks_in, worked_tables, Gives, WorkedRight, EachRight, WorkedTablesRight, versions_of, WorkedBytes, EachVersion, EachInBytes, WorkedTablesInBytes}
use Rattle.response.proofs.Demands.{answer_word, rounds_word}
use Rattle.response.proofs.WorkedTables.{same_by, same_by_law, worked_tables_right}

abbrev same_task : Task → Task → Bool
same_task a b =
    both (eqb a.priority b.priority)
    (both (eqb a.period b.period)
    (both (eqb a.cost b.cost)
    (both (eqb a.deadline b.deadline) (both (eqb a.earliest b.earliest) (eqb a.latest b.latest)))))

task_same : (a b : Task) → same_task a b ≡ true → a ≡ b
task_same a b p =
    let priority = both_true (eqb a.priority b.priority) _ p in
    let period = both_true (eqb a.period b.period) _ priority.1 in
    let cost = both_true (eqb a.cost b.cost) _ period.1 in
    let deadline = both_true (eqb a.deadline b.deadline) _ cost.1 in
    let delays = both_true (eqb a.earliest b.earliest) _ deadline.1 in
    same_task_law a b (eqb-true _ _ priority.0) (eqb-true _ _ period.0) (eqb-true _ _ cost.0) (eqb-true _ _ deadline.0)
    (eqb-true _ _ delays.0) (eqb-true _ _ delays.1)

abbrev same_row : Row → Row → Bool
same_row a b = both (eqb a.place b.place) (both (eqb a.semaphore b.semaphore) (eqb a.longest b.longest))

row_same : (a b : Row) → same_row a b ≡ true → a ≡ b
row_same a b p =
    let place = both_true (eqb a.place b.place) _ p in
    let rest = both_true (eqb a.semaphore b.semaphore) _ place.1 in
    same_row_law a b (eqb-true _ _ place.0) (eqb-true _ _ rest.0) (eqb-true _ _ rest.1)

abbrev same_table : Table → Table → Bool
same_table a b = both (same_by same_task a.tasks b.tasks) (same_by same_row a.rows b.rows)

table_same : (a b : Table) → same_table a b ≡ true → a ≡ b
table_same a b p =
    let each = both_true (same_by same_task a.tasks b.tasks) _ p in
    let tasks = same_by_law same_task task_same a.tasks b.tasks each.0 in
    let rows = same_by_law same_row row_same a.rows b.rows each.1 in
    λ i. record { tasks = tasks i; rows = rows i }

-- what is given does not change where the numbers are the same
gives_same : (f g : ℕ → ℕ) (n : ℕ) (said : Said) → ((i : ℕ) → i < n → f i ≡ g i) → Gives g n said → Gives f n said
gives_same f g n nothing same given = tt
gives_same f g n (says words) same given = tabulate_same f g n same ∙ given

-- is each number of a list a byte?
all_bytes : List ℕ → Bool
all_bytes [] = true
all_bytes (x ∷ xs) = both (leb x 255) (all_bytes xs)

all_bytes_law : (xs : List ℕ) → all_bytes xs ≡ true → AreBytes xs
unfolding all_bytes
all_bytes_law [] p = are_none
all_bytes_law (x ∷ xs) p =
    let b = both_true (leb x 255) (all_bytes xs) p in
    are_more x xs (leb-true x 255 b.0) (all_bytes_law xs b.1)

-- the test of one table in one version: its numbers are bytes, it is accepted, has as many tasks, and is read back
test : Worked → ℕ → Bool
test w version =
    both (all_bytes (encode version (worked_table w)))
    (both (is_clean (table_check (encode version (worked_table w)) (tasks_in w) (tasks_in w)))
    (both (eqb (task_count (encode version (worked_table w))) (tasks_in w))
    (same_table (table_of (encode version (worked_table w))) (worked_table w))))

clean_is : (c : Check) → is_clean c ≡ true → c ≡ Ok tt
clean_is (Ok _) p = refl
clean_is (Err r) p = absurd (clash false p refl)

module _ (w : Worked) (version : ℕ) where
  abbrev bytes : List ℕ
  bytes = encode version (worked_table w)

  abbrev n : ℕ
  n = tasks_in w

  -- what the test says is what is wanted
  worked_bytes : WorkedRight w → AreBytes bytes → table_check bytes n n ≡ Ok tt → task_count bytes ≡ n → table_of bytes ≡ worked_table w → WorkedBytes w version
  worked_bytes right are clean counted back =
      let accepted = (table_right 1 bytes n n clean).0 in
      record {
        are_bytes = are;
        accepted = accepted;
        read_back = back;
        answered = λ start answers rounds result o answers_long rounds_long.
            let lent = lending bytes answers rounds in
            let a : Accepted lent =
            record { right = accepted; room = record { answers_long = omega (arith, counted); rounds_long = omega (arith, counted) } } in (
              gives_same (word_of result.answers) (answer_of (worked_table w)) n w.answers
                  (λ i h. answer_word start lent result o a i (omega (arith, counted)) ∙ ap (λ (t : Table). answer_of t i) back)
                  right.answers_said,
              gives_same (word_of result.rounds) (rounds_of start (worked_table w)) n (w.rounds start)
                  (λ i h. rounds_word start lent result o a i (omega (arith, counted)) ∙ ap (λ (t : Table). rounds_of start t i) back)
                  (right.rounds_said start),
            );
      }

  test_means : WorkedRight w → test w version ≡ true → WorkedBytes w version
  unfolding test
  test_means right p =
      let numbers = both_true (all_bytes bytes) _ p in
      let first = both_true (is_clean (table_check bytes n n)) _ numbers.1 in
      let second = both_true (eqb (task_count bytes) n) (same_table (table_of bytes) (worked_table w)) first.1 in
      worked_bytes right (all_bytes_law bytes numbers.0) (clean_is (table_check bytes n n) first.0) (eqb-true (task_count bytes) n second.0)
      (table_same (table_of bytes) (worked_table w) second.1)

-- over the versions of a table, and over all tables
test_each : Worked → List ℕ → Bool
test_each w [] = true
test_each w (version ∷ versions) = both (test w version) (test_each w versions)

each_version : (w : Worked) → WorkedRight w → (versions : List ℕ) → test_each w versions ≡ true → EachVersion w versions
unfolding test_each
each_version w right [] p = tt
each_version w right (version ∷ versions) p =
    let b = both_true (test w version) (test_each w versions) p in
    (test_means w version right b.0, each_version w right versions b.1)

test_all : List Worked → Bool
test_all [] = true
test_all (w ∷ ws) = both (test_each w (versions_of w)) (test_all ws)

each_in_bytes : (ws : List Worked) → EachRight ws → test_all ws ≡ true → EachInBytes ws
unfolding test_all
each_in_bytes [] right p = tt
each_in_bytes (w ∷ ws) right p =
    let b = both_true (test_each w (versions_of w)) (test_all ws) p in
    (each_version w right.0 (versions_of w) b.0, each_in_bytes ws right.1 b.1)

computed : test_all worked_tables ≡ true
unfolding test_all test_each test all_bytes same_by worked_tables tabulate joined layout_for first_of unless or_else first_in fields_check count_test lengths_agree priority_fits record_test row_after row_test counts_check record_check row_check head_check records_check rows_check body_check room_check table_check_spanning
computed = refl

pub worked_tables_in_bytes : WorkedTablesInBytes
unfolding WorkedTablesInBytes WorkedTablesRight
worked_tables_in_bytes = each_in_bytes worked_tables worked_tables_right computed
