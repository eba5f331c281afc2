-- The refusals, as a list of checks in their order (SPECIFICATION 3.1; document 01, "Refusals").
-- Assumes nothing.
use Rattle.std.specs.Prelude.{ℕ, Bool, List, [], ◌∷◌, leb, length, Ok}
use Rattle.model.specs.Choice.{both}
use Rattle.model.specs.Search.{first_of, clean_count}
use Rattle.tables.specs.declared.Refusal.TheVariants.{TooShort, UnknownVersion, LengthsDiffer, NoRoom}
use Rattle.tables.specs.Layout.{head_size, layout_of, task_count, row_count, task_at, row_at, cost_in}
use Rattle.tables.specs.Refusals.{Check, is_clean, unless, fields_check, first_in}
use Rattle.tables.specs.Fields.{count_order, count_refusal, record_order, refusal_in_record, RowField, row_order, refusal_in_row}
use Rattle.tables.specs.Rules.{count_test, lengths_agree, priority_fits, record_test, row_in_order, row_test}

-- refusal 3
unfoldable pub counts_check : List ℕ → Check
counts_check bytes = fields_check (count_test (layout_of bytes).most (task_count bytes) (row_count bytes)) count_refusal count_order

-- "Task records are taken in order, each tested for 5 and then 6". How many periods a deadline may span is the rule's argument, `span`.
unfoldable pub record_check : ℕ → List ℕ → ℕ → Check
record_check span bytes i =
    fields_check (record_test span (task_at bytes i) (priority_fits bytes i)) (refusal_in_record (layout_of bytes) i) record_order

-- the tests of row k, with the cost of the task that it names
abbrev pub row_tests : List ℕ → ℕ → RowField → Bool
row_tests bytes k =
    row_test (task_count bytes) (cost_in bytes (row_at bytes k).place) (row_in_order bytes k (row_at bytes k)) (row_at bytes k)

-- "then the rows in order for 7"
unfoldable pub row_check : List ℕ → ℕ → Check
row_check bytes k = fields_check (row_tests bytes k) (refusal_in_row (layout_of bytes) (task_count bytes) k) row_order

-- refusals 1 to 4
abbrev pub head_checks : List ℕ → List Check
head_checks bytes =
    unless (leb head_size (length bytes)) TooShort
    ∷ unless (layout_of bytes).known UnknownVersion
    ∷ counts_check bytes
    ∷ unless (lengths_agree bytes) LengthsDiffer
    ∷ []

unfoldable pub head_check : List ℕ → Check
head_check bytes = first_in (head_checks bytes)

-- refusals 5 and 6, of the records in order
unfoldable pub records_check : ℕ → List ℕ → Check
records_check span bytes = first_of is_clean (Ok tt) (record_check span bytes) (task_count bytes)

-- refusal 7, of the rows in order
unfoldable pub rows_check : List ℕ → Check
rows_check bytes = first_of is_clean (Ok tt) (row_check bytes) (row_count bytes)

-- refusals 5 to 7, of all that stands behind the head: "then the rows in order for 7"
unfoldable pub body_check : ℕ → List ℕ → Check
body_check span bytes = first_in (records_check span bytes ∷ rows_check bytes ∷ [])

-- refusals 1 to 7: all that is found in reading a table
unfoldable pub read_check : ℕ → List ℕ → Check
read_check span bytes = first_in (head_check bytes ∷ body_check span bytes ∷ [])

-- "an answer slice has fewer than n words"
unfoldable pub room_check : List ℕ → ℕ → ℕ → Check
room_check bytes answers rounds = unless (both (leb (task_count bytes) answers) (leb (task_count bytes) rounds)) NoRoom

-- The whole of it, over the bytes and the lengths of the two answer slices.
unfoldable pub table_check_spanning : ℕ → List ℕ → ℕ → ℕ → Check
table_check_spanning span bytes answers rounds =
    first_in (head_check bytes ∷ body_check span bytes ∷ room_check bytes answers rounds ∷ [])

-- by document 01's rules: a deadline spans one period
abbrev pub table_check : List ℕ → ℕ → ℕ → Check
table_check bytes answers rounds = table_check_spanning 1 bytes answers rounds

-- how many records, and how many rows, are read before a fault or the end
abbrev pub records_read : ℕ → List ℕ → ℕ
records_read span bytes = clean_count is_clean (Ok tt) (record_check span bytes) (task_count bytes)

abbrev pub rows_read : List ℕ → ℕ
rows_read bytes = clean_count is_clean (Ok tt) (row_check bytes) (row_count bytes)
