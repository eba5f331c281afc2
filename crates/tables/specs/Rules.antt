-- The rules of the table's bytes (SPECIFICATION 2; document 01, "The table's bytes"), as tests.
-- Assumes nothing.
use Rattle.std.specs.Prelude.{ℕ, ◌*◌, ◌-◌, min, Bool, List, eqb, leb, ltb, length}
use Rattle.model.specs.Choice.{both, either}
use Rattle.model.specs.Tables.{Task, Row}
use Rattle.tables.specs.Fields.{CountField, task_count_field, row_count_field, RecordField, period_field, cost_field, deadline_field, earliest_field, latest_field, priority_field, RowField, place_field, semaphore_field, longest_field, order_field}
use Rattle.tables.specs.Layout.{layout_of, stated_length, task_count, row_count, length_for, task_at, row_at}

-- is x between low and high, both allowed?
abbrev pub between : ℕ → ℕ → ℕ → Bool
between low high x = both (leb low x) (leb x high)

-- "n, number of tasks, 1 to 32" (what the version allows at most), "m, number of section rows, 0 to 64"
unfoldable pub count_test : ℕ → ℕ → ℕ → CountField → Bool
count_test most n m task_count_field = between 1 most n
count_test most n m row_count_field = between 0 64 m

-- "stated length, lent length and 5 + 17n + 6m .. all equal" (or 5 + 21n + 6m)
unfoldable pub lengths_agree : List ℕ → Bool
lengths_agree bytes =
    both (eqb (stated_length bytes) (length bytes))
    (eqb (length_for (layout_of bytes) (task_count bytes) (row_count bytes)) (length bytes))

-- "Priorities are 1 to 255", and "Records may now repeat a priority but not rise" (SPECIFICATION 2.3; document 02, L6)
unfoldable pub priority_fits : List ℕ → ℕ → Bool
priority_fits bytes i =
    both (leb 1 (task_at bytes i).priority) (either (eqb i 0) (leb (task_at bytes i).priority (task_at bytes (i - 1)).priority))

-- The longest deadline of a task of that period, where a deadline may span so many periods: that many, and no more than 1,000,000
-- ticks. One period is document 01's rule, "D is 1 to T": no T is above 1,000,000.
abbrev pub longest_deadline : ℕ → ℕ → ℕ
longest_deadline span period = min (span * period) 1000000

-- "T and C are 1 to 1,000,000. D is 1 to T. J is 0 to 1,000,000."; "earliest at most latest, both at most 1,000,000"; and
-- the priority, whose test needs the record before. D is 1 to `span` times T.
unfoldable pub record_test : ℕ → Task → Bool → RecordField → Bool
record_test span t in_order period_field = between 1 1000000 t.period
record_test span t in_order cost_field = between 1 1000000 t.cost
record_test span t in_order deadline_field = between 1 (longest_deadline span t.period) t.deadline
record_test span t in_order earliest_field = between 0 1000000 t.earliest
record_test span t in_order latest_field = between t.earliest 1000000 t.latest
record_test span t in_order priority_field = in_order

-- "Rows strictly rise by place, then semaphore."
unfoldable pub row_after : Row → Row → Bool
row_after before row =
    either (ltb before.place row.place) (both (eqb before.place row.place) (ltb before.semaphore row.semaphore))

-- is row k in order, behind the row before it?
abbrev pub row_in_order : List ℕ → ℕ → Row → Bool
row_in_order bytes k row = either (eqb k 0) (row_after (row_at bytes (k - 1)) row)

-- "A section row names a place 0 to n−1, a semaphore 1 to 16 and a length 1 to that task's C.", and stands in order
unfoldable pub row_test : ℕ → ℕ → Bool → Row → RowField → Bool
row_test n cost in_order row place_field = ltb row.place n
row_test n cost in_order row semaphore_field = between 1 16 row.semaphore
row_test n cost in_order row longest_field = between 1 cost row.longest
row_test n cost in_order row order_field = in_order
