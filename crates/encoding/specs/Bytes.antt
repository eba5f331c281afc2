-- The bytes of a list of tasks and rows, in each version (SPECIFICATION 2; document 01, "The table's bytes"; document 02, L4 and L9).
-- The reader goes from bytes to tasks; this is the way back.
-- Assumes nothing.
use Rattle.std.specs.Prelude.{ℕ, ◌/◌, ◌%◌, List, [], ◌∷◌, ◌++◌, length}
use Rattle.model.specs.Tables.{Task, Row, Table}
use Rattle.tables.specs.declared.layout.DelayFields.{DelayFields}
use Rattle.tables.specs.declared.layout.DelayFields.TheVariants.{Jitter, Pair}
use Rattle.tables.specs.Layout.{layout_for, length_for}

-- "All numbers are unsigned and big-endian.": a number in two bytes, and in four
abbrev pub two_bytes : ℕ → List ℕ
two_bytes x = x / 256 ∷ x % 256 ∷ []

abbrev pub four_bytes : ℕ → List ℕ
four_bytes x = x / 16777216 ∷ x / 65536 % 256 ∷ x / 256 % 256 ∷ x % 256 ∷ []

-- the version, the "length of the whole table in bytes", n and m
abbrev pub head_bytes : (version n m : ℕ) → List ℕ
head_bytes version n m = (version ∷ two_bytes (length_for (layout_for version) n m)) ++ (n ∷ m ∷ [])

-- "jitter J", which is the latest delay, or "earliest and latest delay in place of J"
abbrev pub delay_bytes : DelayFields → Task → List ℕ
delay_bytes Jitter t = four_bytes t.latest
delay_bytes Pair t = four_bytes t.earliest ++ four_bytes t.latest

-- "priority (1 byte), period T, cost C, deadline D, jitter J (4 bytes each)"
abbrev pub record_bytes : DelayFields → Task → List ℕ
record_bytes delays t =
    (t.priority ∷ four_bytes t.period) ++ (four_bytes t.cost ++ (four_bytes t.deadline ++ delay_bytes delays t))

-- "task place (1), semaphore (1), longest section (4)"
abbrev pub row_bytes : Row → List ℕ
row_bytes r = r.place ∷ r.semaphore ∷ four_bytes r.longest

-- the bytes of each, one behind another
unfoldable pub joined : {A : Type 0} → (A → List ℕ) → List A → List ℕ
joined bytes [] = []
joined bytes (x ∷ xs) = bytes x ++ joined bytes xs

-- the head, "then n × 17" or 21 of the tasks, "then m × 6" of the rows
abbrev pub encode : (version : ℕ) → Table → List ℕ
encode version table =
    head_bytes version (length table.tasks) (length table.rows)
    ++ (joined (record_bytes (layout_for version).delays) table.tasks ++ joined row_bytes table.rows)
