-- The fields that have a rule, in the order in which they are tested, and the refusal of each, at its first byte (SPECIFICATION 3.1 and
-- 3.3; document 02, L3 and L4).
-- Assumes nothing.
use Rattle.std.specs.Prelude.{ℕ, ◌+◌, List, [], ◌∷◌}
use Rattle.tables.specs.declared.layout.Layout.{Layout}
use Rattle.tables.specs.declared.Refusal.{Refusal}
use Rattle.tables.specs.declared.Refusal.TheVariants.{CountOutOfRange, NumberOutOfRange, PriorityOutOfOrder, SectionRow}
use Rattle.tables.specs.Layout.{record_start, row_start, task_count_at, row_count_at, priority_at, period_at, cost_at, deadline_at, earliest_at, latest_at, place_at, semaphore_at, longest_at}
use Rattle.tables.specs.Refusals.{offset}

pub data CountField : Type 0 where
  task_count_field : CountField
  row_count_field : CountField

pub data RecordField : Type 0 where
  period_field : RecordField
  cost_field : RecordField
  deadline_field : RecordField
  earliest_field : RecordField
  latest_field : RecordField
  priority_field : RecordField

-- the last is no field of its own: it is the row's order
pub data RowField : Type 0 where
  place_field : RowField
  semaphore_field : RowField
  longest_field : RowField
  order_field : RowField

-- "Refusal 3 points at byte 3, or 4 if only m is wrong."
abbrev pub count_order : List CountField
count_order = task_count_field ∷ row_count_field ∷ []

abbrev pub count_refusal : CountField → Refusal
count_refusal task_count_field = CountOutOfRange (offset task_count_at)
count_refusal row_count_field = CountOutOfRange (offset row_count_at)

-- "the first faulty field, taken as T, C, D, J, priority", and "a faulty delay points at the earliest if that is out of range, else at
-- the latest". J is the latest; where a layout has no earliest, that is 0, and no fault.
abbrev pub record_order : List RecordField
record_order = period_field ∷ cost_field ∷ deadline_field ∷ earliest_field ∷ latest_field ∷ priority_field ∷ []

-- 5 for a number and 6 for the priority, in the record that begins at `start`
abbrev pub record_refusal : Layout → ℕ → RecordField → Refusal
record_refusal layout start period_field = NumberOutOfRange (offset (start + period_at))
record_refusal layout start cost_field = NumberOutOfRange (offset (start + cost_at))
record_refusal layout start deadline_field = NumberOutOfRange (offset (start + deadline_at))
record_refusal layout start earliest_field = NumberOutOfRange (offset (start + earliest_at))
record_refusal layout start latest_field = NumberOutOfRange (offset (start + latest_at layout.delays))
record_refusal layout start priority_field = PriorityOutOfOrder (offset (start + priority_at))

abbrev pub refusal_in_record : Layout → ℕ → RecordField → Refusal
refusal_in_record layout i = record_refusal layout (record_start layout i)

-- "in a row place, semaphore, length, then row order (at the row's first byte)"
abbrev pub row_order : List RowField
row_order = place_field ∷ semaphore_field ∷ longest_field ∷ order_field ∷ []

abbrev pub order_at : ℕ
order_at = 0

-- 7, in the row that begins at `start`
abbrev pub row_refusal : ℕ → RowField → Refusal
row_refusal start place_field = SectionRow (offset (start + place_at))
row_refusal start semaphore_field = SectionRow (offset (start + semaphore_at))
row_refusal start longest_field = SectionRow (offset (start + longest_at))
row_refusal start order_field = SectionRow (offset (start + order_at))

-- in row k, behind n records
abbrev pub refusal_in_row : Layout → ℕ → ℕ → RowField → Refusal
refusal_in_row layout n k = row_refusal (row_start layout n k)
