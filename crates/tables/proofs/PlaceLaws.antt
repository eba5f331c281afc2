-- How far on the place of a refusal can be.
-- Assumes nothing.
use Prim.Native.Nat.{ℕ, ◌+◌, ◌≤◌, ◌<◌}
use native.Mathlib.Omega.{arith}
use mathlib.Core.Path.{ap}
use mathlib.Core.List.{List}
use Rattle.tables.specs.declared.layout.Layout.{Layout}
use Rattle.tables.specs.declared.Refusal.{Refusal}
use Rattle.tables.specs.declared.Refusal.TheVariants.{TooShort, UnknownVersion, CountOutOfRange, LengthsDiffer, NumberOutOfRange, PriorityOutOfOrder, SectionRow, NoRoom, NotPlayable}
use Rattle.tables.specs.Layout.{layout_of, task_count, record_start, row_start, Sound}
use Rattle.tables.specs.Refusals.{place_of}
use Rattle.tables.specs.Fields.{CountField, task_count_field, row_count_field, count_refusal, RecordField, period_field, cost_field, deadline_field, earliest_field, latest_field, priority_field, record_refusal, RowField, place_field, semaphore_field, longest_field, order_field, row_refusal}
use Rattle.tables.specs.Meaning.{HeadRight}
use Rattle.tables.specs.Deserved.{RecordFault, DeservedSpanning}
use Rattle.tables.proofs.LayoutLaws.{layout_sound, record_inside, start_small}

-- a field's first byte lies in the head, in its record, in its row
count_place : (field : CountField) → place_of (count_refusal field) < 5
count_place task_count_field = omega arith
count_place row_count_field = omega arith

record_place : (layout : Layout) → Sound layout → (start : ℕ) (field : RecordField) → place_of (record_refusal layout start field) < start + layout.size
record_place layout s start period_field = omega (arith, s.fields, s.latest_inside)
record_place layout s start cost_field = omega (arith, s.fields, s.latest_inside)
record_place layout s start deadline_field = omega (arith, s.fields, s.latest_inside)
record_place layout s start earliest_field = omega (arith, s.fields, s.latest_inside)
record_place layout s start latest_field = omega (arith, s.fields, s.latest_inside)
record_place layout s start priority_field = omega (arith, s.fields, s.latest_inside)

row_place : (start : ℕ) (field : RowField) → place_of (row_refusal start field) < start + 6
row_place start place_field = omega arith
row_place start semaphore_field = omega arith
row_place start longest_field = omega arith
row_place start order_field = omega arith

-- where the rows begin
records_end : (bytes : List ℕ) → HeadRight bytes → record_start (layout_of bytes) (task_count bytes) ≤ 5360
records_end bytes head =
    let s = layout_sound bytes head.version in
    start_small (layout_of bytes) s (omega (arith, (head.counts task_count_field).high, s.few))

fault_place : (span : ℕ) (bytes : List ℕ) (r : Refusal) → HeadRight bytes → RecordFault span bytes r → place_of r < 65536
fault_place span bytes r head f =
    let s = layout_sound bytes head.version in
    omega (
      arith,
      ap place_of f.given,
      record_place (layout_of bytes) s (record_start (layout_of bytes) f.i) f.field,
      record_inside (layout_of bytes) f.inside,
      records_end bytes head,
    )

-- bytes 1 and 2 are the "length of the whole table in bytes": no place reaches past what two bytes can state
pub refusal_place : (span : ℕ) (bytes : List ℕ) (answers rounds : ℕ) (r : Refusal) → DeservedSpanning span bytes answers rounds r → place_of r < 65536
refusal_place span bytes answers rounds TooShort d = omega arith
refusal_place span bytes answers rounds UnknownVersion d = omega arith
refusal_place span bytes answers rounds (CountOutOfRange place) d = omega (arith, ap place_of d.2.given, count_place d.2.field)
refusal_place span bytes answers rounds LengthsDiffer d = omega arith
refusal_place span bytes answers rounds (NumberOutOfRange place) d = fault_place span bytes (NumberOutOfRange place) d.0 d.1
refusal_place span bytes answers rounds (PriorityOutOfOrder place) d = fault_place span bytes (PriorityOutOfOrder place) d.0 d.1
refusal_place span bytes answers rounds (SectionRow place) d =
    let f = d.2 in
    omega (
      arith,
      ap place_of f.given,
      row_place (row_start (layout_of bytes) (task_count bytes) f.i) f.field,
      f.inside,
      records_end bytes d.0,
      (d.0.counts row_count_field).high,
    )
refusal_place span bytes answers rounds NoRoom d = omega arith
refusal_place span bytes answers rounds NotPlayable d = omega arith
