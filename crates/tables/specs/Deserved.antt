-- Which refusal a broken rule deserves, and the place that it names (SPECIFICATION 3; document 01, "Refusals", as document 02, L3, amends
-- its places).
-- Assumes nothing.
use Rattle.std.specs.Prelude.{ℕ, ◌<◌, ◌≡◌, List, [], ◌∷◌, ◌++◌}
use Rattle.tables.specs.declared.Refusal.{Refusal}
use Rattle.tables.specs.declared.Refusal.TheVariants.{TooShort, UnknownVersion, CountOutOfRange, LengthsDiffer, NumberOutOfRange, PriorityOutOfOrder, SectionRow, NoRoom, NotPlayable}
use Rattle.tables.specs.Layout.{layout_of, task_count, row_count}
use Rattle.tables.specs.Fields.{CountField, count_order, count_refusal, record_order, refusal_in_record, row_order, refusal_in_row}
use Rattle.tables.specs.Meaning.{LongEnough, VersionKnown, CountRight, CountsRight, LengthsEqual, RecordFieldRight, RowFieldRight, RoomFor, HeadRight, RecordsRight, TableRightSpanning}

-- every field of a list keeps its rule
abbrev pub Each : {F : Type 0} → (F → Type 0) → List F → Type 0
Each Right [] = Unit
Each Right (field ∷ fields) = Right field × Each Right fields

-- "the first faulty field": it breaks its rule, and every field tested before it keeps its own
pub record FirstBroken {F : Type 0} (Right : F → Type 0) (order : List F) (field : F) : Type 0 where
  pub before : List F
  pub after : List F
  pub stands : order ≡ before ++ (field ∷ after)
  pub kept : Each Right before
  pub broken : ¬ Right field

-- the refusal is that of the first count at fault
pub record CountFault (bytes : List ℕ) (refusal : Refusal) : Type 0 where
  pub field : CountField
  pub first : FirstBroken (CountRight bytes) count_order field
  pub given : refusal ≡ count_refusal field

-- Among `count` records or rows, each with the same fields: the refusal is that of the first field at fault in the first one at fault.
pub record Fault {F : Type 0} (Right : ℕ → F → Type 0) (order : List F) (refusal_of : ℕ → F → Refusal) (count : ℕ) (refusal : Refusal) : Type 0 where
  pub i : ℕ
  pub field : F
  pub inside : i < count
  pub earlier : (j : ℕ) → j < i → (other : F) → Right j other
  pub first : FirstBroken (Right i) order field
  pub given : refusal ≡ refusal_of i field

abbrev pub RecordFault : ℕ → List ℕ → Refusal → Type 0
RecordFault span bytes refusal = Fault (RecordFieldRight span bytes) record_order (refusal_in_record (layout_of bytes)) (task_count bytes) refusal

abbrev pub RowFault : List ℕ → Refusal → Type 0
RowFault bytes refusal = Fault (RowFieldRight bytes) row_order (refusal_in_row (layout_of bytes) (task_count bytes)) (row_count bytes) refusal

-- When a refusal is deserved: its rule is broken, at its place, and every check before it passes. For 3, 5, 6 and 7 the place is the
-- first byte of the first field, in the order tested, that breaks its rule.
abbrev pub DeservedSpanning : ℕ → List ℕ → ℕ → ℕ → Refusal → Type 0
DeservedSpanning span bytes answers rounds TooShort = ¬ LongEnough bytes
DeservedSpanning span bytes answers rounds UnknownVersion = LongEnough bytes × (¬ VersionKnown bytes)
DeservedSpanning span bytes answers rounds (CountOutOfRange place) =
    LongEnough bytes × VersionKnown bytes × CountFault bytes (CountOutOfRange place)
DeservedSpanning span bytes answers rounds LengthsDiffer =
    LongEnough bytes × VersionKnown bytes × CountsRight bytes × (¬ LengthsEqual bytes)
DeservedSpanning span bytes answers rounds (NumberOutOfRange place) = HeadRight bytes × RecordFault span bytes (NumberOutOfRange place)
DeservedSpanning span bytes answers rounds (PriorityOutOfOrder place) = HeadRight bytes × RecordFault span bytes (PriorityOutOfOrder place)
DeservedSpanning span bytes answers rounds (SectionRow place) =
    HeadRight bytes × RecordsRight span bytes (task_count bytes) × RowFault bytes (SectionRow place)
DeservedSpanning span bytes answers rounds NoRoom = TableRightSpanning span bytes × (¬ RoomFor bytes answers rounds)
-- no rule of document 01: the analysis never gives it
DeservedSpanning span bytes answers rounds NotPlayable = ⊥

-- by document 01's rules: a deadline spans one period
abbrev pub Deserved : List ℕ → ℕ → ℕ → Refusal → Type 0
Deserved bytes answers rounds refusal = DeservedSpanning 1 bytes answers rounds refusal
