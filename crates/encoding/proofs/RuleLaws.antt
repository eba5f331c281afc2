-- The rules speak of the tasks and rows at their places, and not of how they are kept.
-- Assumes nothing.
use Prim.Native.Nat.{ℕ, ◌<◌}
use native.Mathlib.Omega.{arith}
use mathlib.Core.Path.{◌≡◌}
use Rattle.model.specs.Tables.{Task, Row}
use Rattle.tables.specs.Fields.{RecordField, period_field, cost_field, deadline_field, earliest_field, latest_field, priority_field, RowField, place_field, semaphore_field, longest_field, order_field}
use Rattle.tables.specs.Meaning.{TaskFieldRight, SectionFieldRight}

module _ (n : ℕ) (task other : ℕ → Task) (same : (i : ℕ) → i < n → task i ≡ other i) where
  pub fields_same : (span i : ℕ) → i < n → (field : RecordField) → TaskFieldRight span task i field → TaskFieldRight span other i field
  fields_same span i h period_field r = rw (same i h) at r
  fields_same span i h cost_field r = rw (same i h) at r
  fields_same span i h deadline_field r = rw (same i h) at r
  fields_same span i h earliest_field r = rw (same i h) at r
  fields_same span i h latest_field r = rw (same i h) at r
  fields_same span i h priority_field r =
      record {
        positive = rw (same i h) at r.positive;
        not_rising = λ before e. rw (same i h, same before (omega arith)) at (r.not_rising before e);
      }

  module _ (m : ℕ) (row another : ℕ → Row) (alike : (k : ℕ) → k < m → row k ≡ another k) where
    pub sections_same : (k : ℕ) → k < m → ((field : RowField) → SectionFieldRight n task row k field) → (field : RowField) →
        SectionFieldRight n other another k field
    sections_same k h r place_field = rw (alike k h) at (r place_field)
    sections_same k h r semaphore_field = rw (alike k h) at (r semaphore_field)
    sections_same k h r longest_field =
        rw (same (another k).place (rw (alike k h) at (r place_field))) at (rw (alike k h) at (r longest_field))
    sections_same k h r order_field = λ before e. rw (alike before (omega arith), alike k h) at (r order_field before e)
