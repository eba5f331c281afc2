-- A record and a row, written as bytes and read back, and the other way.
-- Assumes nothing.
use Prim.Native.Nat.{ℕ, zero, suc, ◌+◌, ◌*◌, ◌/◌, ◌%◌, ◌<◌}
use native.Mathlib.Omega.{arith}
use native.Mathlib.Nat.{add-zero}
use mathlib.Core.Path.{◌≡◌, refl, sym, ◌∙◌, ap}
use mathlib.Core.List.{List, [], ◌∷◌}
use Rattle.model.specs.Tables.{Task, Row}
use Rattle.model.proofs.Tasks.{same_task_law, same_row_law}
use Rattle.tables.specs.declared.layout.DelayFields.{DelayFields}
use Rattle.tables.specs.declared.layout.DelayFields.TheVariants.{Jitter, Pair}
use Rattle.tables.specs.declared.layout.Layout.{Layout}
use Rattle.tables.specs.Layout.{byte_at, word_at, earliest_from, latest_at, record_from, row_from}
use Rattle.encoding.specs.Bytes.{four_bytes, delay_bytes, record_bytes, row_bytes}
use Rattle.encoding.specs.Statements.{AreBytes}
use Rattle.encoding.proofs.JoinLaws.{Stands, stands_from, stands_both, word_in}

-- a number from its four bytes
four : (x : ℕ) → x < 4294967296 → x / 16777216 * 16777216 + x / 65536 % 256 * 65536 + x / 256 % 256 * 256 + x % 256 ≡ x
four x h = omega arith

-- every number of a task fits four bytes
pub record Small (t : Task) : Type 0 where
  pub period : t.period < 4294967296
  pub cost : t.cost < 4294967296
  pub deadline : t.deadline < 4294967296
  pub earliest : t.earliest < 4294967296
  pub latest : t.latest < 4294967296

module _ (bytes : List ℕ) (start : ℕ) where
  delays_read : (fields : DelayFields) (t : Task) → Stands bytes start (record_bytes fields t) → Small t → (fields ≡ Jitter → t.earliest ≡ 0) →
      (earliest_from fields bytes start ≡ t.earliest) × (word_at bytes (start + latest_at fields) ≡ t.latest)
  delays_read Jitter t s small none = (sym (none refl), word_in bytes s 13 (omega arith) ∙ four t.latest small.latest)
  delays_read Pair t s small none = (
    word_in bytes s 13 (omega arith) ∙ four t.earliest small.earliest,
    word_in bytes s 17 (omega arith) ∙ four t.latest small.latest,
  )

  pub record_read : (layout : Layout) (t : Task) → Stands bytes start (record_bytes layout.delays t) → Small t →
      (layout.delays ≡ Jitter → t.earliest ≡ 0) → record_from layout bytes start ≡ t
  record_read layout t s small none =
      let delays = delays_read layout.delays t s small none in
      same_task_law (record_from layout bytes start) t (s.is 0 (omega arith))
      (word_in bytes s 1 (omega arith) ∙ four t.period small.period)
      (word_in bytes s 5 (omega arith) ∙ four t.cost small.cost)
      (word_in bytes s 9 (omega arith) ∙ four t.deadline small.deadline)
      delays.0
      delays.1

  pub row_read : (r : Row) → Stands bytes start (row_bytes r) → r.longest < 4294967296 → row_from bytes start ≡ r
  row_read r s small =
      same_row_law (row_from bytes start) r (s.is 0 (omega arith)) (s.is 1 (omega arith))
      (word_in bytes s 2 (omega arith) ∙ four r.longest small)

module _ (bytes : List ℕ) (are : AreBytes bytes) where
  -- the bytes of a number that is read are those that it was read from
  word_stands : (at : ℕ) → Stands bytes at (four_bytes (word_at bytes at))
  word_stands at = record { is = each }
    where
      each : (j : ℕ) → j < 4 → byte_at bytes (at + j) ≡ byte_at (four_bytes (word_at bytes at)) j
      each zero h = rw (add-zero at) (omega (arith, are.each at, are.each (at + 1), are.each (at + 2), are.each (at + 3)))
      each (suc zero) h = omega (arith, are.each at, are.each (at + 1), are.each (at + 2), are.each (at + 3))
      each (suc (suc zero)) h = omega (arith, are.each at, are.each (at + 1), are.each (at + 2), are.each (at + 3))
      each (suc (suc (suc zero))) h = omega (arith, are.each at, are.each (at + 1), are.each (at + 2), are.each (at + 3))
      each (suc (suc (suc (suc j)))) h = absurd (omega arith)

  byte_stands : (at : ℕ) → Stands bytes at (byte_at bytes at ∷ [])
  byte_stands at = record { is = each }
    where
      each : (j : ℕ) → j < 1 → byte_at bytes (at + j) ≡ byte_at (byte_at bytes at ∷ []) j
      each zero h = ap (byte_at bytes) (omega arith)
      each (suc j) h = absurd (omega arith)

  delays_stand : (start : ℕ) (fields : DelayFields) (t : Task) → t.earliest ≡ earliest_from fields bytes start →
      t.latest ≡ word_at bytes (start + latest_at fields) → Stands bytes (start + 13) (delay_bytes fields t)
  delays_stand start Jitter t first last = rw last (word_stands (start + 13))
  delays_stand start Pair t first last =
      stands_both bytes (four_bytes t.earliest) (four_bytes t.latest) (start + 13) (rw first (word_stands (start + 13)))
      (rw last (stands_from (word_stands (start + 17)) (omega arith)))

  pub record_stands : (layout : Layout) (start : ℕ) → Stands bytes start (record_bytes layout.delays (record_from layout bytes start))
  record_stands layout start =
      stands_both bytes (byte_at bytes (start + 0) ∷ []) _ start (stands_from (byte_stands (start + 0)) (omega arith))
      (stands_both bytes (four_bytes (word_at bytes (start + 1))) _ (start + 1) (word_stands (start + 1))
      (stands_from
      (stands_both bytes (four_bytes (word_at bytes (start + 5))) _ (start + 5) (word_stands (start + 5))
      (stands_from
      (stands_both bytes (four_bytes (word_at bytes (start + 9))) _ (start + 9) (word_stands (start + 9))
      (stands_from (delays_stand start layout.delays (record_from layout bytes start) refl refl) (omega arith)))
      (omega arith)))
      (omega arith)))

  pub row_stands : (start : ℕ) → Stands bytes start (row_bytes (row_from bytes start))
  row_stands start =
      stands_both bytes (byte_at bytes (start + 0) ∷ []) _ start (stands_from (byte_stands (start + 0)) (omega arith))
      (stands_both bytes (byte_at bytes (start + 1) ∷ []) _ (start + 1) (byte_stands (start + 1))
      (stands_from (word_stands (start + 2)) (omega arith)))
