-- The stages of the reader, records and rows behind a right head: the first that is refused decides, and later ones leave the columns as
-- they are.
-- Assumes nothing.
use Rattle.std.specs.Prelude.{Ok, Err}
use Prim.Native.Nat.{ℕ, ◌≤◌}
use native.Mathlib.Omega.{arith}
use mathlib.Core.Path.{◌≡◌, refl, sym, ◌∙◌, ap, subst}
use mathlib.Core.Bool.{true, false}
use mathlib.Core.List.{List}
use lib.ListN.{length}
use Rattle.model.proofs.Tests.{clash}
use Rattle.model.specs.Lists.{filled}
use Rattle.model.proofs.Lists.{filled_none}
use Rattle.tables.specs.Layout.{task_count, cost_in}
use Rattle.tables.specs.Refusals.{Check, is_clean, or_else, first_in}
use Rattle.tables.specs.Checks.{head_check, records_check, rows_check, body_check, read_check, records_read, rows_read}
use Rattle.tables.proofs.CheckLaws.{records_all}
use Rattle.tables.proofs.FieldLaws.{clean_only, last_decides}
use Rattle.records.specs.Columns.{RecordColumn, cost_column, RowColumn, record_columns, record_in, row_in, Lent, Filled, rows_reached, Holds}
use Rattle.records.proofs.ColumnLaws.{holds_filled, records_long}

-- a check that is not clean decides
stops : (check later : Check) → is_clean check ≡ false → or_else check later ≡ check
unfolding or_else
stops (Ok _) later e = absurd (clash true refl e)
stops (Err r) later e = refl

-- nothing is filled, before or behind
module _ {C : Type 0} {value : C → ℕ → ℕ} where
  filled_then : {k : ℕ} {old next new : C → List ℕ} → Filled value k old next → Filled value 0 next new → Filled value k old new
  filled_then f g = record { is = λ c. g.is c ∙ filled_none (value c) _ ∙ f.is c }

  then_filled : {k : ℕ} {old next new : C → List ℕ} → Filled value 0 old next → Filled value k next new → Filled value k old new
  then_filled {k} f g = record { is = λ c. g.is c ∙ ap (filled (value c) k) (f.is c ∙ filled_none (value c) _) }

  as_many : {j k : ℕ} {old new : C → List ℕ} → j ≡ k → Filled value k old new → Filled value j old new
  as_many {old = old} {new = new} e f = subst (λ (k : ℕ). Filled value k old new) (sym e) f

-- what the reader says, and what it leaves
abbrev pub Left : ℕ → List ℕ → Check → (old new : RecordColumn → List ℕ) → (old_rows new_rows : RowColumn → List ℕ) → Type 0
Left span table found old new old_rows new_rows =
    (found ≡ read_check span table)
    × (Filled (record_in table) (records_read span table) old new × Filled (row_in table) (rows_reached span table) old_rows new_rows)

-- slices of the same lengths
pub lent_again : {table : List ℕ} {room : ℕ} {bytes words bytes_left words_left : List ℕ} → Lent table room bytes words → length bytes_left ≡ length bytes →
    length words_left ≡ length words → Lent table room bytes_left words_left
lent_again lent b w = record { tasks_fit = lent.tasks_fit; bytes_long = b ∙ lent.bytes_long; words_long = w ∙ lent.words_long }

-- each column has room for the tasks that the head counts
pub column_room : {table : List ℕ} {room : ℕ} {bytes words : List ℕ} → Lent table room bytes words → (c : RecordColumn) →
    task_count table ≤ length (record_columns room bytes words c)
column_room lent c = rw (records_long lent c) lent.tasks_fit

module _ (span : ℕ) (table : List ℕ) (head : head_check table ≡ Ok tt) where
  body_decides : read_check span table ≡ body_check span table
  unfolding read_check first_in or_else
  body_decides = rw head (last_decides (body_check span table))

  module _ (found : Check) (has : found ≡ records_check span table) {old new : RecordColumn → List ℕ} {old_rows new_rows : RowColumn → List ℕ}
      (left : Filled (record_in table) (records_read span table) old new × Filled (row_in table) 0 old_rows new_rows) where
    pub records_stop : is_clean found ≡ false → Left span table found old new old_rows new_rows
    unfolding body_check first_in
    records_stop wrong =
        let no : is_clean (records_check span table) ≡ false = ap is_clean (sym has) ∙ wrong in
        (has ∙ sym (stops (records_check span table) _ no) ∙ sym body_decides, (left.0, as_many (rw no) left.1))

    module _ (pass : is_clean found ≡ true) where
      clean : records_check span table ≡ Ok tt
      clean = sym has ∙ clean_only found pass

      -- the rows are looked at with the costs of all records
      pub costs_held : (n : ℕ) → n ≡ task_count table → task_count table ≤ length (old cost_column) → Holds (new cost_column) n (cost_in table)
      costs_held n counted room =
          holds_filled (cost_in table) n (old cost_column) (new cost_column)
          (left.0.is cost_column ∙ ap (λ (k : ℕ). filled (cost_in table) k (old cost_column)) (records_all span table clean ∙ sym counted))
          (omega (arith, counted))

      pub rows_decide : (rows : Check) {last : RecordColumn → List ℕ} {last_rows : RowColumn → List ℕ} →
          (rows ≡ rows_check table) × (Filled (record_in table) 0 new last × Filled (row_in table) (rows_read table) new_rows last_rows) →
          Left span table rows old last old_rows last_rows
      unfolding body_check first_in or_else
      rows_decide rows then = (
        then.0 ∙ sym (body_decides ∙ rw clean (last_decides (rows_check table))),
        (filled_then left.0 then.1.0, as_many (rw clean) (then_filled left.1 then.1.1)),
      )
