-- A table that is not refused: its form is given, and its bytes are those of what it means.
-- Assumes nothing.
use Rattle.std.specs.Prelude.{Ok}
use Prim.Native.Nat.{ℕ, ◌*◌, ◌≤◌}
use native.Mathlib.Omega.{arith}
use native.Mathlib.Nat.{mul-le-mul}
use mathlib.Core.Path.{◌≡◌, refl, sym, ap}
use mathlib.Core.List.{List}
use Rattle.model.specs.Tables.{Task}
use Rattle.tables.specs.Checks.{head_check, body_check, read_check, table_check_spanning}
use Rattle.tables.specs.Refusals.{Check, first_in}
use Rattle.tables.specs.Fields.{RecordField, period_field, cost_field, deadline_field, earliest_field, latest_field, priority_field}
use Rattle.tables.specs.Layout.{task_count, task_at}
use Rattle.tables.specs.Meaning.{TaskFieldRight, TableRightSpanning}
use Rattle.tables.proofs.CheckLaws.{table_clean}
use Rattle.tables.proofs.FieldLaws.{first_clean, both_clean}
use Rattle.encoding.proofs.Encoding.{only_bytes_law}
use Rattle.writing.specs.Text.{form_or_refusal, form_text}
use Rattle.writing.specs.Statements.{OnlyBytesSpanning, FormGiven}

pub only_bytes_spanning : OnlyBytesSpanning
only_bytes_spanning span bytes are right = only_bytes_law bytes are right.head

-- nothing is found in reading a table that breaks no rule
read_nothing : (span : ℕ) (bytes : List ℕ) → TableRightSpanning span bytes → read_check span bytes ≡ Ok tt
unfolding read_check table_check_spanning first_in
read_nothing span bytes right =
    let n = task_count bytes in
    let head = first_clean (head_check bytes) _ (table_clean span bytes n n right (record { answers_long = omega arith; rounds_long = omega arith })) in
    let body = first_clean (body_check span bytes) _ head.1 in
    both_clean _ _ head.0 (both_clean _ _ body.0 refl)

-- the text by what is found
pub form_is : (bytes : List ℕ) {found : Check} → read_check 4 bytes ≡ found → form_or_refusal found bytes ≡ form_text bytes
unfolding form_text
form_is bytes {found} e = ap (λ (check : Check). form_or_refusal check bytes) (sym e)

-- what keeps the rules keeps them also where a deadline may span more periods
module _ (span other : ℕ) (more : span ≤ other) where
  fields_spanning : (task : ℕ → Task) (i : ℕ) (field : RecordField) → TaskFieldRight span task i field → TaskFieldRight other task i field
  fields_spanning task i period_field right = right
  fields_spanning task i cost_field right = right
  fields_spanning task i deadline_field right =
      let most : span * (task i).period ≤ other * (task i).period = mul-le-mul more (omega arith) in
      record { low = right.low; high = omega (arith, right.high) }
  fields_spanning task i earliest_field right = right
  fields_spanning task i latest_field right = right
  fields_spanning task i priority_field right = right

  pub table_spanning : {bytes : List ℕ} → TableRightSpanning span bytes → TableRightSpanning other bytes
  table_spanning {bytes} right =
      record {
        head = right.head;
        records = λ i h field. fields_spanning (task_at bytes) i field (right.records i h field);
        rows = right.rows;
      }

pub form_given : FormGiven
form_given span bytes few right = sym (form_is bytes (read_nothing 4 bytes (table_spanning span 4 few right)))
