-- The table with the longest form keeps the rules, and its form is as long as any.
-- Assumes nothing.
use Prim.Native.Nat.{ℕ, ◌<◌}
use native.Mathlib.Omega.{arith}
use mathlib.Core.Path.{◌≡◌, refl, sym, ◌∙◌, ap}
use mathlib.Core.Logic.{inr}
use lib.ListN.{length}
use Rattle.model.specs.Lists.{tabulate}
use Rattle.model.specs.Search.{first_from}
use Rattle.model.specs.Tables.{no_task, task_of}
use Rattle.model.proofs.Lists.{length_tabulate, get_d_tabulate}
use Rattle.tables.specs.Fields.{RecordField, period_field, cost_field, deadline_field, earliest_field, latest_field, priority_field, RowField, place_field, semaphore_field, longest_field, order_field}
use Rattle.tables.specs.Layout.{layout_for}
use Rattle.tables.specs.Meaning.{TaskFieldRight, SectionFieldRight}
use Rattle.encoding.specs.Bytes.{joined, encode}
use Rattle.encoding.specs.Statements.{no_row, row_of, Fits}
use Rattle.encoding.proofs.RuleLaws.{fields_same, sections_same}
use Rattle.encoding.proofs.Encoding.{encoded}
use Rattle.printing.specs.Text.{decimal_of}
use Rattle.writing.specs.Text.{delays_text, task_numbers, task_line, section_line, form_of}
use Rattle.writing.specs.Longest.{longest_form, long_task, long_row, long_table, LongestFormReached}
use Rattle.writing.proofs.Forms.{form_given}

task_right : (i : ℕ) (field : RecordField) → TaskFieldRight 1 long_task i field
task_right i period_field = record { low = omega arith; high = omega arith }
task_right i cost_field = record { low = omega arith; high = omega arith }
task_right i deadline_field = record { low = omega arith; high = omega arith }
task_right i earliest_field = record { low = omega arith; high = omega arith }
task_right i latest_field = record { low = omega arith; high = omega arith }
task_right i priority_field = record { positive = omega arith; not_rising = λ before e. omega arith }

row_right : (k : ℕ) → k < 64 → (field : RowField) → SectionFieldRight 200 long_task long_row k field
row_right k h place_field = omega arith
row_right k h semaphore_field = record { low = omega arith; high = omega arith }
row_right k h longest_field = record { low = omega arith; high = omega arith }
row_right k h order_field = λ before e. record { by_place = omega arith; then_semaphore = λ same. omega arith }

tasks_long : length (tabulate long_task 200) ≡ 200
tasks_long = length_tabulate long_task 200

rows_long : length (tabulate long_row 64) ≡ 64
rows_long = length_tabulate long_row 64

task_at : (i : ℕ) → i < 200 → long_task i ≡ task_of (tabulate long_task 200) i
task_at i h = sym (get_d_tabulate long_task 200 i no_task h)

row_at_law : (k : ℕ) → k < 64 → long_row k ≡ row_of (tabulate long_row 64) k
row_at_law k h = sym (get_d_tabulate long_row 64 k no_row h)

long_fits : Fits 3 long_table
unfolding layout_for
long_fits =
    record {
      known = inr (inr refl);
      tasks = rw tasks_long (record { low = omega arith; high = omega arith });
      rows = rw rows_long (record { low = omega arith; high = omega arith });
      each_task = λ i h field.
          fields_same 200 long_task (task_of (tabulate long_task 200)) task_at 1 i (omega (arith, tasks_long)) field (task_right i field);
      each_row = λ k h.
          let inside : k < 64 = omega (arith, rows_long) in
          rw tasks_long
          (sections_same 200 long_task (task_of (tabulate long_task 200)) task_at 64 long_row (row_of (tabulate long_row 64)) row_at_law k inside
          (row_right k inside));
      priorities = λ i h. rw (sym (task_at i (omega (arith, tasks_long)))) (omega arith);
      no_earliest = λ e i h. let z : ◌≡◌ {A = ℕ} 0 1 = cc in absurd (omega arith);
    }

form_long : length (form_of 3 long_table) ≡ longest_form
unfolding form_of task_line task_numbers section_line delays_text decimal_of first_from tabulate joined
form_long = refl

pub longest_form_reached : LongestFormReached
longest_form_reached =
    ap length
    (form_given 1 (encode 3 long_table) (omega arith) (encoded.accepted 3 long_table long_fits)
    ∙ ap (form_of 3) (encoded.read_back 3 long_table long_fits))
    ∙ form_long
