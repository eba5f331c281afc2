-- The longest form: how long each line can be, and that the form of a table that is not refused, or the line of a refusal, is no longer.
-- Assumes nothing.
use Rattle.std.specs.Prelude.{Ok, Err}
use Prim.Native.Nat.{ℕ, suc, ◌*◌, ◌≤◌, ◌<◌}
use native.Mathlib.Omega.{arith}
use mathlib.Core.Path.{◌≡◌, refl, sym}
use mathlib.Core.Logic.{inl, inr}
use mathlib.Core.List.{List, [], ◌∷◌, ◌++◌}
use lib.ListN.{length, get_or, length-append}
use Rattle.model.specs.Tables.{Task, Row, Table, no_task, task_of}
use Rattle.model.proofs.Tests.{eqb?}
use Rattle.tables.specs.Refusals.{Check}
use Rattle.tables.specs.Fields.{task_count_field, row_count_field, period_field, cost_field, deadline_field, earliest_field, latest_field, place_field, semaphore_field, longest_field}
use Rattle.tables.specs.Layout.{version_of, task_count, row_count, task_at, row_at, table_of}
use Rattle.tables.specs.Checks.{read_check}
use Rattle.tables.specs.Meaning.{Known, TableRightSpanning}
use Rattle.tables.proofs.LayoutLaws.{layout_sound, task_is, tasks_count, row_is, rows_count}
use Rattle.tables.proofs.CheckLaws.{read_right, table_deserved}
use Rattle.tables.proofs.OrderLaws.{read_clean, read_decides}
use Rattle.tables.proofs.PlaceLaws.{refusal_place}
use Rattle.encoding.specs.Bytes.{joined}
use Rattle.encoding.specs.Statements.{no_row, row_of, AreBytes}
use Rattle.printing.specs.Text.{bytes_of, decimal_of, with_number, line_with_number}
use Rattle.printing.proofs.LengthLaws.{few_digits, seven_digits, number_long, line_long}
use Rattle.printing.proofs.LongestLaws.{refused_long, whole}
use Rattle.writing.specs.Text.{comment_line, next_number, delays_text, task_numbers, task_line, section_line, form_of, form_or_refusal, form_text}
use Rattle.writing.specs.Longest.{longest_form, FormFits, FormWhole}

three_digits : (number : ℕ) → number ≤ 255 → length (decimal_of number) ≤ 3
three_digits number h = few_digits number 3 (omega arith) (omega arith)

-- a blank and a number of at most seven digits
next_long : (number : ℕ) → number ≤ 1000000 → length (next_number number) ≤ 8
next_long number h = omega (arith, number_long (bytes_of " ") number, seven_digits number h)

delays_long : (earliest latest : ℕ) → earliest ≤ 1000000 → latest ≤ 1000000 → length (delays_text earliest latest) ≤ 23
unfolding delays_text
delays_long earliest latest first last =
    elim (eqb? earliest 0) [
      | inl p ↦
          elim (eqb? latest 0) [
            | inl q ↦ rw (p.0, q.0) (omega arith)
            | inr q ↦ rw (p.0, q.0) (omega (arith, number_long (bytes_of " jitter ") latest, seven_digits latest last))
          ]
      | inr p ↦
          rw p.0
          (omega (
            arith,
            length-append (with_number (bytes_of " delays ") earliest) (next_number latest),
            number_long (bytes_of " delays ") earliest,
            seven_digits earliest first,
            next_long latest last,
          ))
    ]

-- a task whose numbers are those of a table that is not refused, and a section
pub record SmallTask (t : Task) : Type 0 where
  pub priority : t.priority ≤ 255
  pub period : t.period ≤ 1000000
  pub cost : t.cost ≤ 1000000
  pub deadline : t.deadline ≤ 1000000
  pub earliest : t.earliest ≤ 1000000
  pub latest : t.latest ≤ 1000000

pub record SmallRow (r : Row) : Type 0 where
  pub place : r.place ≤ 255
  pub semaphore : r.semaphore ≤ 16
  pub longest : r.longest ≤ 1000000

task_long : (t : Task) → SmallTask t → length (task_line t) ≤ 56
unfolding task_line task_numbers
task_long t small =
    let named = with_number (bytes_of "task ") t.priority in
    let period = named ++ next_number t.period in
    let cost = period ++ next_number t.cost in
    let deadline = cost ++ next_number t.deadline in
    let delays = deadline ++ delays_text t.earliest t.latest in
    omega (
      arith,
      length-append delays (bytes_of "\n"),
      length-append deadline (delays_text t.earliest t.latest),
      length-append cost (next_number t.deadline),
      length-append period (next_number t.cost),
      length-append named (next_number t.period),
      number_long (bytes_of "task ") t.priority,
      three_digits t.priority small.priority,
      next_long t.period small.period,
      next_long t.cost small.cost,
      next_long t.deadline small.deadline,
      delays_long t.earliest t.latest small.earliest small.latest,
    )

section_long : (r : Row) → SmallRow r → length (section_line r) ≤ 23
unfolding section_line
section_long r small =
    let placed = with_number (bytes_of "section ") r.place in
    omega (
      arith,
      length-append (placed ++ next_number r.semaphore) (line_with_number (bytes_of " ") r.longest),
      length-append placed (next_number r.semaphore),
      number_long (bytes_of "section ") r.place,
      three_digits r.place small.place,
      number_long (bytes_of " ") r.semaphore,
      few_digits r.semaphore 2 (omega arith) (omega (arith, small.semaphore)),
      line_long (bytes_of " ") r.longest,
      seven_digits r.longest small.longest,
    )

-- lines of at most so many bytes each
joined_long : {A : Type 0} (line : A → List ℕ) (d : A) (most : ℕ) (xs : List A) →
    ((i : ℕ) → i < length xs → length (line (get_or xs i d)) ≤ most) → length (joined line xs) ≤ length xs * most
unfolding joined
joined_long line d most [] each = omega arith
joined_long line d most (x ∷ xs) each =
    omega (
      arith,
      length-append (line x) (joined line xs),
      each 0 (omega arith),
      joined_long line d most xs (λ i h. each (suc i) (omega arith)),
    )

version_long : (version : ℕ) → Known version → length (line_with_number (bytes_of "version ") version) ≤ 10
version_long version known = omega (arith, line_long (bytes_of "version ") version, few_digits version 1 (omega arith) (small known))
  where
    small : Known version → version < 10
    small (inl one) = omega arith
    small (inr (inl two)) = omega arith
    small (inr (inr three)) = omega arith

form_long : (version : ℕ) (table : Table) → Known version → length table.tasks ≤ 200 → length table.rows ≤ 64 →
    ((i : ℕ) → i < length table.tasks → SmallTask (task_of table.tasks i)) →
    ((k : ℕ) → k < length table.rows → SmallRow (row_of table.rows k)) → length (form_of version table) ≤ longest_form
unfolding form_of
form_long version table known few_tasks few_rows tasks rows =
    let stated = line_with_number (bytes_of "version ") version in
    let task_lines = joined task_line table.tasks in
    omega (
      arith,
      length-append (comment_line ++ stated ++ task_lines) (joined section_line table.rows),
      length-append (comment_line ++ stated) task_lines,
      length-append comment_line stated,
      version_long version known,
      joined_long task_line no_task 56 table.tasks (λ i h. task_long _ (tasks i h)),
      joined_long section_line no_row 23 table.rows (λ k h. section_long _ (rows k h)),
    )

-- the numbers of a table that breaks no rule
module _ (bytes : List ℕ) (are : AreBytes bytes) (right : TableRightSpanning 4 bytes) where
  pub few_tasks_law : task_count bytes ≤ 200
  few_tasks_law = omega (arith, (right.head.counts task_count_field).high, (layout_sound bytes right.head.version).few)

  pub small_task : (i : ℕ) → i < task_count bytes → SmallTask (task_at bytes i)
  small_task i h =
      record {
        priority = are.each _;
        period = (right.records i h period_field).high;
        cost = (right.records i h cost_field).high;
        deadline = omega (arith, (right.records i h deadline_field).high);
        earliest = (right.records i h earliest_field).high;
        latest = (right.records i h latest_field).high;
      }

  pub small_row : (k : ℕ) → k < row_count bytes → SmallRow (row_at bytes k)
  small_row k h =
      record {
        place = are.each _;
        semaphore = (right.rows k h semaphore_field).high;
        longest =
            omega (
              arith,
              (right.rows k h longest_field).high,
              (right.records (row_at bytes k).place (right.rows k h place_field) cost_field).high,
            );
      }

  right_long : length (form_of (version_of bytes) (table_of bytes)) ≤ longest_form
  right_long =
      form_long (version_of bytes) (table_of bytes) right.head.version (rw (tasks_count bytes) few_tasks_law)
      (rw (rows_count bytes) (right.head.counts row_count_field).high)
      (λ i h.
      let inside : i < task_count bytes = omega (arith, tasks_count bytes) in
      rw (task_is bytes i inside) (small_task i inside))
      (λ k h.
      let inside : k < row_count bytes = omega (arith, rows_count bytes) in
      rw (row_is bytes no_row k inside) (small_row k inside))

pub form_fits : FormFits
unfolding form_text
form_fits bytes are = go (read_check 4 bytes) refl
  where
    go : (found : Check) → read_check 4 bytes ≡ found → length (form_or_refusal found bytes) ≤ longest_form
    go (Ok _) is =
        let clean = read_clean 4 bytes is in
        right_long bytes are (read_right 4 bytes clean.0 clean.1)
    go (Err refusal) is =
        let deserved = table_deserved 4 bytes 200 200 refusal (read_decides 4 bytes 200 200 refusal (sym is)) in
        omega (arith, refused_long refusal (refusal_place 4 bytes 200 200 refusal deserved))

pub form_whole : FormWhole
form_whole bytes old end new are room a = whole old (form_text bytes) end new (omega (arith, form_fits bytes are)) a
