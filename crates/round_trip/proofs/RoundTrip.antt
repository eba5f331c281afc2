-- The text form of a table that is not refused is read as that table.
-- Assumes nothing.
use Prim.Native.Nat.{ℕ, suc, ◌+◌, ◌≤◌, ◌<◌}
use native.Mathlib.Omega.{arith}
use mathlib.Core.Path.{◌≡◌, refl, sym, ◌∙◌, ap}
use mathlib.Core.List.{List, [], ◌∷◌, ◌++◌, append_assoc, append-nil}
use lib.ListN.{length, get_or, length-append}
use Rattle.model.specs.Tables.{Task, Table, no_task, task_of}
use Rattle.tables.specs.Fields.{row_count_field}
use Rattle.tables.specs.Layout.{layout_for, earliest_from, layout_of, record_start, version_of, task_count, row_count, task_at, table_of}
use Rattle.tables.specs.Meaning.{TableRightSpanning}
use Rattle.tables.proofs.LayoutLaws.{task_is, tasks_count, row_is, rows_count}
use Rattle.encoding.specs.Bytes.{joined, encode}
use Rattle.encoding.specs.Statements.{no_row, row_of, AreBytes}
use Rattle.printing.specs.Text.{bytes_of, line_with_number}
use Rattle.words.specs.Words.{line_feed}
use Rattle.words.specs.Steps.{begun}
use Rattle.words.proofs.HeardLaws.{words_heard}
use Rattle.typing.specs.Reading.{Typed, Draft, draft_begun, draft_after, version_for, given, outcome_at, reading_of, table_typed, bytes_in}
use Rattle.writing.specs.Text.{comment_line, task_line, section_line, form_of, form_text}
use Rattle.writing.proofs.Forms.{only_bytes_spanning, table_spanning, form_given}
use Rattle.writing.proofs.LongestLaws.{SmallTask, SmallRow, few_tasks_law, small_task, small_row}
use Rattle.round_trip.specs.RoundTrip.{ReadBack, OneForm}
use Rattle.round_trip.proofs.Leads.{leads_nowhere, leads_on}
use Rattle.round_trip.proofs.LineLaws.{Rest, typed_of, between, Reached, reached_on, reached_as, comment_leads, end_leads, version_leads, task_leads, section_leads}

-- Lines of which each adds what it was written for add all of it, in their order: for the tasks and for the sections.
module _ {A : Type 0} (line : A → List ℕ) (draft : List A → Rest → Draft) (none : A) (most : ℕ) (Fits : A → Type 0)
    (one : (before : List A) (rest : Rest) → length before < most → (x : A) → Fits x → Reached (draft before rest) (line x) (draft (before ++ (x ∷ [])))) where
  lines_lead : (xs before : List A) (rest : Rest) → length before + length xs ≤ most → ((i : ℕ) → i < length xs → Fits (get_or xs i none)) →
      Reached (draft before rest) (joined line xs) (draft (before ++ xs))
  unfolding joined
  lines_lead [] before rest room each =
      reached_as draft (sym (append-nil before)) (record { rest = rest; leads = leads_nowhere begun (draft before rest) })
  lines_lead (x ∷ xs) before rest room each =
      reached_as draft (append_assoc before (x ∷ []) xs)
      (reached_on (one before rest (omega arith) x (each 0 (omega arith)))
      (λ other. lines_lead xs (before ++ (x ∷ [])) other (omega (arith, length-append before (x ∷ []))) (λ i h. each (suc i) (omega arith))))

-- a task of a table in a version: in version 1 there is no earliest delay
record Written (version : ℕ) (task : Task) : Type 0 where
  small : SmallTask task
  old : version ≡ 1 → task.earliest ≡ 0

-- the whole form
module _ (version : ℕ) (table : Table) (known : version ≤ 255) (few_tasks : length table.tasks ≤ 200) (few_rows : length table.rows ≤ 64)
    (each_task : (i : ℕ) → i < length table.tasks → Written version (task_of table.tasks i))
    (each_row : (k : ℕ) → k < length table.rows → SmallRow (row_of table.rows k)) where
  head_leads : Reached draft_begun (comment_line ++ line_with_number (bytes_of "version ") version) (between version [] [])
  head_leads =
      let stated = version_leads version known in
      record { rest = stated.rest; leads = leads_on comment_leads stated.leads }

  tasks_lead : (rest : Rest) → Reached (between version [] [] rest) (joined task_line table.tasks) (between version table.tasks [])
  tasks_lead rest =
      lines_lead task_line (λ (tasks : List Task). between version tasks []) no_task 200 (Written version)
      (λ before other room task written. task_leads version before other room task written.small written.old)
      table.tasks [] rest (omega arith) each_task

  rows_lead : (rest : Rest) → Reached (between version table.tasks [] rest) (joined section_line table.rows) (between version table.tasks table.rows)
  rows_lead rest =
      lines_lead section_line (between version table.tasks) no_row 64 SmallRow
      (λ before other room row small. section_leads version table.tasks before other room row small)
      table.rows [] rest (omega arith) each_row

  form_leads : Reached draft_begun (form_of version table ++ (line_feed ∷ [])) (between version table.tasks table.rows)
  unfolding form_of
  form_leads = reached_on (reached_on (reached_on head_leads tasks_lead) rows_lead) (end_leads version table.tasks table.rows)

  form_read : (typed : Typed) × (reading_of (form_of version table) ≡ given version typed) × (table_typed typed ≡ table)
  unfolding reading_of version_for
  form_read = (
    typed_of version table.tasks table.rows form_leads.rest,
    ap (λ (draft : Draft). outcome_at draft.state.line draft)
        (ap (draft_after draft_begun) (sym (words_heard.whole (form_of version table))) ∙ form_leads.leads.drafted),
    refl,
  )

-- the bytes of a table that breaks no rule
module _ (bytes : List ℕ) (are : AreBytes bytes) (right : TableRightSpanning 4 bytes) where
  no_earliest_law : (i : ℕ) → version_of bytes ≡ 1 → (task_at bytes i).earliest ≡ 0
  unfolding layout_for
  no_earliest_law i e = ap (λ (version : ℕ). earliest_from (layout_for version).delays bytes (record_start (layout_of bytes) i)) e

  bytes_read : (typed : Typed) × (reading_of (form_of (version_of bytes) (table_of bytes)) ≡ given (version_of bytes) typed) × (table_typed typed ≡ table_of bytes)
  bytes_read =
      form_read (version_of bytes) (table_of bytes) (are.each 0) (rw (tasks_count bytes) (few_tasks_law bytes are right))
      (rw (rows_count bytes) (right.head.counts row_count_field).high)
      (λ i h.
      let inside : i < task_count bytes = omega (arith, tasks_count bytes) in
      rw (task_is bytes i inside) (record { small = small_task bytes are right i inside; old = no_earliest_law i }))
      (λ k h.
      let inside : k < row_count bytes = omega (arith, rows_count bytes) in
      rw (row_is bytes no_row k inside) (small_row bytes are right k inside))

pub read_back : ReadBack
read_back span bytes few are right =
    let found = bytes_read bytes are (table_spanning span 4 few right) in
    let read : reading_of (form_text bytes) ≡ given (version_of bytes) found.0 = ap reading_of (form_given span bytes few right) ∙ found.1 in
    record {
      typed = found.0;
      read = read;
      means = found.2;
      same = ap bytes_in read ∙ ap (encode (version_of bytes)) found.2 ∙ only_bytes_spanning span bytes are right;
    }

-- what is read from one form can't be two tables
pub one_form : OneForm
one_form span other bytes others few few_others are are_others right right_others e =
    sym (read_back span bytes few are right).same ∙ ap (λ (text : List ℕ). bytes_in (reading_of text)) e ∙ (read_back other others few_others are_others right_others).same
