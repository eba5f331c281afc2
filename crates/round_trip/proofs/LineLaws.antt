-- Each line of a form is read as the version, the task or the section that it was written for.
-- Assumes nothing.
use Prim.Native.Nat.{ℕ, ◌+◌, ◌≤◌, ◌<◌}
use native.Mathlib.Omega.{arith}
use mathlib.Core.Path.{◌≡◌, refl, ap}
use mathlib.Core.Bool.{Bool, true, false}
use mathlib.Core.Logic.{inl, inr}
use mathlib.Core.List.{List, [], ◌∷◌, ◌++◌}
use lib.Dec.{eqb, ltb}
use lib.ListN.{length, set, length-append}
use borrow.Author.Tests.{ne_eqb, lt-leb, le-leb, le-ltb}
use Rattle.model.specs.Tables.{Task, Row}
use Rattle.model.proofs.Tests.{eqb?}
use Rattle.printing.specs.Text.{bytes_of, line_with_number}
use Rattle.words.specs.Words.{is_blank, is_end, spelled_after, spelled_from, spelling_of, not_whole, line_feed, amount_after, word, line_end}
use Rattle.words.specs.Steps.{begun, grown_by, settled_by, ends_word, went_by, heard_by, heard_in, spot_after}
use Rattle.scanning.specs.Reading.{is_digit}
use Rattle.typing.specs.declared.lines.Kind.{Kind}
use Rattle.typing.specs.declared.lines.Kind.TheVariants.{TaskLine, JitterLine, DelaysLine, SectionLine}
use Rattle.typing.specs.declared.lines.Line.TheVariants.{Blank, Filling}
use Rattle.typing.specs.declared.lines.Counts.{Counts}
use Rattle.typing.specs.Lines.{needed_for, limit_for, field_for, task_begun, section_begun, version_begun, begun_by, number_line, delays_behind, went_on, line_after, is_taken, no_fields, fields_after, is_whole, whole_line, ended_line}
use Rattle.typing.proofs.LineLaws.{limit_small}
use Rattle.typing.specs.Reading.{state_heard, state_ended, Typed, Draft, draft_begun, draft_by, draft_after}
use Rattle.writing.specs.Text.{comment_line, next_number, delays_text, task_numbers, task_line, section_line}
use Rattle.writing.proofs.LongestLaws.{SmallTask, SmallRow}
use Rattle.round_trip.proofs.Leads.{Leads, leads_nowhere, leads_on, leads_to, number_word, in_number, number_leads, blank_behind, end_behind}

-- what is drafted besides the version, the tasks and the sections
pub record Rest : Type 0 where
  pub delayed : Bool
  pub number : ℕ
  pub fields : List ℕ
  pub version_line : ℕ
  pub task_lines : List ℕ
  pub row_lines : List ℕ

abbrev counts_of : ℕ → Bool → List Task → List Row → Counts
counts_of version delayed tasks rows =
    record { stated = true; old = eqb version 1; delayed = delayed; tasks = length tasks; sections = length rows }

abbrev pub typed_of : ℕ → List Task → List Row → Rest → Typed
typed_of version tasks rows rest =
    record {
      version = version;
      version_line = rest.version_line;
      tasks = tasks;
      task_lines = rest.task_lines;
      rows = rows;
      row_lines = rest.row_lines;
    }

-- between two lines: a stated version, some tasks and some sections
abbrev pub between : ℕ → List Task → List Row → Rest → Draft
between version tasks rows rest =
    record {
      state = record { counts = counts_of version rest.delayed tasks rows; line = Blank; number = rest.number };
      fields = rest.fields;
      typed = typed_of version tasks rows rest;
    }

-- in a line of a kind, behind so many numbers
abbrev in_line : Counts → ℕ → Typed → Kind → ℕ → List ℕ → Draft
in_line counts number typed kind count fields =
    record {
      state = record { counts = counts; line = Filling kind count; number = number };
      fields = fields;
      typed = typed;
    }

-- a text leads to such a draft, whatever else is drafted
pub record Reached (draft : Draft) (text : List ℕ) (behind : Rest → Draft) : Type 0 where
  pub rest : Rest
  pub leads : Leads begun draft text begun (behind rest)

pub reached_on : {draft : Draft} {first rest : List ℕ} {middle last : Rest → Draft} → Reached draft first middle →
    ((other : Rest) → Reached (middle other) rest last) → Reached draft (first ++ rest) last
reached_on a b = record { rest = (b a.rest).rest; leads = leads_on a.leads (b a.rest).leads }

pub reached_as : {A : Type 0} (draft : List A → Rest → Draft) {start : Draft} {text : List ℕ} {xs ys : List A} → xs ≡ ys →
    Reached start text (draft xs) → Reached start text (draft ys)
reached_as draft e a = rw (← e) a

-- a number that the line takes
number_taken : (counts : Counts) (line : ℕ) (typed : Typed) (kind : Kind) (count : ℕ) (fields : List ℕ) (number : ℕ) →
    ltb count (needed_for kind) ≡ true → number ≤ limit_for kind count →
    draft_by (in_line counts line typed kind count fields) (number_word number) ≡
    in_line counts line typed kind (count + 1) (set fields (field_for kind count) number)
unfolding state_heard line_after went_on number_line fields_after is_taken
number_taken counts line typed kind count fields number taken limited =
    rw (
      taken,
      ne_eqb number not_whole (λ e. omega (arith, limit_small kind count, e)),
      le-ltb (limit_for kind count) number limited,
      le-leb number (limit_for kind count) limited,
    )

module _ {counts : Counts} {line : ℕ} {typed : Typed} {kind : Kind} {count : ℕ} {fields : List ℕ} {number : ℕ}
    (taken : ltb count (needed_for kind) ≡ true) (limited : number ≤ limit_for kind count) where
  -- a blank behind it, and the next one
  blank_leads :
      Leads (in_number number) (in_line counts line typed kind count fields) (bytes_of " ") begun
      (in_line counts line typed kind (count + 1) (set fields (field_for kind count) number))
  blank_leads =
      leads_to _ (blank_behind (in_line counts line typed kind count fields) number (omega (arith, limit_small kind count)))
      (number_taken counts line typed kind count fields number taken limited)

  next_leads : (next : ℕ) → next ≤ 4294967295 →
      Leads (in_number number) (in_line counts line typed kind count fields) (next_number next) (in_number next)
      (in_line counts line typed kind (count + 1) (set fields (field_for kind count) number))
  next_leads next small = leads_on blank_leads (number_leads next small)

  -- or the line's end
  last_leads :
      Leads (in_number number) (in_line counts line typed kind count fields) (bytes_of "\n") begun
      (draft_by (in_line counts line typed kind (count + 1) (set fields (field_for kind count) number)) line_end)
  last_leads =
      leads_to _ (end_behind (in_line counts line typed kind count fields) number (omega (arith, limit_small kind count)))
      (ap (λ (draft : Draft). draft_by draft line_end) (number_taken counts line typed kind count fields number taken limited))

-- the words that mean something, each with a blank behind it
abbrev keyword : Draft → List ℕ → Draft
keyword draft letters = draft_by draft (word (spelling_of letters) not_whole)

record Keywords (draft : Draft) : Type 0 where
  version : Leads begun draft (bytes_of "version ") begun (keyword draft (bytes_of "version"))
  task : Leads begun draft (bytes_of "task ") begun (keyword draft (bytes_of "task"))
  jitter : Leads begun draft (bytes_of "jitter ") begun (keyword draft (bytes_of "jitter"))
  delays : Leads begun draft (bytes_of "delays ") begun (keyword draft (bytes_of "delays"))
  section : Leads begun draft (bytes_of "section ") begun (keyword draft (bytes_of "section"))

keywords : (draft : Draft) → Keywords draft
unfolding draft_after heard_in spot_after heard_by settled_by ends_word went_by grown_by is_end is_blank spelled_after spelled_from amount_after is_digit
keywords draft =
    record {
      version = record { drafted = refl; left = refl };
      task = record { drafted = refl; left = refl };
      jitter = record { drafted = refl; left = refl };
      delays = record { drafted = refl; left = refl };
      section = record { drafted = refl; left = refl };
    }

-- the comment is one line that says nothing
pub comment_leads : Leads begun draft_begun comment_line begun (draft_by draft_begun line_end)
unfolding draft_after heard_in spot_after heard_by settled_by ends_word went_by grown_by is_end is_blank
comment_leads = record { drafted = refl; left = refl }

-- and so is the empty line at the end of the text
pub end_leads : (version : ℕ) (tasks : List Task) (rows : List Row) (rest : Rest) →
    Reached (between version tasks rows rest) (line_feed ∷ []) (between version tasks rows)
unfolding draft_after heard_in spot_after heard_by settled_by ends_word went_by is_end state_ended ended_line
end_leads version tasks rows rest =
    record {
      rest =
          record {
            delayed = rest.delayed;
            number = rest.number + 1;
            fields = rest.fields;
            version_line = rest.version_line;
            task_lines = rest.task_lines;
            row_lines = rest.row_lines;
          };
      leads = record { drafted = refl; left = refl };
    }

-- the version's line
pub version_leads : (version : ℕ) → version ≤ 255 →
    Reached (draft_by draft_begun line_end) (line_with_number (bytes_of "version ") version) (between version [] [])
unfolding state_heard state_ended line_after begun_by version_begun spelled_from spelled_after fields_after is_whole whole_line ended_line
version_leads version small =
    record {
      rest = record { delayed = false; number = 3; fields = version ∷ 0 ∷ 0 ∷ 0 ∷ 0 ∷ 0 ∷ []; version_line = 2; task_lines = []; row_lines = [] };
      leads = leads_on (leads_on (keywords (draft_by draft_begun line_end)).version (number_leads version (omega arith))) (last_leads refl small);
    }

-- a task's line
module _ (version : ℕ) (tasks : List Task) (rest : Rest) (room : length tasks < 200) where
  abbrev in_task : Kind → ℕ → List ℕ → Draft
  in_task kind count fields =
      in_line (counts_of version rest.delayed tasks []) rest.number (typed_of version tasks [] rest) kind count fields

  task_begun_law : keyword (between version tasks [] rest) (bytes_of "task") ≡ in_task TaskLine 0 no_fields
  unfolding state_heard line_after begun_by task_begun spelled_from spelled_after fields_after
  task_begun_law = rw (lt-leb 200 (length tasks) room)

  numbers_lead : (task : Task) → SmallTask task →
      Leads begun (between version tasks [] rest) (task_numbers task) (in_number task.deadline)
      (in_task TaskLine 3 (task.priority ∷ task.period ∷ task.cost ∷ 0 ∷ 0 ∷ 0 ∷ []))
  unfolding task_numbers
  numbers_lead task small =
      let priority : task.priority ≤ 4294967295 = omega (arith, small.priority) in
      let period : task.period ≤ 4294967295 = omega (arith, small.period) in
      let cost : task.cost ≤ 4294967295 = omega (arith, small.cost) in
      let deadline : task.deadline ≤ 4294967295 = omega (arith, small.deadline) in
      let named = leads_to _ (keywords (between version tasks [] rest)).task task_begun_law in
      leads_on
      (leads_on (leads_on (leads_on named (number_leads task.priority priority)) (next_leads refl small.priority task.period period))
      (next_leads refl period task.cost cost))
      (next_leads refl cost task.deadline deadline)

  jitter_begun : (fields : List ℕ) → keyword (in_task TaskLine 4 fields) (bytes_of "jitter") ≡ in_task JitterLine 4 fields
  unfolding state_heard line_after went_on delays_behind spelled_from spelled_after fields_after is_taken
  jitter_begun fields = refl

  delays_begun : (fields : List ℕ) → eqb version 1 ≡ false → keyword (in_task TaskLine 4 fields) (bytes_of "delays") ≡ in_task DelaysLine 4 fields
  unfolding state_heard line_after went_on delays_behind spelled_from spelled_after fields_after is_taken
  delays_begun fields new = rw new

  abbrev rest_behind : Bool → List ℕ → Rest
  rest_behind delayed fields =
      record {
        delayed = delayed;
        number = rest.number + 1;
        fields = fields;
        version_line = rest.version_line;
        task_lines = rest.task_lines ++ (rest.number ∷ []);
        row_lines = rest.row_lines;
      }

  module _ (priority period cost deadline : ℕ) where
    abbrev task_with : ℕ → ℕ → Task
    task_with earliest latest =
        record { priority = priority; period = period; cost = cost; deadline = deadline; earliest = earliest; latest = latest }

    abbrev fields_with : ℕ → ℕ → List ℕ
    fields_with earliest latest = priority ∷ period ∷ cost ∷ deadline ∷ earliest ∷ latest ∷ []

    -- the line with these delays is read as the task with them
    abbrev ReadsTask : ℕ → ℕ → Bool → Type 0
    ReadsTask earliest latest delayed =
        Leads begun (between version tasks [] rest) (task_line (task_with earliest latest)) begun
        (between version (tasks ++ (task_with earliest latest ∷ [])) [] (rest_behind delayed (fields_with earliest latest)))

    plain_leads : SmallTask (task_with 0 0) → ReadsTask 0 0 rest.delayed
    unfolding task_line delays_text state_ended is_whole whole_line ended_line
    plain_leads small =
        let due : deadline ≤ 4294967295 = omega (arith, small.deadline) in
        rw (length-append tasks (task_with 0 0 ∷ []))
        (leads_on (leads_on (numbers_lead (task_with 0 0) small) (leads_nowhere _ _)) (last_leads refl due))

    jitter_leads : (latest : ℕ) → SmallTask (task_with 0 latest) → eqb latest 0 ≡ false → ReadsTask 0 latest rest.delayed
    unfolding task_line delays_text state_ended is_whole whole_line ended_line
    jitter_leads latest small some =
        let due : deadline ≤ 4294967295 = omega (arith, small.deadline) in
        let last : latest ≤ 4294967295 = omega (arith, small.latest) in
        let fields = fields_with 0 0 in
        let named = leads_to _ (keywords (in_task TaskLine 4 fields)).jitter (jitter_begun fields) in
        rw (length-append tasks (task_with 0 latest ∷ []), some)
        (leads_on
        (leads_on (numbers_lead (task_with 0 latest) small) (leads_on (leads_on (blank_leads refl due) named) (number_leads latest last)))
        (last_leads refl last))

    delays_lead : (earliest latest : ℕ) → SmallTask (task_with earliest latest) → eqb earliest 0 ≡ false → eqb version 1 ≡ false →
        ReadsTask earliest latest true
    unfolding task_line delays_text state_ended is_whole whole_line ended_line
    delays_lead earliest latest small some new =
        let due : deadline ≤ 4294967295 = omega (arith, small.deadline) in
        let first : earliest ≤ 4294967295 = omega (arith, small.earliest) in
        let last : latest ≤ 4294967295 = omega (arith, small.latest) in
        let fields = fields_with 0 0 in
        let named = leads_to _ (keywords (in_task TaskLine 4 fields)).delays (delays_begun fields new) in
        rw (length-append tasks (task_with earliest latest ∷ []), some)
        (leads_on
        (leads_on (numbers_lead (task_with earliest latest) small)
        (leads_on (leads_on (leads_on (blank_leads refl due) named) (number_leads earliest first)) (next_leads refl first latest last)))
        (last_leads refl last))

    task_reached : (earliest latest : ℕ) → SmallTask (task_with earliest latest) → (version ≡ 1 → earliest ≡ 0) →
        Reached (between version tasks [] rest) (task_line (task_with earliest latest)) (between version (tasks ++ (task_with earliest latest ∷ [])) [])
    task_reached earliest latest small old =
        elim (eqb? earliest 0) [
          | inl p ↦
              elim (eqb? latest 0) [
                | inl q ↦ rw (p.1, q.1) (record { rest = rest_behind rest.delayed (fields_with 0 0); leads = plain_leads (rw (p.1, q.1) at small) })
                | inr q ↦ rw p.1 (record { rest = rest_behind rest.delayed (fields_with 0 latest); leads = jitter_leads latest (rw p.1 at small) q.0 })
              ]
          | inr p ↦
              record {
                rest = rest_behind true (fields_with earliest latest);
                leads = delays_lead earliest latest small p.0 (ne_eqb version 1 (λ e. p.1 (old e)));
              }
        ]

  pub task_leads : (task : Task) → SmallTask task → (version ≡ 1 → task.earliest ≡ 0) →
      Reached (between version tasks [] rest) (task_line task) (between version (tasks ++ (task ∷ [])) [])
  task_leads task small old = task_reached task.priority task.period task.cost task.deadline task.earliest task.latest small old

-- a section's line
module _ (version : ℕ) (tasks : List Task) (rows : List Row) (rest : Rest) (room : length rows < 64) where
  section_begun_law : keyword (between version tasks rows rest) (bytes_of "section") ≡
      in_line (counts_of version rest.delayed tasks rows) rest.number (typed_of version tasks rows rest) SectionLine 0 no_fields
  unfolding state_heard line_after begun_by section_begun spelled_from spelled_after fields_after
  section_begun_law = rw (lt-leb 64 (length rows) room)

  pub section_leads : (row : Row) → SmallRow row → Reached (between version tasks rows rest) (section_line row) (between version tasks (rows ++ (row ∷ [])))
  unfolding section_line state_ended is_whole whole_line ended_line
  section_leads row small =
      let place : row.place ≤ 4294967295 = omega (arith, small.place) in
      let semaphore : row.semaphore ≤ 255 = omega (arith, small.semaphore) in
      let longest : row.longest ≤ 4294967295 = omega (arith, small.longest) in
      let named = leads_to _ (keywords (between version tasks rows rest)).section section_begun_law in
      record {
        rest =
            record {
              delayed = rest.delayed;
              number = rest.number + 1;
              fields = row.place ∷ row.semaphore ∷ row.longest ∷ 0 ∷ 0 ∷ 0 ∷ [];
              version_line = rest.version_line;
              task_lines = rest.task_lines;
              row_lines = rest.row_lines ++ (rest.number ∷ []);
            };
        leads =
            rw (length-append rows (row ∷ []))
            (leads_on (leads_on (leads_on named (number_leads row.place place)) (next_leads refl small.place row.semaphore (omega arith)))
            (leads_on (next_leads refl semaphore row.longest longest) (last_leads refl longest)));
      }
