-- What a text is read as: a table, or the first line that can't be read and why (SPECIFICATION 14).
-- Assumes nothing.
use Rattle.std.specs.Prelude.{ℕ, ◌+◌, Bool, true, false, List, [], ◌∷◌, ◌++◌, eqb, ltb, get_or}
use Rattle.model.specs.Choice.{pick}
use Rattle.model.specs.Tables.{Task, Row, Table}
use Rattle.encoding.specs.Bytes.{encode}
use Rattle.words.specs.Words.{Event, word, line_end, events_of}
use Rattle.typing.specs.declared.lines.Kind.{Kind}
use Rattle.typing.specs.declared.lines.Kind.TheVariants.{VersionLine, TaskLine, JitterLine, DelaysLine, SectionLine}
use Rattle.typing.specs.declared.lines.Fault.{Fault}
use Rattle.typing.specs.declared.lines.Line.{Line}
use Rattle.typing.specs.declared.lines.Line.TheVariants.{Blank, Filling, Wrong}
use Rattle.typing.specs.declared.lines.Counts.{Counts}
use Rattle.typing.specs.declared.State.{State}
use Rattle.typing.specs.Lines.{no_fields, line_after, fields_after, is_whole, ended_line}

-- The line that is read, and what stands in the lines before it. Lines are numbered from 1.
abbrev pub counts_begun : Counts
counts_begun = record { stated = false; old = false; delayed = false; tasks = 0; sections = 0 }

abbrev pub state_begun : State
state_begun = record { counts = counts_begun; line = Blank; number = 1 }

-- a word more
unfoldable pub state_heard : State → ℕ → ℕ → State
state_heard state spelling amount =
    record { counts = state.counts; line = line_after state.counts state.line spelling amount; number = state.number }

-- a whole line more, whose first number is given
abbrev pub version_added : ℕ → Counts → Counts
version_added first counts =
    record { stated = true; old = eqb first 1; delayed = counts.delayed; tasks = counts.tasks; sections = counts.sections }

abbrev pub task_added : Bool → Counts → Counts
task_added delayed counts =
    record { stated = counts.stated; old = counts.old; delayed = delayed; tasks = counts.tasks + 1; sections = counts.sections }

abbrev pub section_added : Counts → Counts
section_added counts =
    record { stated = counts.stated; old = counts.old; delayed = counts.delayed; tasks = counts.tasks; sections = counts.sections + 1 }

abbrev pub counts_with : Kind → ℕ → Counts → Counts
counts_with VersionLine first counts = version_added first counts
counts_with TaskLine first counts = task_added counts.delayed counts
counts_with JitterLine first counts = task_added counts.delayed counts
counts_with DelaysLine first counts = task_added true counts
counts_with SectionLine first counts = section_added counts

abbrev pub counts_at_end : Line → ℕ → Counts → Counts
counts_at_end Blank first counts = counts
counts_at_end (Filling kind count) first counts = pick (is_whole kind count) (counts_with kind first counts) counts
counts_at_end (Wrong fault) first counts = counts

-- the line's end; a line that is wrong stays the one that is read
abbrev pub number_at_end : Line → ℕ → ℕ
number_at_end Blank number = number + 1
number_at_end (Filling kind count) number = number + 1
number_at_end (Wrong fault) number = number

unfoldable pub state_ended : State → ℕ → State
state_ended state first =
    record {
      counts = counts_at_end state.line first state.counts;
      line = ended_line state.line;
      number = number_at_end (ended_line state.line) state.number;
    }

-- What is typed so far: the version, the tasks and the sections, each with its line; 0 is the line of a version that is not stated.
pub record Typed : Type 0 where
  pub version : ℕ
  pub version_line : ℕ
  pub tasks : List Task
  pub task_lines : List ℕ
  pub rows : List Row
  pub row_lines : List ℕ

abbrev pub nothing_typed : Typed
nothing_typed = record { version = 0; version_line = 0; tasks = []; task_lines = []; rows = []; row_lines = [] }

-- the fields of a line in their order (specs/Lines.antt, `field_for`)
abbrev pub field : List ℕ → ℕ → ℕ
field fields at = get_or fields at 0

abbrev pub typed_task : List ℕ → Task
typed_task fields =
    record {
      priority = field fields 0;
      period = field fields 1;
      cost = field fields 2;
      deadline = field fields 3;
      earliest = field fields 4;
      latest = field fields 5;
    }

abbrev pub typed_row : List ℕ → Row
typed_row fields = record { place = field fields 0; semaphore = field fields 1; longest = field fields 2 }

abbrev pub with_version : List ℕ → ℕ → Typed → Typed
with_version fields number typed =
    record {
      version = field fields 0;
      version_line = number;
      tasks = typed.tasks;
      task_lines = typed.task_lines;
      rows = typed.rows;
      row_lines = typed.row_lines;
    }

abbrev pub with_task : List ℕ → ℕ → Typed → Typed
with_task fields number typed =
    record {
      version = typed.version;
      version_line = typed.version_line;
      tasks = typed.tasks ++ (typed_task fields ∷ []);
      task_lines = typed.task_lines ++ (number ∷ []);
      rows = typed.rows;
      row_lines = typed.row_lines;
    }

abbrev pub with_section : List ℕ → ℕ → Typed → Typed
with_section fields number typed =
    record {
      version = typed.version;
      version_line = typed.version_line;
      tasks = typed.tasks;
      task_lines = typed.task_lines;
      rows = typed.rows ++ (typed_row fields ∷ []);
      row_lines = typed.row_lines ++ (number ∷ []);
    }

abbrev pub typed_with : Kind → List ℕ → ℕ → Typed → Typed
typed_with VersionLine fields number typed = with_version fields number typed
typed_with TaskLine fields number typed = with_task fields number typed
typed_with JitterLine fields number typed = with_task fields number typed
typed_with DelaysLine fields number typed = with_task fields number typed
typed_with SectionLine fields number typed = with_section fields number typed

abbrev pub typed_at_end : Line → List ℕ → ℕ → Typed → Typed
typed_at_end Blank fields number typed = typed
typed_at_end (Filling kind count) fields number typed = pick (is_whole kind count) (typed_with kind fields number typed) typed
typed_at_end (Wrong fault) fields number typed = typed

-- the line, its fields so far, and what is typed before it
pub record Draft : Type 0 where
  pub state : State
  pub fields : List ℕ
  pub typed : Typed

abbrev pub draft_begun : Draft
draft_begun = record { state = state_begun; fields = no_fields; typed = nothing_typed }

-- a word or a line's end
abbrev pub draft_by : Draft → Event → Draft
draft_by draft (word spelling amount) =
    record {
      state = state_heard draft.state spelling amount;
      fields = fields_after draft.state.line amount draft.fields;
      typed = draft.typed;
    }
draft_by draft line_end =
    record {
      state = state_ended draft.state (field draft.fields 0);
      fields = draft.fields;
      typed = typed_at_end draft.state.line draft.fields draft.state.number draft.typed;
    }

unfoldable pub draft_after : Draft → List Event → Draft
draft_after draft [] = draft
draft_after draft (event ∷ events) = draft_after (draft_by draft event) events

-- "without it the lowest version that can hold the table is taken (1; 2 where some task has `delays`; 3 where there are more than 32 tasks)"
unfoldable pub version_for : Counts → ℕ → ℕ
version_for counts version =
    pick counts.stated version (pick (ltb 32 counts.tasks) 3 (pick counts.delayed 2 1))

-- a table in a version, or the line and the kind of the first fault
pub data Reading : Type 0 where
  given : ℕ → Typed → Reading
  faulty : ℕ → Fault → Reading

abbrev pub outcome_at : Line → Draft → Reading
outcome_at Blank draft = given (version_for draft.state.counts draft.typed.version) draft.typed
outcome_at (Filling kind count) draft = given (version_for draft.state.counts draft.typed.version) draft.typed
outcome_at (Wrong fault) draft = faulty draft.state.number fault

unfoldable pub reading_of : List ℕ → Reading
reading_of text =
    let draft = draft_after draft_begun (events_of text) in
    outcome_at draft.state.line draft

-- the table that is typed, and its bytes
abbrev pub table_typed : Typed → Table
table_typed typed = record { tasks = typed.tasks; rows = typed.rows }

abbrev pub bytes_typed : ℕ → Typed → List ℕ
bytes_typed version typed = encode version (table_typed typed)

-- what is answered: the table's bytes, which are never none, or none
abbrev pub bytes_in : Reading → List ℕ
bytes_in (given version typed) = bytes_typed version typed
bytes_in (faulty line fault) = []
