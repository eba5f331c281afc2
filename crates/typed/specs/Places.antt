-- Which field stands at a byte of the table that is typed, and in which line of its text (SPECIFICATION 14.6). The proof is in
-- proofs/PlaceLaws.antt.
-- Assumes nothing.
use Rattle.std.specs.Prelude.{ℕ, ◌-◌, ◌*◌, ◌/◌, ◌%◌, ◌<◌, ◌≡◌, Result, List, ◌++◌, eqb, ltb, length, get_or}
use Rattle.model.specs.Choice.{pick, on}
use Rattle.tables.specs.declared.layout.DelayFields.{DelayFields}
use Rattle.tables.specs.declared.layout.DelayFields.TheVariants.{Jitter, Pair}
use Rattle.tables.specs.declared.layout.Layout.{Layout}
use Rattle.tables.specs.Fields.{CountField, task_count_field, row_count_field, count_refusal, RecordField, period_field, cost_field, deadline_field, earliest_field, latest_field, priority_field, refusal_in_record, RowField, place_field, semaphore_field, longest_field, order_field, refusal_in_row}
use Rattle.tables.specs.Layout.{layout_for}
use Rattle.tables.specs.Meaning.{Known}
use Rattle.tables.specs.Refusals.{place_of}
use Rattle.printing.specs.Text.{bytes_of, with_number}
use Rattle.words.specs.Words.{events_of}
use Rattle.printing.specs.Appended.{Appended}
use Rattle.typing.specs.declared.lines.Counts.{Counts}
use Rattle.typing.specs.declared.lines.Line.{Line}
use Rattle.typing.specs.declared.lines.Line.TheVariants.{Blank, Filling, Wrong}
use Rattle.typing.specs.declared.State.{State}
use Rattle.typing.specs.Reading.{Typed, Reading, given, faulty, reading_of}
use Rattle.typing.specs.Kept.{number_at, task_line_kept, row_line_kept, kept_behind, Ready}
use Rattle.typed.specs.Bytes.{version_kept}
use Rattle.typed.specs.Messages.{fault_line}
use Rattle.typed.specs.declared.Faulty.{Faulty}
use Rattle.typed.specs.Answered.{is_wrong, end_in, says_faulty}

-- `line 3: cost`, or `no line: number of tasks` for what stands in no line
abbrev pub line_said : ℕ → List ℕ
line_said line = pick (eqb line 0) (bytes_of "no line: ") (with_number (bytes_of "line ") line ++ bytes_of ": ")

abbrev pub said : ℕ → List ℕ → List ℕ
said line name = (line_said line ++ name) ++ bytes_of "\n"

-- the names of the fields, by the byte at which they stand in the head, in a record and in a row (SPECIFICATION 2)
unfoldable pub head_name : ℕ → List ℕ
head_name at =
    pick (ltb at 1) (bytes_of "version") (pick (ltb at 3) (bytes_of "length") (pick (ltb at 4) (bytes_of "number of tasks") (bytes_of "number of sections")))

abbrev pub delay_name : DelayFields → ℕ → List ℕ
delay_name Jitter at = bytes_of "jitter"
delay_name Pair at = pick (ltb at 17) (bytes_of "earliest delay") (bytes_of "latest delay")

unfoldable pub record_name : DelayFields → ℕ → List ℕ
record_name delays at =
    pick (ltb at 1) (bytes_of "priority")
    (pick (ltb at 5) (bytes_of "period") (pick (ltb at 9) (bytes_of "cost") (pick (ltb at 13) (bytes_of "deadline") (delay_name delays at))))

unfoldable pub row_name : ℕ → List ℕ
row_name at = pick (ltb at 1) (bytes_of "place") (pick (ltb at 2) (bytes_of "semaphore") (bytes_of "length"))

-- the field at a byte, with the lines of the version, of each task and of each section; of the head only the version may stand in a line
unfoldable pub head_said : ℕ → ℕ → List ℕ
head_said version_line at = said (on (ltb at 1) version_line) (head_name at)

unfoldable pub row_said : ℕ → (ℕ → ℕ) → ℕ → List ℕ
row_said count row_line at = said (on (ltb (at / 6) count) (row_line (at / 6))) (row_name (at % 6))

unfoldable pub place_said : Layout → (tasks sections version_line : ℕ) → (task_line row_line : ℕ → ℕ) → ℕ → List ℕ
place_said layout tasks sections version_line task_line row_line place =
    pick (ltb place 5) (head_said version_line place)
    (pick (ltb (place - 5) (layout.size * tasks))
    (said (task_line ((place - 5) / layout.size)) (record_name layout.delays ((place - 5) % layout.size)))
    (row_said sections row_line (place - 5 - layout.size * tasks)))

-- by what the code keeps
abbrev pub place_kept : Counts → ℕ → List ℕ → ℕ → List ℕ
place_kept counts version places place =
    place_said (layout_for version) counts.tasks counts.sections (number_at places 0) (task_line_kept places) (row_line_kept places) place

-- and what is answered: a text that can't be read has its fault's line
abbrev pub place_answer : Line → State → List ℕ → List ℕ → ℕ → List ℕ
place_answer Blank state numbers places place = place_kept state.counts (version_kept state.counts (number_at numbers 0)) places place
place_answer (Filling kind count) state numbers places place = place_kept state.counts (version_kept state.counts (number_at numbers 0)) places place
place_answer (Wrong fault) state numbers places place = fault_line state.number fault

pub record PlaceAnswered (state : State) (numbers places : List ℕ) (place : ℕ) (old : List ℕ) (answer : Result ℕ Faulty) (new : List ℕ) : Type 0 where
  pub fault_is : says_faulty answer ≡ is_wrong state.line
  pub text_is : Appended old 0 (place_answer state.line state numbers places place) (end_in answer) new

-- by what is typed
abbrev pub line_in : List ℕ → ℕ → ℕ
line_in lines i = get_or lines i 0

abbrev pub place_typed : ℕ → Typed → ℕ → List ℕ
place_typed version typed place =
    place_said (layout_for version) (length typed.tasks) (length typed.rows) typed.version_line (line_in typed.task_lines) (line_in typed.row_lines) place

-- a text, and a byte of its table
abbrev pub place_for : Reading → ℕ → List ℕ
place_for (given version typed) place = place_typed version typed place
place_for (faulty line fault) place = fault_line line fault

-- the names of the fields that a refusal can point at (crates/tables/specs/Fields.antt)
abbrev pub record_field_name : DelayFields → RecordField → List ℕ
record_field_name delays priority_field = bytes_of "priority"
record_field_name delays period_field = bytes_of "period"
record_field_name delays cost_field = bytes_of "cost"
record_field_name delays deadline_field = bytes_of "deadline"
record_field_name Jitter earliest_field = bytes_of "jitter"
record_field_name Pair earliest_field = bytes_of "earliest delay"
record_field_name Jitter latest_field = bytes_of "jitter"
record_field_name Pair latest_field = bytes_of "latest delay"

abbrev pub row_field_name : RowField → List ℕ
row_field_name place_field = bytes_of "place"
row_field_name semaphore_field = bytes_of "semaphore"
row_field_name longest_field = bytes_of "length"
row_field_name order_field = bytes_of "place"

abbrev pub count_field_name : CountField → List ℕ
count_field_name task_count_field = bytes_of "number of tasks"
count_field_name row_count_field = bytes_of "number of sections"

-- "The place-to-line answer: the field that stands there."
pub record PlaceSaid : Type 0 where
  -- what the code answers behind a text is what that text is read as, for any byte
  pub kept : (numbers places text : List ℕ) (place : ℕ) → Ready numbers places →
      place_answer (kept_behind numbers places (events_of text)).state.line (kept_behind numbers places (events_of text)).state
      (kept_behind numbers places (events_of text)).numbers (kept_behind numbers places (events_of text)).places place
      ≡ place_for (reading_of text) place
  -- where a refusal points at a field of task i, that field is named, with the line of that task
  pub in_record : (version : ℕ) (typed : Typed) (i : ℕ) (field : RecordField) → Known version → i < length typed.tasks →
      place_typed version typed (place_of (refusal_in_record (layout_for version) i field))
      ≡ said (line_in typed.task_lines i) (record_field_name (layout_for version).delays field)
  -- and so for section k
  pub in_row : (version : ℕ) (typed : Typed) (k : ℕ) (field : RowField) → k < length typed.rows →
      place_typed version typed (place_of (refusal_in_row (layout_for version) (length typed.tasks) k field))
      ≡ said (line_in typed.row_lines k) (row_field_name field)
  -- the counts stand in no line, and byte 0 is the version
  pub in_head : (version : ℕ) (typed : Typed) (field : CountField) → place_typed version typed (place_of (count_refusal field)) ≡ said 0 (count_field_name field)
  pub of_version : (version : ℕ) (typed : Typed) → place_typed version typed 0 ≡ said typed.version_line (bytes_of "version")
