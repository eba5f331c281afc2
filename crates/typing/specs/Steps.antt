-- How the code reads a text: the state of the line, its fields, and two lent slices in which the numbers of whole lines are kept, and the
-- lines they stand in. That these are what is typed is `TypedKept` of specs/Kept.antt.
-- Assumes nothing.
use Rattle.std.specs.Prelude.{ℕ, ◌+◌, ◌*◌, ◌≤◌, ◌<◌, List, [], ◌∷◌, take, set}
use Rattle.std.proofs.lemmas.List.Edits.{sets}
use Rattle.model.specs.Choice.{pick}
use Rattle.words.specs.Words.{Event, word, line_end}
use Rattle.words.specs.Steps.{begun}
use Rattle.typing.specs.declared.lines.Kind.{Kind}
use Rattle.typing.specs.declared.lines.Kind.TheVariants.{VersionLine, TaskLine, JitterLine, DelaysLine, SectionLine}
use Rattle.typing.specs.declared.lines.Line.{Line}
use Rattle.typing.specs.declared.lines.Line.TheVariants.{Blank, Filling, Wrong}
use Rattle.typing.specs.declared.lines.Counts.{Counts}
use Rattle.typing.specs.declared.State.{State}
use Rattle.typing.specs.declared.Reader.{Reader}
use Rattle.typing.specs.Lines.{fields_after, is_whole}
use Rattle.typing.specs.Reading.{state_begun, state_heard, state_ended, field}

abbrev pub start : Reader
start = record { spot = begun; state = state_begun }

-- the sums that are made of the counts fit into the machine's words
pub record Few (counts : Counts) : Type 0 where
  pub tasks : counts.tasks < 1152921504606846976
  pub sections : counts.sections < 1152921504606846976

-- each task and each section took a line, and there are fewer lines than that with so many bytes more
pub record Bounded (state : State) (more : ℕ) : Type 0 where
  pub tasks : state.counts.tasks ≤ state.number
  pub sections : state.counts.sections ≤ state.number
  pub most : state.number + more < 1152921504606846976

-- where the numbers of the next line of a kind go: the version first, then three for each section, then six for each task
abbrev pub slot_for : Kind → Counts → ℕ
slot_for VersionLine counts = 0
slot_for TaskLine counts = 193 + 6 * counts.tasks
slot_for JitterLine counts = 193 + 6 * counts.tasks
slot_for DelaysLine counts = 193 + 6 * counts.tasks
slot_for SectionLine counts = 1 + 3 * counts.sections

abbrev pub size_for : Kind → ℕ
size_for VersionLine = 1
size_for TaskLine = 6
size_for JitterLine = 6
size_for DelaysLine = 6
size_for SectionLine = 3

-- and where the number of the line goes
abbrev pub place_slot : Kind → Counts → ℕ
place_slot VersionLine counts = 0
place_slot TaskLine counts = 65 + counts.tasks
place_slot JitterLine counts = 65 + counts.tasks
place_slot DelaysLine counts = 65 + counts.tasks
place_slot SectionLine counts = 1 + counts.sections

abbrev pub numbers_with : Kind → Counts → List ℕ → List ℕ → List ℕ
numbers_with kind counts fields numbers = sets numbers (slot_for kind counts) (take (size_for kind) fields)

abbrev pub places_with : Kind → Counts → ℕ → List ℕ → List ℕ
places_with kind counts number places = set places (place_slot kind counts) number

abbrev pub numbers_at_end : Line → Counts → List ℕ → List ℕ → List ℕ
numbers_at_end Blank counts fields numbers = numbers
numbers_at_end (Filling kind count) counts fields numbers = pick (is_whole kind count) (numbers_with kind counts fields numbers) numbers
numbers_at_end (Wrong fault) counts fields numbers = numbers

abbrev pub places_at_end : Line → Counts → ℕ → List ℕ → List ℕ
places_at_end Blank counts number places = places
places_at_end (Filling kind count) counts number places = pick (is_whole kind count) (places_with kind counts number places) places
places_at_end (Wrong fault) counts number places = places

-- all that is kept
pub record Memory : Type 0 where
  pub state : State
  pub fields : List ℕ
  pub numbers : List ℕ
  pub places : List ℕ

abbrev pub memory : State → List ℕ → List ℕ → List ℕ → Memory
memory state fields numbers places = record { state = state; fields = fields; numbers = numbers; places = places }

-- a word or a line's end
abbrev pub memory_by : Memory → Event → Memory
memory_by kept (word spelling amount) =
    memory (state_heard kept.state spelling amount) (fields_after kept.state.line amount kept.fields) kept.numbers kept.places
memory_by kept line_end =
    memory (state_ended kept.state (field kept.fields 0)) kept.fields
    (numbers_at_end kept.state.line kept.state.counts kept.fields kept.numbers)
    (places_at_end kept.state.line kept.state.counts kept.state.number kept.places)

unfoldable pub memory_after : Memory → List Event → Memory
memory_after kept [] = kept
memory_after kept (event ∷ events) = memory_after (memory_by kept event) events
