-- What is known behind a text that is gone through (SPECIFICATION 14). The proofs are in proofs/TextLaws.antt.
-- Assumes nothing.
use Rattle.std.specs.Prelude.{ℕ, ◌<◌, ◌≡◌, List, length, replicate}
use Rattle.words.specs.Words.{events_of}
use Rattle.words.specs.Steps.{begun, heard_in, spot_after}
use Rattle.typing.specs.declared.State.{State}
use Rattle.typing.specs.declared.Reader.{Reader}
use Rattle.typing.specs.Lines.{no_fields}
use Rattle.typing.specs.Reading.{state_begun, reading_of}
use Rattle.typing.specs.Steps.{memory, memory_after}
use Rattle.typing.specs.Kept.{kept_behind}
use Rattle.typed.specs.Answered.{text_for, is_faulty, kept_text, is_wrong}
use Rattle.typed.specs.Places.{place_answer, place_for}

-- the slices before the first byte
abbrev pub no_numbers : List ℕ
no_numbers = replicate 1393 0

abbrev pub no_places : List ℕ
no_places = replicate 265 0

pub record Empty (fields numbers places : List ℕ) : Type 0 where
  pub fields_are : fields ≡ no_fields
  pub numbers_are : numbers ≡ no_numbers
  pub places_are : places ≡ no_places

-- Reader and slices are those behind this text, which can be counted.
pub record BehindText (text : List ℕ) (reader : Reader) (fields numbers places : List ℕ) : Type 0 where
  pub counted : length text < 1152921504606846970
  pub spot_is : reader.spot ≡ spot_after begun text
  pub memory_is : memory reader.state fields numbers places ≡ memory_after (memory state_begun no_fields no_numbers no_places) (heard_in begun text)

-- behind the end of this text, which ends its last line
pub record AfterText (text : List ℕ) (state : State) (numbers places : List ℕ) : Type 0 where
  pub state_is : state ≡ (kept_behind no_numbers no_places (events_of text)).state
  pub numbers_are : numbers ≡ (kept_behind no_numbers no_places (events_of text)).numbers
  pub places_are : places ≡ (kept_behind no_numbers no_places (events_of text)).places

-- What is promised by what the code keeps is what the text is read as, and the line of its fault just where it can't be read.
pub record AnswerOfText : Type 0 where
  pub text_is : (text : List ℕ) (state : State) (numbers places : List ℕ) → AfterText text state numbers places →
      kept_text state.line state numbers ≡ text_for (reading_of text)
  pub place_is : (text : List ℕ) (state : State) (numbers places : List ℕ) (place : ℕ) → AfterText text state numbers places →
      place_answer state.line state numbers places place ≡ place_for (reading_of text) place
  pub fault_is : (text : List ℕ) (state : State) (numbers places : List ℕ) → AfterText text state numbers places →
      is_wrong state.line ≡ is_faulty (reading_of text)
