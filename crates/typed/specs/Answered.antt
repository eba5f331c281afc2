-- What is answered to a text: the bytes of the table that it is read as, or the line for its first fault (SPECIFICATION 14.3 and 14.4). The
-- proofs are in proofs/AnswerLaws.antt.
-- Assumes nothing.
use Rattle.std.specs.Prelude.{ℕ, ◌≤◌, ◌<◌, ◌≡◌, Result, Ok, Err, Bool, true, false, List, length}
use Rattle.printing.specs.Appended.{Appended}
use Rattle.words.specs.Words.{events_of}
use Rattle.typing.specs.declared.lines.Line.{Line}
use Rattle.typing.specs.declared.lines.Line.TheVariants.{Blank, Filling, Wrong}
use Rattle.typing.specs.declared.State.{State}
use Rattle.typing.specs.Reading.{Reading, given, faulty, reading_of, bytes_typed}
use Rattle.typing.specs.Kept.{kept_behind, Ready}
use Rattle.typed.specs.declared.Faulty.{Faulty}
use Rattle.typed.specs.Bytes.{Roomy, bytes_kept}
use Rattle.typed.specs.Messages.{fault_line}

-- what a text is answered by what it is read as
abbrev pub text_for : Reading → List ℕ
text_for (given version typed) = bytes_typed version typed
text_for (faulty line fault) = fault_line line fault

abbrev pub is_faulty : Reading → Bool
is_faulty (given version typed) = false
is_faulty (faulty line fault) = true

-- the same by what the code keeps behind the text
abbrev pub kept_text : Line → State → List ℕ → List ℕ
kept_text Blank state numbers = bytes_kept state.counts numbers
kept_text (Filling kind count) state numbers = bytes_kept state.counts numbers
kept_text (Wrong fault) state numbers = fault_line state.number fault

abbrev pub is_wrong : Line → Bool
is_wrong Blank = false
is_wrong (Filling kind count) = false
is_wrong (Wrong fault) = true

-- the answer says which of both it is, and where it ends
abbrev pub end_in : Result ℕ Faulty → ℕ
end_in (Ok end) = end
end_in (Err fault) = fault.0

abbrev pub says_faulty : Result ℕ Faulty → Bool
says_faulty (Ok end) = false
says_faulty (Err fault) = true

pub record Answered (state : State) (numbers old : List ℕ) (answer : Result ℕ Faulty) (new : List ℕ) : Type 0 where
  pub fault_is : says_faulty answer ≡ is_wrong state.line
  pub text_is : Appended old 0 (kept_text state.line state numbers) (end_in answer) new

-- No second answer satisfies it: which of both it is, where it ends, and each byte of the buffer are determined.
abbrev pub NoSecondAnswer : Type 0
NoSecondAnswer =
    (state : State) (numbers old : List ℕ) (answer other : Result ℕ Faulty) (new another : List ℕ) →
    Answered state numbers old answer new → Answered state numbers old other another → (answer ≡ other) × (new ≡ another)

-- For any text. The slices for numbers and lines may have held anything before, but for the version's line; the fields of a line begin at 0.
pub record TextAnswered : Type 0 where
  pub text_is : (numbers places text : List ℕ) → Ready numbers places →
      kept_text (kept_behind numbers places (events_of text)).state.line (kept_behind numbers places (events_of text)).state (kept_behind numbers places (events_of text)).numbers
      ≡ text_for (reading_of text)
  pub fault_is : (numbers places text : List ℕ) → Ready numbers places →
      is_wrong (kept_behind numbers places (events_of text)).state.line ≡ is_faulty (reading_of text)
  -- what `respond` asks for
  pub roomy : (numbers places text : List ℕ) → Ready numbers places → Roomy (kept_behind numbers places (events_of text)).state.counts
  pub long : (numbers places text : List ℕ) → Ready numbers places → length (kept_behind numbers places (events_of text)).numbers ≡ 1393

-- No answer is longer than that: 5 + 21 * 200 + 6 * 64 bytes. (The machine's words hold the number of any line.)
abbrev pub longest_answer : ℕ
longest_answer = 4589

abbrev pub AnswerFits : Type 0
AnswerFits =
    (line : Line) (state : State) (numbers : List ℕ) → Roomy state.counts → state.number < 18446744073709551616 →
    length (kept_text line state numbers) ≤ longest_answer
