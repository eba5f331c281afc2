-- What the program knows of the text on standard input when it has gone through it (SPECIFICATION 14). The proofs are in proofs/ReadLaws.antt.
-- Assumes nothing.
use Rattle.std.specs.Prelude.{ℕ, ◌<◌, ◌≡◌, Result, Ok, Err, List}
use Rattle.printing.specs.Appended.{Appended}
use Rattle.printing.specs.Longest.{Whole}
use Rattle.typing.specs.declared.State.{State}
use Rattle.typing.specs.declared.Reader.{Reader}
use Rattle.typing.specs.Reading.{reading_of}
use Rattle.typed.specs.declared.Faulty.{Faulty}
use Rattle.typed.specs.Answered.{text_for, is_faulty, end_in, says_faulty}
use Rattle.typed.specs.Places.{place_for}
use Rattle.texts.specs.Behind.{BehindText, AfterText}
use Rattle.streams.specs.declared.Unread.{Unread}

-- Reader and slices are those behind some text. (That it is the one on standard input can't be said: the contract of the system's read says
-- nothing of the bytes.)
pub record Behind (reader : Reader) (fields numbers places : List ℕ) : Type 0 where
  pub text : List ℕ
  pub is : BehindText text reader fields numbers places

-- what is known of a text: nothing where it was not read to its end
abbrev pub text_read : Result Reader Unread → List ℕ → List ℕ → List ℕ → Type 0
text_read (Ok reader) fields numbers places = Behind reader fields numbers places
text_read (Err why) fields numbers places = Unit

-- behind the end of some text
pub record After (state : State) (numbers places : List ℕ) : Type 0 where
  pub text : List ℕ
  pub is : AfterText text state numbers places

-- and one whose lines can be counted in the machine's words
pub record Ended (state : State) (numbers : List ℕ) : Type 0 where
  pub text : List ℕ
  pub places : List ℕ
  pub is : AfterText text state numbers places
  pub counted : state.number < 18446744073709551616

-- The answer is what that text is read as: which of both it is, and the whole of it.
pub record AnswersText (state : State) (numbers old : List ℕ) (answer : Result ℕ Faulty) (new : List ℕ) : Type 0 where
  pub fault_is : (text places : List ℕ) → AfterText text state numbers places → says_faulty answer ≡ is_faulty (reading_of text)
  pub text_is : (text places : List ℕ) → AfterText text state numbers places → Whole old (text_for (reading_of text)) (end_in answer) new

-- and so for a byte of its table
pub record AnswersPlace (state : State) (numbers places : List ℕ) (place : ℕ) (old : List ℕ) (answer : Result ℕ Faulty) (new : List ℕ) : Type 0 where
  pub fault_is : (text : List ℕ) → AfterText text state numbers places → says_faulty answer ≡ is_faulty (reading_of text)
  pub text_is : (text : List ℕ) → AfterText text state numbers places → Appended old 0 (place_for (reading_of text) place) (end_in answer) new
