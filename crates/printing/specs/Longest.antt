-- How long the text of a table can be, and that a buffer of that many bytes holds it whole (SPECIFICATION 10). The proofs are in
-- proofs/LongestLaws.antt.
-- Assumes nothing.
use Rattle.std.specs.Prelude.{ℕ, ◌≤◌, ◌≡◌, List, length, take, drop}
use Rattle.equation.specs.declared.Start.{Start}
use Rattle.response.specs.Outcome.{Call, Left, Outcome}
use Rattle.printing.specs.Appended.{Appended}
use Rattle.printing.specs.Text.{text_of}
use Rattle.printing.specs.Answered.{answer_text}

-- The lines `tasks 200` and `schedulable` have 10 and 12 bytes. A task's line has 50 besides its place, since answer, deadline and rounds
-- are at most 1,000,000; and the places 0 to 199 have 490 digits. No smaller number would do for the digits alone: `LongestReached`, in
-- crates/samples/specs/Longest.antt.
abbrev pub longest : ℕ
longest = 10512

-- Whatever the analysis says, from either start, of any bytes and in any slices, its text is no longer.
abbrev pub TextFits : Type 0
TextFits =
    (start : Start) (lent : Call) (result : Left) → Outcome start lent result →
    length (text_of lent.bytes result.verdict result.answers result.rounds) ≤ longest

-- The whole text stands at the buffer's beginning, it ends where it should, and the bytes behind it stay.
pub record Whole (old text : List ℕ) (end : ℕ) (new : List ℕ) : Type 0 where
  pub end_is : end ≡ length text
  pub text_is : take end new ≡ text
  pub stays : drop end new ≡ drop end old

-- What `answer_text` leaves in a buffer of so many bytes is whole: nothing is cut off.
abbrev pub TextWhole : Type 0
TextWhole =
    (start : Start) (bytes old : List ℕ) (end : ℕ) (new : List ℕ) → longest ≤ length old →
    Appended old 0 (answer_text start bytes) end new → Whole old (answer_text start bytes) end new
