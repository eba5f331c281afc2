-- How long the second analysis's text of a table can be, and that a buffer of that many bytes holds it whole (SPECIFICATION 10 and 13.8;
-- document 02, L8). The proofs are in proofs/LongestLaws.antt.
-- Assumes nothing.
use Rattle.std.specs.Prelude.{ℕ, ◌≤◌, List, length}
use Rattle.printing.specs.Appended.{Appended}
use Rattle.printing.specs.Longest.{Whole}
use Rattle.overlaps.specs.Outcome.{Call, Left, PastOutcome}
use Rattle.past_text.specs.Text.{past_text_of}
use Rattle.past_text.specs.Answered.{past_text}

-- The lines `tasks 200` and `schedulable` have 10 and 12 bytes. A task's line has 44 besides its place, since answer and deadline are at most
-- 1,000,000 and at most 64 q are tried; and the places 0 to 199 have 490 digits. No smaller number would do for the digits alone:
-- `LongestPastReached`, in crates/samples/specs/Longest.antt.
abbrev pub longest_past : ℕ
longest_past = 9312

-- Whatever the second analysis says, of any bytes and in any slices, its text is no longer.
abbrev pub PastTextFits : Type 0
PastTextFits =
    (lent : Call) (result : Left) → PastOutcome lent result →
    length (past_text_of lent.bytes result.found result.answers result.tried) ≤ longest_past

-- What `past_text` leaves in a buffer of so many bytes is whole: nothing is cut off.
abbrev pub PastTextWhole : Type 0
PastTextWhole =
    (bytes old : List ℕ) (end : ℕ) (new : List ℕ) → longest_past ≤ length old → Appended old 0 (past_text bytes) end new →
    Whole old (past_text bytes) end new
