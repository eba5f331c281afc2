-- How long the text form of a table can be, and that a buffer of that many bytes holds it whole (SPECIFICATION 14). The proofs are in
-- proofs/LongestLaws.antt and proofs/LongTable.antt.
-- Assumes nothing.
use Rattle.std.specs.Prelude.{ℕ, ◌+◌, ◌*◌, ◌/◌, ◌%◌, ◌≤◌, ◌≡◌, List, length}
use Rattle.model.specs.Lists.{tabulate}
use Rattle.model.specs.Tables.{Task, Row, Table}
use Rattle.encoding.specs.Bytes.{encode}
use Rattle.encoding.specs.Statements.{AreBytes}
use Rattle.printing.specs.Appended.{Appended}
use Rattle.printing.specs.Longest.{Whole}
use Rattle.writing.specs.Text.{form_text}

-- The comment has 69 bytes and `version 3` has 10. There are at most 200 tasks of 56 bytes each, since a priority is a byte and every other
-- number at most 1,000,000; and at most 64 sections of 23, since a place is below 200 and a semaphore at most 16.
abbrev pub longest_form : ℕ
longest_form = 69 + 10 + 200 * 56 + 64 * 23

-- The text for any bytes is no longer, whether it is a form or a refusal's line.
abbrev pub FormFits : Type 0
FormFits = (bytes : List ℕ) → AreBytes bytes → length (form_text bytes) ≤ longest_form

-- No smaller number is enough: here is a table that is not refused, and whose form has so many bytes. All its numbers are as long as they may be.
abbrev pub long_task : ℕ → Task
long_task i = record { priority = 255; period = 1000000; cost = 1000000; deadline = 1000000; earliest = 1000000; latest = 1000000 }

-- the tasks from place 100 on have seven sections each, with the semaphores 10 to 16
abbrev pub long_row : ℕ → Row
long_row k = record { place = 100 + k / 7; semaphore = 10 + k % 7; longest = 1000000 }

abbrev pub long_table : Table
long_table = record { tasks = tabulate long_task 200; rows = tabulate long_row 64 }

abbrev pub LongestFormReached : Type 0
LongestFormReached = length (form_text (encode 3 long_table)) ≡ longest_form

-- What `form_text` leaves in a buffer of so many bytes is whole: nothing is cut off.
abbrev pub FormWhole : Type 0
FormWhole =
    (bytes old : List ℕ) (end : ℕ) (new : List ℕ) → AreBytes bytes → longest_form ≤ length old → Appended old 0 (form_text bytes) end new →
    Whole old (form_text bytes) end new
