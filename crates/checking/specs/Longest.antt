-- How long the line can be, and that a buffer of that many bytes holds it whole (SPECIFICATION 10.2). The proofs are in
-- proofs/LineLaws.antt.
-- Assumes nothing.
use Rattle.std.specs.Prelude.{ℕ, ◌≤◌, ◌<◌, ◌≡◌, List, length}
use Rattle.printing.specs.Appended.{Appended}
use Rattle.printing.specs.Longest.{Whole}
use Rattle.scanning.specs.declared.Scan.{Scan}
use Rattle.scanning.specs.Pieces.{Within, gone}
use Rattle.checking.specs.Text.{unreadable_line, check_text}
use Rattle.checking.specs.Pieces.{line_after}

-- `unreadable at 18446744073709551614` and its newline
abbrev pub longest : ℕ
longest = 35

pub record LineFits : Type 0 where
  -- no line is longer, whatever the table is and the list, if the machine can count its bytes
  pub fits : (list bytes : List ℕ) → length list < 18446744073709551616 → length (check_text list bytes) ≤ longest
  -- and one is as long: that of the longest such list, where its last byte can't be read
  pub reached : length (unreadable_line 18446744073709551614) ≡ longest

-- What `check_list` leaves in a buffer of so many bytes is whole: nothing is cut off.
abbrev pub LineWhole : Type 0
LineWhole =
    (scan : Scan) (words bytes old : List ℕ) (end : ℕ) (new : List ℕ) → Within scan 0 → longest ≤ length old →
    Appended old 0 (line_after (gone scan words) bytes) end new → Whole old (line_after (gone scan words) bytes) end new
