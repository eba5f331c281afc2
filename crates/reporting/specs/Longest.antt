-- How long the parts of a report can be (SPECIFICATION 13.12; document 02, L10). The
-- proofs are in proofs/LengthLaws.antt.
-- Assumes nothing.
use Rattle.std.specs.Prelude.{ℕ, ◌+◌, ◌≤◌, List, length}
use Rattle.reporting.specs.declared.Report.{Report}
use Rattle.reporting.specs.Report.{report_of}
use Rattle.reporting.specs.Streaming.{lines_more, lines_room, closing_by}

-- The lines of the tables that end in some bytes more have no more bytes than that.
abbrev pub LinesFit : Type 0
LinesFit = (bytes more : List ℕ) → length (lines_more bytes more) ≤ lines_room (length more)

-- And what stands behind them, with counts of 20 digits, no more than that.
abbrev pub closing_room : ℕ
closing_room = 95

abbrev pub ClosingFits : Type 0
ClosingFits = (report : Report) → length (closing_by report) ≤ closing_room

-- so that a whole report has no more than both together
abbrev pub ReportFits : Type 0
ReportFits = (bytes : List ℕ) → length (report_of bytes) ≤ lines_room (length bytes) + closing_room
