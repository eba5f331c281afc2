-- What the program knows of standard input when it has read it (SPECIFICATION 13.12).
-- Assumes nothing.
use Rattle.std.specs.Prelude.{ℕ, ◌≡◌, true, List, length}
use Rattle.reporting.specs.declared.Report.{Report}
use Rattle.reporting.specs.Streaming.{Behind, closed_by}
use Rattle.report.specs.declared.Input.{Input}
use Rattle.report.specs.declared.Input.TheVariants.{Read, Closed}

-- What is kept is what is kept behind so many bytes, all that were read. (That they are those on standard input can't be said: the contract
-- of the system's read says nothing of the bytes.)
pub record BehindRead (report : Report) (total : ℕ) (store : List ℕ) : Type 0 where
  pub old : List ℕ
  pub bytes : List ℕ
  pub long : length bytes ≡ total
  pub behind : Behind old bytes report store

-- where it was read (of a failure nothing is said)
abbrev pub input_read : Input → List ℕ → Type 0
input_read (Read report total) store = BehindRead report total store
-- and here the report is closed: what is still to come changes nothing (`ClosedEarly`, in crates/reporting/specs/Streaming.antt)
input_read (Closed report total) store = BehindRead report total store × (closed_by report ≡ true)
