-- How a section row in the code is a row, and what is found in it.
--
-- What is found in a row has two forms, as what is found in a record has (crates/records/specs/Reading.antt). The one to believe stands in
-- crates/tables/specs. The form here, `row_fault`, is what the code has at hand while it reads: the row's own numbers, and in place of the row
-- before its key. It exists for the contract of `rows::check` alone. That both are the same is proved in proofs/RowLaws.antt, and the contract
-- of `reading::read` speaks of the first only.
-- Assumes nothing.
use Rattle.std.specs.Prelude.{ℕ, ◌+◌, ◌*◌, List, ltb, get_or}
use Rattle.model.specs.Tables.{Row}
use Rattle.reading.specs.declared.rows.RowRecord.{RowRecord}
use Rattle.tables.specs.Fields.{row_order, row_refusal}
use Rattle.tables.specs.Refusals.{Check, fields_check}
use Rattle.tables.specs.Rules.{row_test}

abbrev pub row_of : RowRecord → Row
row_of r = record { place = r.place.0; semaphore = r.semaphore; longest = r.longest.0 }

-- a number that rises where rows rise by place, then semaphore
abbrev pub row_key : Row → ℕ
row_key row = row.place * 256 + row.semaphore

-- where a row stands and what it is held to: its first byte, the number of tasks, their costs, and the key of the row before
pub record AtRow : Type 0 where
  pub start : ℕ
  pub tasks : ℕ
  pub costs : List ℕ
  pub before : ℕ

abbrev pub at_row : (start tasks : ℕ) (costs : List ℕ) (before : ℕ) → AtRow
at_row start tasks costs before = record { start = start; tasks = tasks; costs = costs; before = before }

-- what is found in a row there
abbrev pub row_fault : AtRow → Row → Check
row_fault there row =
    fields_check (row_test there.tasks (get_or there.costs row.place 0) (ltb there.before (row_key row)) row) (row_refusal there.start) row_order
