-- `reading::read` meets its contract: behind a right head the records, and then the rows where no record is refused.
-- Assumes nothing.
use native.Mathlib.Omega.{arith}
use Rattle.tables.proofs.CheckLaws.{head_right}
use Rattle.records.specs.Columns.{cost_column}
use Rattle.reading.proofs.StageLaws.{lent_again, column_room, records_stop, costs_held, rows_decide}
use mathlib.Core.Path.{◌∙◌, ap}
use Rattle.tables.specs.Refusals.{is_clean}
use Rattle.tables.proofs.FieldLaws.{handed_on}
use Rattle.reading.proofs.read.Goals as goal

pub bounds-table-0 : goal.bounds-table-0
bounds-table-0 c = omega (arith, (head_right _ c.requires.table_value).long_enough)

pub bounds-table-3 : goal.bounds-table-3
bounds-table-3 c = omega (arith, (head_right _ c.requires.table_value).long_enough)

pub returns-in_err-read_all : goal.returns-in_err-read_all
returns-in_err-read_all c =
    let stop = records_stop _ _ c.requires.table_value _ c.read_all.ensures.value (c.read_all.ensures.filled, c.read_all.ensures.filled_2) (ap is_clean c.in_err-read_all.was) in
    record { value = handed_on c.from_residual.ensures.1 c.in_err-read_all.was ∙ stop.0; filled = stop.1.0; filled_2 = stop.1.1 }

pub bounds-table-4 : goal.bounds-table-4
bounds-table-4 c = omega (arith, (head_right _ c.requires.table_value).long_enough)

pub read_all-requires-2 : goal.read_all-requires-2
read_all-requires-2 c = record { head_read = (record { head = c.requires.table_value; decided = c.of-layout.ensures; counted = c.from-n.ensures }, c.from-m.ensures); lent = lent_again c.requires.span_bound.1 c.read_all.auto.bytes c.read_all.auto.words; holds = costs_held _ _ c.requires.table_value _ c.read_all.ensures.value (c.read_all.ensures.filled, c.read_all.ensures.filled_2) (ap is_clean c.in_ok-read_all.was) _ c.from-n.ensures (column_room c.requires.span_bound.1 cost_column) }

pub returns : goal.returns
returns c =
    let rows = rows_decide _ _ c.requires.table_value _ c.read_all.ensures.value (c.read_all.ensures.filled, c.read_all.ensures.filled_2) (ap is_clean c.in_ok-read_all.was) _ (c.read_all-2.ensures.value, (c.read_all-2.ensures.filled, c.read_all-2.ensures.filled_2)) in
    record { value = rows.0; filled = rows.1.0; filled_2 = rows.1.1 }
