-- `reading::rows::read_all` meets its contract: each turn takes one row, by the laws of `RowLaws`, and fills one word of each column.
-- Assumes nothing.
use native.Mathlib.Omega.{arith}
use mathlib.Core.Path.{refl, ◌∙◌, ap}
use Rattle.tables.specs.Refusals.{is_clean}
use Rattle.tables.proofs.FieldLaws.{clean_only, handed_on}
use Rattle.records.proofs.ColumnLaws.{tasks_fit_law, rows_fit_law, rows_end, taking_none, costs_are, rows_more, taking_at}
use Rattle.reading.proofs.RowLaws.{scanning_none, costs_long, fault_of, row_near, as_row, row_wrong, scanning_more, scanning_all}
use Rattle.reading.proofs.rows.read_all.Goals as goal

pub overflow_mul-at : goal.overflow_mul-at
overflow_mul-at c = omega (arith, rows_end _ _ _ c.requires.head_read.0, c.well_formed)

pub overflow_add-at : goal.overflow_add-at
overflow_add-at c = omega (arith, rows_end _ _ _ c.requires.head_read.0, c.well_formed)

pub loop-k-init : goal.loop-k-init
loop-k-init c = (scanning_none _ _ _ _ _ c.requires.head_read.0 c.requires.head_read.1 c.requires.holds, taking_none c.requires.lent _ _ (tasks_fit_law c.requires.head_read.0 c.requires.lent) (rows_fit_law c.requires.head_read.0 c.requires.head_read.1))

pub check-requires : goal.check-requires
check-requires c = record { at_bound = row_near _ _ _ _ _ _ _ c.loop-k.invariant.0 c.loop-k-test.true _ c.read-row.ensures.result_value c.read-row.ensures.place_bound.1; place_bound = c.read-row.ensures.place_bound; n_in_bounds = costs_long (costs_are c.loop-k.invariant.1) c.loop-k.invariant.0.held }

pub returns-in_err-check : goal.returns-in_err-check
returns-in_err-check c = let w = row_wrong _ _ _ _ _ _ _ c.loop-k.invariant.0 c.loop-k-test.true _ c.read-row.ensures.result_value c.read-row.ensures.place_bound.1 _ (fault_of _ _ _ _ _ _ c.check.ensures (costs_are c.loop-k.invariant.1)) (ap is_clean c.in_err-check.was) in record { value = handed_on c.from_residual.ensures.1 c.in_err-check.was ∙ w.0; filled = (taking_at c.loop-k.invariant.1 _ _ refl w.1).0; filled_2 = (taking_at c.loop-k.invariant.1 _ _ refl w.1).1 }

pub loop-k-preserved : goal.loop-k-preserved
loop-k-preserved c = (
  scanning_more _ _ _ _ _ _ _ c.loop-k.invariant.0 c.loop-k-test.true _ c.read-row.ensures.result_value c.read-row.ensures.place_bound.1 _ (fault_of _ _ _ _ _ _ c.check.ensures (costs_are c.loop-k.invariant.1)) (clean_only _ (ap is_clean c.in_ok-check.was)) _ c.key-before.ensures,
  rows_more c.loop-k.invariant.1 c.loop-k-test.true _ (as_row _ _ _ _ _ _ _ c.loop-k.invariant.0 c.loop-k-test.true _ c.read-row.ensures.result_value c.read-row.ensures.place_bound.1),
)

pub returns : goal.returns
returns c = let w = scanning_all _ _ _ _ c.loop-k.invariant.0 c.loop-k-test.false in record { value = w.0; filled = (taking_at c.loop-k.invariant.1 _ _ refl w.1).0; filled_2 = (taking_at c.loop-k.invariant.1 _ _ refl w.1).1 }
