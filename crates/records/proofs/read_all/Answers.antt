-- `records::read_all` meets its contract: each turn takes one record, by the laws of `RecordLaws`, and fills one word of each column.
-- Assumes nothing.
use native.Mathlib.Omega.{arith}
use mathlib.Core.Path.{refl, ◌∙◌, ap}
use Rattle.tables.proofs.FieldLaws.{handed_on}
use Rattle.tables.specs.Refusals.{is_clean}
use Rattle.records.proofs.ColumnLaws.{sound, tasks_fit_law, taking_none, records_more, taking_at}
use Rattle.records.proofs.RecordLaws.{reading_none, record_there, start_near, task_is, clean_delays, record_wrong, reading_more, reading_all}
use Rattle.records.proofs.read_all.Goals as goal

pub loop-i-init : goal.loop-i-init
loop-i-init c = (reading_none _ _ _ _ c.requires.head_read.0, taking_none c.requires.lent _ _ (tasks_fit_law c.requires.head_read.0 c.requires.lent) (omega arith))

pub read-task-requires : goal.read-task-requires
read-task-requires c = record { sound = sound _ _ _ c.loop-i.invariant.0.head; size_in_bounds = record_there _ _ _ _ _ _ _ c.loop-i.invariant.0 c.loop-i-test.true }

pub check-requires : goal.check-requires
check-requires c = (c.requires.head_read.1, start_near _ _ _ _ _ _ _ c.loop-i.invariant.0 c.loop-i-test.true)

pub returns-in_err-check : goal.returns-in_err-check
returns-in_err-check c =
    let w = record_wrong _ _ _ _ _ _ _ c.loop-i.invariant.0 c.loop-i-test.true _ c.read-task.ensures.result_value c.read-task.ensures.priority_bound _ c.check.ensures (ap is_clean c.in_err-check.was) in
    record { value = handed_on c.from_residual.ensures.1 c.in_err-check.was ∙ w.0; filled = (taking_at c.loop-i.invariant.1 _ _ w.1 refl).0; filled_2 = (taking_at c.loop-i.invariant.1 _ _ w.1 refl).1 }

pub overflow_sub-words : goal.overflow_sub-words
overflow_sub-words c = omega (arith, clean_delays _ _ c.args.layout _ _ _ c.check.ensures (ap is_clean c.in_ok-check.was))

pub loop-i-preserved : goal.loop-i-preserved
loop-i-preserved c = (
  reading_more _ _ _ _ _ _ _ c.loop-i.invariant.0 c.loop-i-test.true _ c.read-task.ensures.result_value c.read-task.ensures.priority_bound _ c.check.ensures (ap is_clean c.in_ok-check.was) _ refl,
  records_more c.loop-i.invariant.1 c.loop-i-test.true _ (task_is _ _ _ _ _ _ _ c.loop-i.invariant.0 c.loop-i-test.true _ c.read-task.ensures.result_value c.read-task.ensures.priority_bound),
)

pub returns : goal.returns
returns c = let w = reading_all _ _ _ _ c.loop-i.invariant.0 c.loop-i-test.false in record { value = w.0; filled = (taking_at c.loop-i.invariant.1 _ _ w.1 refl).0; filled_2 = (taking_at c.loop-i.invariant.1 _ _ w.1 refl).1 }

pub overflow_add-at : goal.overflow_add-at
overflow_add-at c = omega (arith, record_there _ _ _ _ _ _ _ c.loop-i.invariant.0 c.loop-i-test.true, c.well_formed)
