-- `typed::places::place_line` meets its contract, test by test.
-- Assumes nothing.
use native.Mathlib.Omega.{arith}
use Rattle.printing.proofs.PageLaws.{as_wrote}
use Rattle.typed.proofs.ByteLaws.{size_small}
use Rattle.typed.proofs.PlaceLaws.{records_small, in_head_law, in_record_law, in_row_law}
use Rattle.typed.proofs.places.place_line.Goals as goal

pub returns-then-place-lt-HEAD_SIZE : goal.returns-then-place-lt-HEAD_SIZE
returns-then-place-lt-HEAD_SIZE c = as_wrote c.in_head.ensures (in_head_law c.args.counts c.args.version c.args.places.now c.args.place c.if-place-lt-HEAD_SIZE.true)

pub overflow_mul-records : goal.overflow_mul-records
overflow_mul-records c = omega (arith, records_small c.of-layout.result.size c.args.counts.tasks (size_small _ c.of-layout.ensures) c.requires.roomy.tasks)

pub returns-then-behind-records : goal.returns-then-behind-records
returns-then-behind-records c = as_wrote c.in_record.ensures (in_record_law c.args.counts c.args.version c.args.places.now c.args.place c.of-layout.ensures (omega (arith, c.if-place-lt-HEAD_SIZE.false)) c.if-behind-records.true)

pub returns-else-behind-records : goal.returns-else-behind-records
returns-else-behind-records c = as_wrote c.in_row.ensures (in_row_law c.args.counts c.args.version c.args.places.now c.args.place c.of-layout.ensures (omega (arith, c.if-place-lt-HEAD_SIZE.false)) (omega (arith, c.if-behind-records.false)))
