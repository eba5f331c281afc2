-- `intake::take` meets its contract: what is kept of the piece stands behind what was kept, or nothing changes.
-- Assumes nothing.
use Rattle.std.proofs.Common.{arith}
use Rattle.printing.proofs.AppendLaws.{part_length}
use Rattle.intake.proofs.StateLaws.{store_long, takes}
use Rattle.intake.proofs.take.Goals as goal

pub slice_bounds-append-end-2 : goal.slice_bounds-append-end-2
slice_bounds-append-end-2 c = part_length _ c.args.store.now (omega (arith, store_long c.args.store.now c.args.fill.now c.fitness.ensures c.in_ok-fitness.was))

pub returns : goal.returns
returns c = takes c.args.store.now c.args.fill.now c.fitness.ensures c.in_ok-fitness.was c.append.ensures
