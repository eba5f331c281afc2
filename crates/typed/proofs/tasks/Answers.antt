-- `typed::tasks` meets its contract: each turn appends one more.
-- Assumes nothing.
use Prim.Native.Nat.{ℕ, ◌<◌}
use native.Mathlib.Omega.{arith}
use mathlib.Core.Path.{◌≡◌, ap}
use lib.ListN.{length-take, length-drop}
use Rattle.model.specs.Lists.{tabulate}
use Rattle.encoding.specs.Bytes.{joined, record_bytes}
use Rattle.typed.specs.Bytes.{low_task}
use Rattle.printing.proofs.PageLaws.{as_wrote}
use Rattle.printing.proofs.JoinedLaws.{joined_none, joined_more}
use Rattle.typed.proofs.ByteLaws.{task_chunk}
use Rattle.typed.proofs.tasks.Goals as goal

pub loop-fields-init : goal.loop-fields-init
loop-fields-init c = (omega arith, joined_none _ _ _)

pub loop-fields-preserved : goal.loop-fields-preserved
loop-fields-preserved c =
    let counts : c.loop-fields.fields-index < c.args.count = omega (arith, c.loop-fields-test.true, length-take c.args.count c.as_chunks.result.0.now) in
    (omega (arith, counts), joined_more _ _ _ c.loop-fields.invariant.1 (task_chunk c.args.count c.loop-fields.fields-index c.args.numbers.now c.as_chunks.ensures.front c.requires.numbers_len c.requires.count_bound counts) c.task.ensures)

pub returns : goal.returns
returns c =
    let all : c.loop-fields.fields-index ≡ c.args.count = grind (arith, c.loop-fields.invariant.0, c.loop-fields-test.false, length-take c.args.count c.as_chunks.result.0.now, c.as_chunks.ensures.front_len, c.requires.numbers_len, c.requires.count_bound, length-drop) in
    as_wrote c.loop-fields.invariant.1 (ap (λ (k : ℕ). joined (record_bytes c.args.delays) (tabulate (low_task c.args.numbers.now) k)) all)
