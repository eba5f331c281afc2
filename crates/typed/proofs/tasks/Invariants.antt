use Prim.Native.Nat.{◌≤◌}
use Rattle.model.specs.Lists.{tabulate}
use Rattle.encoding.specs.Bytes.{record_bytes, joined}
use Rattle.printing.specs.Page.{Wrote}
use Rattle.typed.specs.Bytes.{low_task}
use Rattle.typed.proofs.tasks.Given as goal

abbrev pub invariant-loop-fields : goal.invariant-loop-fields
invariant-loop-fields l = (l.fields-index ≤ l.count) × Wrote l.initial.page (joined (record_bytes l.delays) (tabulate (low_task l.numbers) l.fields-index)) l.page
