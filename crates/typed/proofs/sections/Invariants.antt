use Prim.Native.Nat.{◌≤◌}
use Rattle.model.specs.Lists.{tabulate}
use Rattle.encoding.specs.Bytes.{row_bytes, joined}
use Rattle.printing.specs.Page.{Wrote}
use Rattle.typed.specs.Bytes.{low_row}
use Rattle.typed.proofs.sections.Given as goal

abbrev pub invariant-loop-fields : goal.invariant-loop-fields
invariant-loop-fields l = (l.fields-index ≤ l.count) × Wrote l.initial.page (joined row_bytes (tabulate (low_row l.numbers) l.fields-index)) l.page
