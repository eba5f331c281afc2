use Rattle.std.proofs.Common.{length}
use Rattle.model.specs.Lists.{tabulate}
use Rattle.tables.specs.Layout.{task_at}
use Rattle.encoding.specs.Bytes.{joined}
use Rattle.printing.specs.Page.{Wrote}
use Rattle.writing.specs.Text.{task_line}
use Rattle.writing.proofs.ChunkLaws.{Ahead}
use Rattle.writing.proofs.tasks.Given as goal

abbrev pub invariant-loop-record : goal.invariant-loop-record
invariant-loop-record l =
    goal.iterator-loop-record.can_next l.record-iterator × goal.iterator-loop-record.is_finite l.record-iterator
    × Ahead l.table 5 l.layout.size l.n l.record-iterator.iter.size l.record-iterator.n (length l.yielded) l.record-iterator.iter.rest.now
    × Wrote l.initial.page (joined task_line (tabulate (task_at l.table) (length l.yielded))) l.page
