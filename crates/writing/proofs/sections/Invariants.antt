use Rattle.std.proofs.Common.{length}
use Rattle.model.specs.Lists.{tabulate}
use Rattle.tables.specs.Layout.{row_at}
use Rattle.encoding.specs.Bytes.{joined}
use Rattle.printing.specs.Page.{Wrote}
use Rattle.writing.specs.Text.{section_line}
use Rattle.writing.proofs.ChunkLaws.{Ahead}
use Rattle.writing.proofs.sections.Given as goal

abbrev pub invariant-loop-row : goal.invariant-loop-row
invariant-loop-row l =
    goal.iterator-loop-row.can_next l.row-iterator × goal.iterator-loop-row.is_finite l.row-iterator
    × Ahead l.table l.first 6 l.m l.row-iterator.iter.size l.row-iterator.n (length l.yielded) l.row-iterator.iter.rest.now
    × Wrote l.initial.page (joined section_line (tabulate (row_at l.table) (length l.yielded))) l.page
