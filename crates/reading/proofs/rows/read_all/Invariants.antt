use Prim.Native.Nat.{◌*◌}
use Rattle.records.specs.Columns.{part}
use Rattle.records.proofs.ColumnLaws.{Taking}
use Rattle.reading.proofs.RowLaws.{Scanning}
use Rattle.reading.proofs.rows.read_all.Given as goal

abbrev pub invariant-loop-k : goal.invariant-loop-k
invariant-loop-k l =
    Scanning l.table l.n l.m (part (1 * l.room) l.room l.initial.words) l.k l.at l.before × Taking l.table l.room l.n 0 l.m l.k l.initial.bytes l.initial.words l.bytes l.words
