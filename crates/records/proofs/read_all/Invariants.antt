use Rattle.records.proofs.ColumnLaws.{Taking}
use Rattle.records.proofs.RecordLaws.{Reading}
use Rattle.records.proofs.read_all.Given as goal

abbrev pub invariant-loop-i : goal.invariant-loop-i
invariant-loop-i l =
    Reading l.span l.table l.layout l.n l.i l.at l.highest.0 × Taking l.table l.room l.n l.i 0 0 l.initial.bytes l.initial.words l.bytes l.words
