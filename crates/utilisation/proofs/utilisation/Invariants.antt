use Rattle.std.proofs.Common.{length}
use Rattle.utilisation.proofs.SumLaws.{Summing}
use Rattle.utilisation.proofs.utilisation.Given as goal

-- the shares of so many records are added
abbrev pub invariant-loop-record : goal.invariant-loop-record
invariant-loop-record l =
    goal.iterator-loop-record.can_next l.record-iterator × goal.iterator-loop-record.is_finite l.record-iterator
    × Summing l.table l.record-iterator.iter.size l.record-iterator.n (length l.yielded) l.record-iterator.iter.rest.now l.sum
