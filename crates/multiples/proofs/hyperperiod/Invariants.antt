-- the periods of so many records are joined
use Rattle.std.proofs.Common.{length}
use Rattle.multiples.proofs.JoinLaws.{Joining}
use Rattle.multiples.proofs.hyperperiod.Given as goal

abbrev pub invariant-loop-record : goal.invariant-loop-record
invariant-loop-record l =
    goal.iterator-loop-record.can_next l.record-iterator × goal.iterator-loop-record.is_finite l.record-iterator
    × Joining l.table l.record-iterator.iter.size l.record-iterator.n (length l.yielded) l.record-iterator.iter.rest.now l.common
