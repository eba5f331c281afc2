-- So many bytes are read, and reader and slices are those behind them.
-- Assumes nothing.
use Prim.Native.Nat.{◌-◌}
use Rattle.to_bytes.proofs.ReadLaws.{Sofar}
use Rattle.to_bytes.proofs.read_text.Given as goal

abbrev pub invariant-loop-total : goal.invariant-loop-total
invariant-loop-total g l = Sofar l.fields l.numbers l.places l.piece l.reader l.total

abbrev pub decreases-loop-total : goal.decreases-loop-total
decreases-loop-total g l = 576460752303423488 - l.total
