-- Scan and words are those behind what was read.
-- Assumes nothing.
use Prim.Native.Nat.{◌-◌}
use Rattle.checker.proofs.ReadLaws.{Sofar}
use Rattle.checker.proofs.read_list.Given as goal

abbrev pub invariant-loop-scan : goal.invariant-loop-scan
invariant-loop-scan g l = Sofar l.words l.piece l.scan

abbrev pub decreases-loop-scan : goal.decreases-loop-scan
decreases-loop-scan g l = 9223372036854775808 - l.scan.at.0
