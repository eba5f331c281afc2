-- `scanning::pass` meets its contract: a text is one piece, and the machine counts its bytes.
-- Assumes nothing.
use native.Mathlib.Omega.{arith}
use Rattle.scanning.proofs.PieceLaws.{begun_within, gone_within}
use Rattle.scanning.proofs.pass.Goals as goal

pub finish-requires : goal.finish-requires
finish-requires c = gone_within (begun_within c.begin.ensures (omega arith)) c.go_on-scan.ensures
