-- `reporting::report_text` meets its contract: all bytes at once.
-- Assumes nothing.
use mathlib.Core.Path.{refl}
use native.Mathlib.Omega.{arith}
use Rattle.reporting.proofs.SafeLaws.{countable_begun_law}
use Rattle.reporting.proofs.PiecesLaws.{text_of_file}
use Rattle.reporting.proofs.report_text.Goals as goal

pub go_on-told-requires : goal.go_on-told-requires
go_on-told-requires c = countable_begun_law _ _ c.begin.ensures refl (omega arith)

pub returns : goal.returns
returns c = text_of_file _ c.begin.ensures refl c.go_on-told.ensures c.finish.ensures
