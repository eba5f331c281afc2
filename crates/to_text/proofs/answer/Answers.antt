-- `to_text::answer` meets its contract: the longest form has room.
-- Assumes nothing.
use native.Mathlib.Omega.{arith}
use Rattle.writing.proofs.LongestLaws.{form_whole}
use Rattle.to_text.proofs.answer.Goals as goal

pub returns : goal.returns
returns c = form_whole _ _ _ _ (record { each = λ at. omega (arith, c.type_inv.table at) }) c.requires c.form_text.ensures
