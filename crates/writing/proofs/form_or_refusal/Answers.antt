-- `writing::form_or_refusal` meets its contract: a refusal gets its line, and a table that is not refused its form.
-- Assumes nothing.
use mathlib.Core.Path.{sym, ◌∙◌}
use Rattle.tables.proofs.OrderLaws.{read_clean}
use Rattle.printing.proofs.PageLaws.{as_wrote}
use Rattle.writing.proofs.Forms.{form_is}
use Rattle.writing.proofs.form_or_refusal.Goals as goal

pub form-requires : goal.form-requires
form-requires c = (read_clean 4 _ (sym c.check.ensures ∙ c.in-Ok.is)).0

pub returns-in-Err : goal.returns-in-Err
returns-in-Err c = as_wrote c.refused.ensures (form_is _ (sym c.check.ensures ∙ c.in-Err.is))

pub returns-in-Ok : goal.returns-in-Ok
returns-in-Ok c = as_wrote c.form.ensures (form_is _ (sym c.check.ensures ∙ c.in-Ok.is))
