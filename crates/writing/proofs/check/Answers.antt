-- `writing::check` meets its contract: a head that is refused decides; behind a right one there is room to read.
-- Assumes nothing.
use mathlib.Core.Path.{refl, sym, ◌∙◌}
use native.Mathlib.Omega.{arith}
use Rattle.tables.proofs.FieldLaws.{handed_on}
use Rattle.tables.proofs.OrderLaws.{head_decides}
use Rattle.writing.proofs.HeadLaws.{columns_lent}
use Rattle.writing.proofs.check.Goals as goal

pub returns-in_err-check : goal.returns-in_err-check
returns-in_err-check c =
    handed_on c.from_residual.ensures.1 c.in_err-check.was ∙ (c.in_err-check.was ∙ head_decides _ _ _ (sym c.in_err-check.was ∙ c.check.ensures))

pub read-requires : goal.read-requires
read-requires c = let clean = sym c.check.ensures ∙ c.in_ok-check.was in record { table_value = clean; span_bound = (omega arith, columns_lent _ clean refl refl) }
