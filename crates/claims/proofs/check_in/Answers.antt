-- `claims::check_in` meets its contract: what is read is refused, or held; then the list is of another length, or checked.
-- Assumes nothing.
use native.Mathlib.Omega.{arith}
use mathlib.Core.Path.{sym, ◌∙◌}
use Rattle.tables.proofs.CheckLaws.{head_right}
use Rattle.reading.proofs.StageLaws.{lent_again}
use Rattle.reading.proofs.HeldLaws.{table_held}
use Rattle.claims.proofs.ColumnLaws.{read_refused, wrong_count}
use Rattle.claims.proofs.check_in.Goals as goal

pub returns-in-Err : goal.returns-in-Err
returns-in-Err c = read_refused _ _ _ (sym c.in-Err.is ∙ c.read-found.ensures.value)

pub bounds-table-3 : goal.bounds-table-3
bounds-table-3 c = omega (arith, (head_right _ c.requires.table_value).long_enough)

pub returns-then-claims-n : goal.returns-then-claims-n
returns-then-claims-n c = wrong_count _ _ (sym c.read-found.ensures.value ∙ c.in_default.is) (λ e. omega (arith, e, c.from-n.ensures, c.if-claims-n.true))

pub check_table-requires : goal.check_table-requires
check_table-requires c = record { lent = (lent_again c.requires.lent.0 c.read-found.auto.bytes c.read-found.auto.words, c.requires.lent.1); claims_len = omega (arith, c.from-n.ensures, c.if-claims-n.false); table_held = table_held _ _ _ _ _ c.requires.lent.0 _ (c.read-found.ensures.value, (c.read-found.ensures.filled, c.read-found.ensures.filled_2)) c.in_default.is }
