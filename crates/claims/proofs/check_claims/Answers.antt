-- `claims::check_claims` meets its contract: a head is refused, or right, and then the claims are checked with room for the table's tasks.
-- Assumes nothing.
use mathlib.Core.Path.{sym, ◌∙◌}
use Rattle.tables.proofs.OrderLaws.{head_decides}
use Rattle.reading.proofs.HeldLaws.{small_fits, large_fits}
use Rattle.claims.proofs.ColumnLaws.{read_refused}
use Rattle.claims.proofs.check_claims.Goals as goal

pub returns-in-Err : goal.returns-in-Err
returns-in-Err c = read_refused _ _ _ (head_decides _ _ _ (sym c.in-Err.is ∙ c.check-head.ensures))

pub check_sized-requires-clause-table_fits : goal.check_sized-requires-clause-table_fits
check_sized-requires-clause-table_fits c = let clean = sym c.check-head.ensures ∙ c.in_default.is in
    (clean, large_fits _ clean)

pub check_sized-requires-2-clause-table_fits : goal.check_sized-requires-2-clause-table_fits
check_sized-requires-2-clause-table_fits c = let clean = sym c.check-head.ensures ∙ c.in_default.is in
    (clean, small_fits _ clean c.is_large.ensures c.if-is_large.false)
