-- `response::analyse_from` meets its contract: a head is refused, or right, and then the table is analysed with room for its tasks.
-- Assumes nothing.
use mathlib.Core.Path.{sym, ◌∙◌}
use Rattle.tables.proofs.OrderLaws.{head_decides}
use Rattle.reading.proofs.HeldLaws.{small_fits, large_fits}
use Rattle.response.proofs.OutcomeLaws.{read_refused}
use Rattle.response.proofs.analyse_from.Goals as goal

pub returns-in-Err : goal.returns-in-Err
returns-in-Err c = read_refused _ _ _ _ _ (head_decides _ _ _ (sym c.in-Err.is ∙ c.check-head.ensures))

pub analyse_sized-requires-clause-table_fits : goal.analyse_sized-requires-clause-table_fits
analyse_sized-requires-clause-table_fits c = let clean = sym c.check-head.ensures ∙ c.in_default.is in
    (clean, large_fits _ clean)

pub analyse_sized-requires-2-clause-table_fits : goal.analyse_sized-requires-2-clause-table_fits
analyse_sized-requires-2-clause-table_fits c = let clean = sym c.check-head.ensures ∙ c.in_default.is in
    (clean, small_fits _ clean c.is_large.ensures c.if-is_large.false)
