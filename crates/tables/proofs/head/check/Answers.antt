-- `tables::head::check` meets its contract: at each return the tests that led there say which check is the first that applies.
-- Assumes nothing.
use Rattle.model.proofs.Tests.{refuted, confirmed}
use native.Mathlib.Omega.{arith}
use mathlib.Core.Path.{refl, sym, ◌∙◌}
use Rattle.tables.proofs.HeadLaws.{head_short, head_version, head_tasks, head_rows, head_stated, head_summed, head_clean, summed_small}
use Rattle.tables.proofs.head.check.Goals as goal

pub returns-then-table-lt-HEAD_SIZE : goal.returns-then-table-lt-HEAD_SIZE
returns-then-table-lt-HEAD_SIZE c = head_short _ c.if-table-lt-HEAD_SIZE.true

pub returns-then-not-layout : goal.returns-then-not-layout
returns-then-not-layout c = head_version _ _ c.of-layout.ensures c.if-table-lt-HEAD_SIZE.false (refuted refl c.if-not-layout.true)

pub returns-then-not-within : goal.returns-then-not-within
returns-then-not-within c = head_tasks _ _ c.of-layout.ensures c.if-table-lt-HEAD_SIZE.false (confirmed refl c.if-not-layout.false) _ c.from-n.ensures (sym c.within.ensures ∙ c.if-not-within.true)

pub returns-then-not-within-2 : goal.returns-then-not-within-2
returns-then-not-within-2 c = head_rows _ _ c.of-layout.ensures c.if-table-lt-HEAD_SIZE.false (confirmed refl c.if-not-layout.false) _ _ c.from-n.ensures c.from-m.ensures (sym c.within.ensures ∙ c.if-not-within.false) (sym c.within-2.ensures ∙ c.if-not-within-2.true)

pub returns-then-half-table : goal.returns-then-half-table
returns-then-half-table c = head_stated _ _ c.of-layout.ensures c.if-table-lt-HEAD_SIZE.false (confirmed refl c.if-not-layout.false) _ _ c.from-n.ensures c.from-m.ensures
    (sym c.within.ensures ∙ c.if-not-within.false) (sym c.within-2.ensures ∙ c.if-not-within-2.false)
    (λ e. c.if-half-table.true (c.half.ensures ∙ e))

pub overflow_mul-layout : goal.overflow_mul-layout
overflow_mul-layout c = omega (arith, summed_small c.args.table.now _ c.of-layout.ensures c.if-table-lt-HEAD_SIZE.false _ c.from-n.ensures (sym c.within.ensures ∙ c.if-not-within.false) (confirmed refl c.if-not-layout.false))

pub overflow_add-layout : goal.overflow_add-layout
overflow_add-layout c = omega (arith, summed_small c.args.table.now _ c.of-layout.ensures c.if-table-lt-HEAD_SIZE.false _ c.from-n.ensures (sym c.within.ensures ∙ c.if-not-within.false) (confirmed refl c.if-not-layout.false))

pub overflow_add-layout-2 : goal.overflow_add-layout-2
overflow_add-layout-2 c = omega (arith, summed_small c.args.table.now _ c.of-layout.ensures c.if-table-lt-HEAD_SIZE.false _ c.from-n.ensures (sym c.within.ensures ∙ c.if-not-within.false) (confirmed refl c.if-not-layout.false))

pub returns-then-layout-n : goal.returns-then-layout-n
returns-then-layout-n c = head_summed _ _ c.of-layout.ensures c.if-table-lt-HEAD_SIZE.false (confirmed refl c.if-not-layout.false) _ _ c.from-n.ensures c.from-m.ensures
    (sym c.within.ensures ∙ c.if-not-within.false) (sym c.within-2.ensures ∙ c.if-not-within-2.false)
    c.if-layout-n.true

pub returns : goal.returns
returns c = head_clean _ _ c.of-layout.ensures c.if-table-lt-HEAD_SIZE.false (confirmed refl c.if-not-layout.false) _ _ c.from-n.ensures c.from-m.ensures
    (sym c.within.ensures ∙ c.if-not-within.false) (sym c.within-2.ensures ∙ c.if-not-within-2.false)
    (sym c.half.ensures ∙ c.if-half-table.false) c.if-layout-n.false
