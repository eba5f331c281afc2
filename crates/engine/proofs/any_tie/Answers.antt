-- `engine::any_tie` meets its contract: the loop stops at the first task that has the priority of the one before it.
-- Assumes nothing.
use native.Mathlib.Omega.{arith}
use mathlib.Core.Path.{sym, ap}
use Rattle.tables.specs.declared.layout.Layout.{Layout}
use Rattle.engine.proofs.PlayedLaws.{looking_alone, looking_first, next_inside, looking_found, looking_more}
use Rattle.engine.proofs.any_tie.Goals as goal

pub returns-then-n-lt2 : goal.returns-then-n-lt2
returns-then-n-lt2 c = looking_alone c.requires c.if-n-lt2.true

pub loop-i-init : goal.loop-i-init
loop-i-init c = looking_first _ _ _ c.requires (ap (λ (l : Layout). l.size) c.of-layout.ensures)

pub bounds-table-next : goal.bounds-table-next
bounds-table-next c = next_inside c.loop-i.invariant c.loop-i-test.true

pub bounds-table-at : goal.bounds-table-at
bounds-table-at c = omega (arith, next_inside c.loop-i.invariant c.loop-i-test.true)

pub returns-then-table-next : goal.returns-then-table-next
returns-then-table-next c = sym (looking_found c.loop-i.invariant c.loop-i-test.true c.if-table-next.true)

pub loop-i-preserved : goal.loop-i-preserved
loop-i-preserved c = looking_more c.loop-i.invariant c.loop-i-test.true c.if-table-next.false
