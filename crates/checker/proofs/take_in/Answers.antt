-- `checker::take_in` meets its contract: nothing was read, something is stuck, or the list goes on.
-- Assumes nothing.
use native.Mathlib.Omega.{arith}
use Rattle.std.proofs.lemmas.Bool.Decides.{nat_tests}
use mathlib.Core.Path.{sym, ◌∙◌}
use Rattle.checker.proofs.ReadLaws.{taken_none, taken_some}
use Rattle.checker.proofs.take_in.Goals as goal

pub returns-then-is_empty : goal.returns-then-is_empty
returns-then-is_empty c = taken_none (grind (arith, nat_tests))

pub returns-then-is_stuck : goal.returns-then-is_stuck
returns-then-is_stuck c =
    taken_some c.go_on-next.ensures (grind (arith, nat_tests)) (sym c.if-is_stuck.true ∙ c.is_stuck.ensures)

pub returns : goal.returns
returns c =
    taken_some c.go_on-next.ensures (grind (arith, nat_tests)) (sym c.if-is_stuck.false ∙ c.is_stuck.ensures)
