-- `tables::layout::of` meets its contract, case by case.
-- Assumes nothing.
use Rattle.tables.specs.Layout.{layout_for}
use native.Mathlib.Omega.{arith}
use Rattle.std.proofs.lemmas.Bool.Decides.{nat_tests}
use Rattle.tables.proofs.layout.of.Goals as goal

pub returns-in-1 : goal.returns-in-1
unfolding layout_for
returns-in-1 c = rw c.in-1.is

pub returns-in-2 : goal.returns-in-2
unfolding layout_for
returns-in-2 c = rw c.in-2.is

pub returns-in-3 : goal.returns-in-3
unfolding layout_for
returns-in-3 c = rw c.in-3.is

pub returns-in_default : goal.returns-in_default
unfolding layout_for
returns-in_default c = grind (arith, nat_tests)
