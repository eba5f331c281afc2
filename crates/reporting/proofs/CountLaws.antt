-- The three counts: each table is counted once, and they add up.
-- Assumes nothing.
use Prim.Native.Nat.{◌+◌}
use native.Mathlib.Omega.{arith}
use mathlib.Core.Path.{◌≡◌, refl}
use mathlib.Core.List.{[], ◌∷◌}
use Rattle.model.specs.Lists.{sum_of}
use Rattle.answering.specs.declared.Verdict.{Verdict}
use Rattle.answering.specs.declared.Verdict.TheVariants.{Refused, Schedulable, Late}
use Rattle.report_lines.specs.Line.{judged_as}
use Rattle.reporting.specs.Report.{schedulable_one, late_one, refused_one, CountsAddUp}

one_each : (v : Verdict) → schedulable_one v + late_one v + refused_one v ≡ 1
one_each (Refused refusal) = refl
one_each Schedulable = refl
one_each (Late place) = refl

pub counts_add_up : CountsAddUp
unfolding sum_of
counts_add_up [] = refl
counts_add_up (table ∷ tables) = omega (arith, one_each (judged_as table), counts_add_up tables)
