-- What stands behind the tables' lines.
-- Assumes nothing.
use Prim.Native.Nat.{ℕ, ◌≤◌, ◌<◌}
use mathlib.Core.Path.{◌≡◌, sym, ◌∙◌, ap}
use mathlib.Core.Bool.{Bool}
use mathlib.Core.List.{List, ◌++◌, append-nil}
use borrow.Author.Tests.{lt-ltb, le-ltb}
use Rattle.printing.specs.Text.{bytes_of}
use Rattle.reporting.specs.declared.Report.{Report}
use Rattle.reporting.specs.Report.{totals_line, broken_line}
use Rattle.reporting.specs.Streaming.{closing_by}

module _ (report : Report) where
  totals : List ℕ
  totals = totals_line report.schedulable report.late report.refused

  pub closing_broken : 0 < report.come → totals_line report.schedulable report.late report.refused ++ bytes_of "broken\n" ≡ closing_by report
  unfolding totals
  closing_broken h = ap (λ (b : Bool). totals ++ broken_line b) (sym (lt-ltb 0 report.come h))

  pub closing_whole : report.come ≤ 0 → totals_line report.schedulable report.late report.refused ≡ closing_by report
  unfolding totals
  closing_whole h = sym (append-nil totals) ∙ ap (λ (b : Bool). totals ++ broken_line b) (sym (le-ltb 0 report.come h))
