-- `report_lines::good_text` meets its contract: the word, then the three figures.
-- Assumes nothing.
use mathlib.Core.Path.{◌∙◌, ap}
use Rattle.printing.proofs.PageLaws.{both, as_wrote}
use Rattle.utilisation.specs.Bound.{bound_of}
use Rattle.report_lines.proofs.LineLaws.{some_tasks, figures_are}
use Rattle.report_lines.proofs.good_text.Goals as goal

pub bound-requires : goal.bound-requires
bound-requires c = (rw c.from-tasks.ensures (some_tasks _ c.requires))

pub returns : goal.returns
returns c =
    as_wrote
    (both c.append.ensures (both c.append_with_number.ensures (both c.append_with_number-2.ensures c.multiple_text.ensures)))
    (figures_are c.args.word.now c.args.table.now c.utilisation.ensures (c.from.ensures ∙ c.bound.ensures ∙ ap bound_of c.from-tasks.ensures) c.hyperperiod.ensures)
