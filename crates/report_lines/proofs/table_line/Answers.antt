-- `report_lines::table_line` meets its contract: the number, then what the verdict asks for.
-- Assumes nothing.
use mathlib.Core.Path.{sym, ◌∙◌}
use Rattle.printing.proofs.PageLaws.{both, as_wrote}
use Rattle.report_lines.proofs.LineLaws.{schedulable_right, late_right, line_is}
use Rattle.report_lines.proofs.table_line.Goals as goal

pub good_text-requires : goal.good_text-requires
good_text-requires c = schedulable_right _ (sym c.in-Schedulable.is ∙ c.requires)

pub good_text-requires-in-Late : goal.good_text-requires-in-Late
good_text-requires-in-Late c = late_right _ _ (sym c.in-Late.is ∙ c.requires)

pub returns-in-Refused : goal.returns-in-Refused
returns-in-Refused c = as_wrote (both c.append_number.ensures c.refused_text.ensures) (line_is _ c.args.table.now (sym c.in-Refused.is ∙ c.requires))

pub returns-in-Schedulable : goal.returns-in-Schedulable
returns-in-Schedulable c = as_wrote (both c.append_number.ensures c.good_text.ensures) (line_is _ c.args.table.now (sym c.in-Schedulable.is ∙ c.requires))

pub returns-in-Late : goal.returns-in-Late
returns-in-Late c = as_wrote (both c.append_number.ensures c.good_text-in-Late.ensures) (line_is _ c.args.table.now (sym c.in-Late.is ∙ c.requires))
