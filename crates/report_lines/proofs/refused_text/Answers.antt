-- `report_lines::refused_text` meets its contract: a blank, and the line.
-- Assumes nothing.
use Rattle.printing.proofs.PageLaws.{both}
use Rattle.report_lines.proofs.refused_text.Goals as goal

pub returns : goal.returns
returns c = both c.append.ensures c.refused.ensures
