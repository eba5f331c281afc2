-- `printing::answer_text` meets its contract: the analysis, then its text.
-- Assumes nothing.
use Rattle.std.proofs.Common.{rules}
use Rattle.printing.proofs.AppendLaws.{as_text}
use Rattle.printing.proofs.AnsweredLaws.{text_of_outcome}
use Rattle.printing.proofs.answer_text.Goals as goal

pub returns : goal.returns
returns c = as_text (search rules) (text_of_outcome c.args.start c.args.table.now _ c.analyse_from-verdict.ensures)
