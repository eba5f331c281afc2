-- `past_text::past_text` meets its contract: the second analysis, then its text.
-- Assumes nothing.
use Rattle.std.proofs.Common.{rules}
use Rattle.printing.proofs.AppendLaws.{as_text}
use Rattle.past_text.proofs.AnsweredLaws.{text_of_outcome}
use Rattle.past_text.proofs.past_text.Goals as goal

pub returns : goal.returns
returns c = as_text (search rules) (text_of_outcome c.args.table.now _ c.analyse_past_period-found.ensures)
