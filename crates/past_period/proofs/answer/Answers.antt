-- `past_period::answer` meets its contract: the longest text has room.
-- Assumes nothing.
use Rattle.past_text.proofs.LongestLaws.{past_text_whole}
use Rattle.past_period.proofs.answer.Goals as goal

pub returns : goal.returns
returns c = past_text_whole _ _ _ _ c.requires c.past_text.ensures
