-- `typed::delayed` meets its contract: both delays, one after the other.
-- Assumes nothing.
use Rattle.printing.proofs.PageLaws.{both}
use Rattle.typed.proofs.delayed.Goals as goal

pub returns-in-Pair : goal.returns-in-Pair
returns-in-Pair c = rw c.in-Pair.is (both c.word-in-Pair.ensures c.word-in-Pair-2.ensures)
