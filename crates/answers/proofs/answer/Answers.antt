-- `answers::answer` meets its contract: the store can be used, and so there is an answer, whose text has room.
-- Assumes nothing.
use borrow.Author.Rules.{rules}
use Rattle.answers.proofs.TextLaws.{prints}
use Rattle.answers.proofs.answer.Goals as goal

pub returns : goal.returns
returns c =
    prints c.requires.fill_value c.end.ensures c.unwrap-verdict.ensures c.requires.longest_in_bounds
    (search (rules, c.text.ensures.appended, c.text.ensures.same_buffer))
