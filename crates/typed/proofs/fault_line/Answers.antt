-- `typed::fault_line` meets its contract: its four parts, on a page over the buffer.
-- Assumes nothing.
use borrow.Author.Rules.{rules}
use Rattle.printing.proofs.PageLaws.{both, as_wrote}
use Rattle.typed.proofs.fault_line.Goals as goal

pub returns : goal.returns
returns c =
    let wrote = both (both (both c.append_with_number.ensures c.append.ensures) (as_wrote c.append-2.ensures c.message.ensures)) c.append-3.ensures in
    search (rules, wrote.appended, wrote.same_buffer)
