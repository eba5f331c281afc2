-- `answers::main` is safe and ends: the store can be used, and the text ends within the buffer.
-- Assumes nothing.
use Rattle.printing.proofs.LongestLaws.{whole_part}
use Rattle.intake.proofs.EventLaws.{keeps_ready}
use Rattle.answers.proofs.main.Goals as goal

pub answer-end-requires-clause-fill_value : goal.answer-end-requires-clause-fill_value
answer-end-requires-clause-fill_value c = keeps_ready c.take_all.ensures.keeps

pub slice_bounds-write_all-end : goal.slice_bounds-write_all-end
slice_bounds-write_all-end c = whole_part (c.answer-end.ensures c.take_all.ensures.bytes c.take_all.ensures.keeps)
