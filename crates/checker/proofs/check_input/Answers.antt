-- `checker::check_input` is safe and ends: the line ends within the buffer.
-- Assumes nothing.
use Rattle.printing.proofs.LongestLaws.{whole_part}
use Rattle.checker.proofs.check_input.Goals as goal

pub slice_bounds-write_all-end : goal.slice_bounds-write_all-end
slice_bounds-write_all-end c = whole_part c.check-end.ensures.whole
