-- `report::close` is safe and ends: the text ends within the buffer.
-- Assumes nothing.
use Rattle.printing.proofs.LongestLaws.{whole_part}
use Rattle.report.proofs.close.Goals as goal

pub slice_bounds-write_all-end : goal.slice_bounds-write_all-end
slice_bounds-write_all-end c = whole_part c.closing-end.ensures
