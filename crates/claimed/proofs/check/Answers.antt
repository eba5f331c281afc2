-- `claimed::check` is safe and ends: both lines end within the buffer.
-- Assumes nothing.
use native.Mathlib.Omega.{arith}
use borrow.Author.Rules.{rules}
use Rattle.printing.proofs.AppendLaws.{ends_within, part_length}
use Rattle.printing.proofs.PageLaws.{both}
use Rattle.claimed.proofs.check.Goals as goal

pub slice_bounds-write_all-end : goal.slice_bounds-write_all-end
slice_bounds-write_all-end c =
    let wrote = both c.line_with_number.ensures c.claimed_line.ensures in
    search (rules, part_length, ends_within wrote.appended (omega arith), wrote.same_buffer)
