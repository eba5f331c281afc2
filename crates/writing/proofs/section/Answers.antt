-- `writing::section` meets its contract: its three numbers, one after the other.
-- Assumes nothing.
use Rattle.printing.proofs.PageLaws.{both}
use Rattle.writing.specs.Text.{section_line}
use Rattle.writing.proofs.section.Goals as goal

pub returns : goal.returns
unfolding section_line
returns c =
    rw (← c.from.ensures, ← c.from-2.ensures)
    (both (both c.append_with_number.ensures c.next_number.ensures) c.line_with_number.ensures)
