-- `writing::numbers` meets its contract: one after the other.
-- Assumes nothing.
use Rattle.printing.proofs.PageLaws.{both}
use Rattle.writing.specs.Text.{task_numbers}
use Rattle.writing.proofs.numbers.Goals as goal

pub returns : goal.returns
unfolding task_numbers
returns c =
    rw (← c.from.ensures)
    (both (both (both c.append_with_number.ensures c.next_number.ensures) c.next_number-2.ensures) c.next_number-3.ensures)
