-- `writing::form` meets its contract: the comment, the version, the tasks and the sections.
-- Assumes nothing.
use Rattle.printing.proofs.PageLaws.{both}
use Rattle.writing.specs.Text.{form_of}
use Rattle.writing.proofs.form.Goals as goal

pub returns : goal.returns
unfolding form_of
returns c =
    rw (← c.from.ensures)
    (both (both (both c.append.ensures c.line_with_number.ensures) c.tasks.ensures) c.sections.ensures)
