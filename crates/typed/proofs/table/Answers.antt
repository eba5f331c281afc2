-- `typed::table` meets its contract.
-- Assumes nothing.
use Rattle.printing.proofs.PageLaws.{both, as_wrote}
use Rattle.typed.proofs.ByteLaws.{size_small, bytes_are}
use Rattle.typed.proofs.table.Goals as goal

pub head-requires : goal.head-requires
head-requires c = (size_small _ c.of-layout.ensures, c.requires.roomy.tasks, c.requires.roomy.sections)

pub returns : goal.returns
returns c =
    as_wrote (both (both c.head.ensures c.tasks.ensures) c.sections.ensures)
    (bytes_are c.args.counts _ c.version_of-version.ensures c.of-layout.ensures)
