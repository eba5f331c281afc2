-- `typing::take_end` meets its contract.
-- Assumes nothing.
use borrow.Author.Tests.{ne_eqb}
use Rattle.typing.specs.Steps.{memory_after}
use Rattle.typing.proofs.MemoryLaws.{line_ended}
use Rattle.typing.proofs.take_end.Goals as goal

pub returns-then-byte-ne10 : goal.returns-then-byte-ne10
unfolding memory_after
returns-then-byte-ne10 c = rw (ne_eqb c.args.byte 10 c.if-byte-ne10.true)

pub returns : goal.returns
returns c = line_ended c.args.state _ _ _ c.args.byte c.if-byte-ne10.false c.end_line.ensures c.store.ensures.numbers_after c.store.ensures.places_after
