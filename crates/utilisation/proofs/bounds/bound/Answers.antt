-- `utilisation::bounds::bound` meets its contract: one test, computed over the whole table, proves every entry.
-- Assumes nothing.
use borrow.Author.Rules.{rules}
use Rattle.utilisation.proofs.BoundLaws.{right, entry_is}
use Rattle.utilisation.proofs.bounds.bound.Goals as goal

pub returns : goal.returns
unfolding right
returns c = search (rules, entry_is)
