-- `machine::release::release_word` meets its contract: a word with nothing due stays, and else all its tasks are looked at.
-- Assumes nothing.
use Rattle.machine.proofs.ReleaseLaws.{word_skipped}
use Rattle.machine.proofs.release.release_word.Goals as goal

pub returns-then-at-next : goal.returns-then-at-next
returns-then-at-next c = word_skipped _ _ _ _ _ _ c.requires.tasks_held.1 c.requires.tasks_held.2 c.requires.w_bound.0 c.requires.w_value.0 c.if-at-next.true
