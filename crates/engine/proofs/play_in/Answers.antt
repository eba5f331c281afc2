-- `engine::play_in` meets its contract: what is read is refused, or held and played.
-- Assumes nothing.
use native.Mathlib.Omega.{arith}
use mathlib.Core.Path.{sym, ◌∙◌}
use Rattle.reading.proofs.HeldLaws.{table_held, held_cut}
use Rattle.engine.proofs.PlayedLaws.{read_refused, numbers_held}
use Rattle.engine.proofs.play_in.Goals as goal

pub returns-in-Err : goal.returns-in-Err
returns-in-Err c = read_refused _ _ _ (sym c.in-Err.is ∙ c.read-found.ensures.value)

pub play_columns-requires : goal.play_columns-requires
play_columns-requires c = record { words_len = omega (arith, c.read-found.auto, c.requires.lent.words_long); numbers_held = numbers_held _ _ _ (held_cut _ _ _ (table_held _ _ _ _ _ c.requires.lent _ (c.read-found.ensures.value, (c.read-found.ensures.filled, c.read-found.ensures.filled_2)) c.in_default.is)); zeros = c.requires.zeros }
