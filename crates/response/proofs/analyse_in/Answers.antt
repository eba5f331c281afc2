-- `response::analyse_in` meets its contract: what is read is refused, or held and, where there is room, answered.
-- Assumes nothing.
use native.Mathlib.Omega.{arith}
use mathlib.Core.Path.{sym, ◌∙◌}
use Rattle.tables.proofs.CheckLaws.{head_right}
use Rattle.reading.proofs.StageLaws.{lent_again}
use Rattle.reading.proofs.HeldLaws.{table_held}
use Rattle.response.proofs.DecodedLaws.{room_is}
use Rattle.response.proofs.OutcomeLaws.{read_refused, no_room}
use Rattle.response.proofs.analyse_in.Goals as goal

pub returns-in-Err : goal.returns-in-Err
returns-in-Err c = read_refused _ _ _ _ _ (sym c.in-Err.is ∙ c.read-found.ensures.value)

pub bounds-table-3 : goal.bounds-table-3
bounds-table-3 c = omega (arith, (head_right _ c.requires.table_value).long_enough)

pub returns-then-not-has_room : goal.returns-then-not-has_room
returns-then-not-has_room c = no_room _ _ _ _ (sym c.read-found.ensures.value ∙ c.in_default.is) _ c.from-n.ensures ((sym c.has_room.ensures ∙ c.if-not-has_room.true))

pub answer-requires : goal.answer-requires
answer-requires c = record { lent = lent_again c.requires.lent c.read-found.auto.bytes c.read-found.auto.words; zeros = c.requires.zeros; table_in_bounds = room_is _ _ _ _ c.from-n.ensures ((sym c.has_room.ensures ∙ c.if-not-has_room.false)); table_held = table_held _ _ _ _ _ c.requires.lent _ (c.read-found.ensures.value, (c.read-found.ensures.filled, c.read-found.ensures.filled_2)) c.in_default.is }
