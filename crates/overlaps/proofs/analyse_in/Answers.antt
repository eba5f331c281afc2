-- `overlaps::analyse_in` meets its contract: what is read is refused, or held; then there is no room, or a delay, or the words are found.
-- Assumes nothing.
use native.Mathlib.Omega.{arith}
use mathlib.Core.Path.{sym, ◌∙◌}
use Rattle.tables.proofs.CheckLaws.{head_right}
use Rattle.reading.proofs.StageLaws.{lent_again}
use Rattle.reading.proofs.HeldLaws.{table_held, held_cut}
use Rattle.response.proofs.DecodedLaws.{room_is}
use Rattle.overlaps.proofs.ColumnLaws.{read_refused, no_room, delayed, some_delay, no_delay}
use Rattle.overlaps.proofs.analyse_in.Goals as goal

pub returns-in-Err : goal.returns-in-Err
returns-in-Err c = read_refused _ _ _ _ (sym c.in-Err.is ∙ c.read-checked.ensures.value)

pub bounds-table-3 : goal.bounds-table-3
bounds-table-3 c = omega (arith, (head_right _ c.requires.table_value).long_enough)

pub returns-then-not-has_room : goal.returns-then-not-has_room
returns-then-not-has_room c = no_room _ _ _ (sym c.read-checked.ensures.value ∙ c.in_default.is) _ c.from-n.ensures ((sym c.has_room.ensures ∙ c.if-not-has_room.true))

pub returns-then-any_delay : goal.returns-then-any_delay
returns-then-any_delay c = let held = held_cut _ _ _ (table_held _ _ _ _ _ c.requires.lent _ (c.read-checked.ensures.value, (c.read-checked.ensures.filled, c.read-checked.ensures.filled_2)) c.in_default.is) in
    delayed _ _ _ held.clean _ c.from-n.ensures (room_is _ _ _ _ c.from-n.ensures ((sym c.has_room.ensures ∙ c.if-not-has_room.false))) (some_delay _ _ _ held _ c.from-n.ensures (sym c.any_delay.ensures ∙ c.if-any_delay.true))

pub find-requires : goal.find-requires
find-requires c = let held = table_held _ _ _ _ _ c.requires.lent _ (c.read-checked.ensures.value, (c.read-checked.ensures.filled, c.read-checked.ensures.filled_2)) c.in_default.is in record { lent = lent_again c.requires.lent c.read-checked.auto.bytes c.read-checked.auto.words; zeros = c.requires.zeros; table_in_bounds = room_is _ _ _ _ c.from-n.ensures ((sym c.has_room.ensures ∙ c.if-not-has_room.false)); table_held = (held, no_delay _ _ _ (held_cut _ _ _ held) _ c.from-n.ensures (sym c.any_delay.ensures ∙ c.if-any_delay.false)) }
