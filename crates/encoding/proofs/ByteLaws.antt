-- Every number of an encoded table is a byte.
-- Assumes nothing.
use Prim.Native.Nat.{ℕ, zero, suc, ◌/◌, ◌%◌, ◌≤◌, ◌<◌}
use native.Mathlib.Omega.{arith}
use mathlib.Core.List.{List, [], ◌∷◌, ◌++◌}
use lib.ListN.{length, get_or}
use Rattle.model.specs.Tables.{Task, Row}
use Rattle.tables.specs.declared.layout.DelayFields.{DelayFields}
use Rattle.tables.specs.declared.layout.DelayFields.TheVariants.{Jitter, Pair}
use Rattle.tables.specs.Layout.{byte_at}
use Rattle.encoding.specs.Bytes.{four_bytes, delay_bytes, record_bytes, row_bytes, joined}
use Rattle.encoding.specs.Statements.{AreBytes}
use Rattle.encoding.proofs.PieceLaws.{Small}

pub are_none : AreBytes []
are_none = record { each = λ at. omega arith }

pub are_more : (x : ℕ) (xs : List ℕ) → x ≤ 255 → AreBytes xs → AreBytes (x ∷ xs)
are_more x xs h are = record { each = each }
  where
    each : (at : ℕ) → byte_at (x ∷ xs) at ≤ 255
    each zero = h
    each (suc at) = are.each at

are_rest : (x : ℕ) (xs : List ℕ) → AreBytes (x ∷ xs) → AreBytes xs
are_rest x xs are = record { each = λ at. are.each (suc at) }

pub are_both : (xs ys : List ℕ) → AreBytes xs → AreBytes ys → AreBytes (xs ++ ys)
are_both [] ys first second = second
are_both (x ∷ xs) ys first second = are_more x (xs ++ ys) (first.each 0) (are_both xs ys (are_rest x xs first) second)

pub are_joined : {A : Type 0} (f : A → List ℕ) (xs : List A) (d : A) → ((i : ℕ) → i < length xs → AreBytes (f (get_or xs i d))) → AreBytes (joined f xs)
unfolding joined
are_joined f [] d each = are_none
are_joined f (x ∷ xs) d each =
    are_both (f x) (joined f xs) (each 0 (omega arith)) (are_joined f xs d (λ i h. each (suc i) (omega arith)))

are_four : (x : ℕ) → x < 4294967296 → AreBytes (four_bytes x)
are_four x h =
    are_more (x / 16777216) _ (omega arith)
    (are_more (x / 65536 % 256) _ (omega arith)
    (are_more (x / 256 % 256) _ (omega arith)
    (are_more (x % 256) [] (omega arith) are_none)))

are_delays : (fields : DelayFields) (t : Task) → Small t → AreBytes (delay_bytes fields t)
are_delays Jitter t small = are_four t.latest small.latest
are_delays Pair t small =
    are_both (four_bytes t.earliest) (four_bytes t.latest) (are_four t.earliest small.earliest) (are_four t.latest small.latest)

pub are_record : (fields : DelayFields) (t : Task) → Small t → t.priority ≤ 255 → AreBytes (record_bytes fields t)
are_record fields t small high =
    are_more t.priority _ high
    (are_both (four_bytes t.period) _ (are_four t.period small.period)
    (are_both (four_bytes t.cost) _ (are_four t.cost small.cost)
    (are_both (four_bytes t.deadline) _ (are_four t.deadline small.deadline) (are_delays fields t small))))

pub are_row : (r : Row) → r.place ≤ 255 → r.semaphore ≤ 255 → r.longest < 4294967296 → AreBytes (row_bytes r)
are_row r place semaphore small =
    are_more r.place _ place (are_more r.semaphore _ semaphore (are_four r.longest small))
