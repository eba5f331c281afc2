-- How many numbers a line has, and how large they are.
-- Assumes nothing.
use Prim.Native.Nat.{ℕ, ◌≤◌, ◌<◌}
use native.Mathlib.Omega.{arith}
use mathlib.Core.Path.{◌≡◌}
use mathlib.Core.Bool.{true, false}
use mathlib.Core.Logic.{inl, inr}
use mathlib.Core.List.{List}
use lib.Dec.{leb, ltb}
use lib.ListN.{length, length-set}
use borrow.Author.Tests.{leb-true}
use Rattle.model.proofs.Tests.{bool?, both_true}
use Rattle.typing.specs.declared.lines.Kind.{Kind}
use Rattle.typing.specs.declared.lines.Kind.TheVariants.{VersionLine, TaskLine, JitterLine, DelaysLine, SectionLine}
use Rattle.typing.specs.declared.lines.Line.{Line}
use Rattle.typing.specs.declared.lines.Line.TheVariants.{Blank, Filling, Wrong}
use Rattle.typing.specs.Lines.{needed_for, byte_below, limit_for, field_for, is_taken, fields_after}

pub needed_few : (kind : Kind) → needed_for kind ≤ 6
needed_few VersionLine = omega arith
needed_few TaskLine = omega arith
needed_few JitterLine = omega arith
needed_few DelaysLine = omega arith
needed_few SectionLine = omega arith

below_small : (first at : ℕ) → byte_below first at ≤ 4294967295
below_small first at = elim (bool? (ltb at first)) [ inl p ↦ rw p (omega arith) | inr p ↦ rw p (omega arith) ]

pub limit_small : (kind : Kind) (at : ℕ) → limit_for kind at ≤ 4294967295
limit_small VersionLine at = omega arith
limit_small TaskLine at = below_small 1 at
limit_small JitterLine at = below_small 1 at
limit_small DelaysLine at = below_small 1 at
limit_small SectionLine at = below_small 2 at

-- a number that a line takes
pub taken_small : (kind : Kind) (count amount : ℕ) → is_taken kind count amount ≡ true → amount ≤ 4294967295
unfolding is_taken
taken_small kind count amount p =
    let tests = both_true (ltb count (needed_for kind)) (leb amount (limit_for kind count)) p in
    omega (arith, leb-true amount (limit_for kind count) tests.1, limit_small kind count)

-- an amount that is none of a number
pub large_not_taken : (kind : Kind) (count amount : ℕ) → 4294967295 < amount → is_taken kind count amount ≡ false
large_not_taken kind count amount h =
    elim (bool? (is_taken kind count amount)) [
      | inl p ↦ absurd (omega (arith, taken_small kind count amount p, h))
      | inr p ↦ p
    ]

-- there are always six fields
pub fields_long : (line : Line) (amount : ℕ) (fields : List ℕ) → length fields ≡ 6 → length (fields_after line amount fields) ≡ 6
unfolding fields_after
fields_long Blank amount fields h = omega arith
fields_long (Filling kind count) amount fields h =
    elim (bool? (is_taken kind count amount)) [
      | inl p ↦ rw p (omega (arith, length-set fields (field_for kind count) amount, h))
      | inr p ↦ rw p h
    ]
fields_long (Wrong fault) amount fields h = h
