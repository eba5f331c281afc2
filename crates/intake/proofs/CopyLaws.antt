-- A copy into a slice, byte by byte, as far as there is room.
-- Assumes nothing.
use Prim.Native.Nat.{ℕ, ◌+◌, ◌-◌, ◌≤◌, ◌<◌, min}
use native.Mathlib.Omega.{arith}
use native.Mathlib.Numerals.{add-one}
use native.Mathlib.Decide.{dec_le}
use mathlib.Core.Path.{◌≡◌, refl, sym, ◌∙◌, ap}
use mathlib.Core.List.{List, ◌++◌}
use lib.ListN.{length, take, drop, set, get_or, length-set, drop_of_length-le}
use lib.Seq.{paste, paste-zero, paste-suc, take_all, take-length}
use Rattle.printing.specs.Appended.{Appended}

-- a copy of the first i bytes, whose room is known
pub record Copied (old : List ℕ) (at : ℕ) (bytes : List ℕ) (count i : ℕ) (new : List ℕ) : Type 0 where
  pub long : length new ≡ length old
  pub copy : new ≡ paste old at bytes i
  pub room : count ≡ min (length bytes) (length old - at)
  pub most : i ≤ count

pub copied_none : (old : List ℕ) (at : ℕ) (bytes : List ℕ) (count : ℕ) → count ≡ min (length bytes) (length old - at) →
    Copied old at bytes count 0 old
copied_none old at bytes count e =
    record { long = refl; copy = paste-zero old at bytes; room = e; most = omega arith }

pub copied_more : {old : List ℕ} {at : ℕ} {bytes : List ℕ} {count i : ℕ} {new : List ℕ} → Copied old at bytes count i new → i < count →
    Copied old at bytes count (i + 1) (set new (at + i) (get_or bytes i 0))
copied_more {old} {at} {bytes} {count} {i} {new} c h =
    record {
      long = length-set new (at + i) (get_or bytes i 0) ∙ c.long;
      copy =
          ap (λ (xs : List ℕ). set xs (at + i) (get_or bytes i 0)) c.copy
          ∙ paste-suc old at bytes i 0 (omega (arith, c.room)) (omega (arith, c.room))
          ∙ ap (paste old at bytes) (sym (add-one i));
      room = c.room;
      most = omega arith;
    }

-- no more is taken than there is
take_min : (n : ℕ) (xs : List ℕ) → take (min (length xs) n) xs ≡ take n xs
take_min n xs =
    elim (dec_le (length xs) n) [
      | yes h ↦
          let e : min (length xs) n ≡ length xs = omega arith in
          ap (λ (k : ℕ). take k xs) e ∙ take-length xs ∙ sym (take_all n xs h)
      | no h ↦
          let e : min (length xs) n ≡ n = omega arith in
          ap (λ (k : ℕ). take k xs) e
    ]

-- and no more is dropped
drop_min : (n m : ℕ) (xs : List ℕ) → drop (n + min m (length xs - n)) xs ≡ drop (n + m) xs
drop_min n m xs =
    elim (dec_le (n + m) (length xs)) [
      | yes h ↦
          let e : n + min m (length xs - n) ≡ n + m = omega arith in
          ap (λ (k : ℕ). drop k xs) e
      | no h ↦ drop_of_length-le xs (omega arith) ∙ sym (drop_of_length-le xs (omega arith))
    ]

-- the whole copy
pub copied_all : {old : List ℕ} {at : ℕ} {bytes : List ℕ} {count i : ℕ} {new : List ℕ} → Copied old at bytes count i new → count ≤ i →
    Appended old at bytes (at + count) new
copied_all {old} {at} {bytes} {count} {i} {new} c h =
    let e : i ≡ min (length bytes) (length old - at) = omega (arith, c.most, c.room) in
    record {
      end_is = omega (arith, c.room);
      new_is =
          c.copy
          ∙ ap (paste old at bytes) e
          ∙ ap (λ (xs : List ℕ). take at old ++ xs ++ drop (at + min (length bytes) (length old - at)) old)
          (take_min (length old - at) bytes)
          ∙ ap (λ (xs : List ℕ). take at old ++ take (length old - at) bytes ++ xs) (drop_min at (length bytes) old);
    }
