-- Pieces that stand in a list of bytes: one behind another, as many of one size, and taken apart again.
-- Assumes nothing.
use Prim.Native.Nat.{ℕ, zero, suc, ◌+◌, ◌*◌, ◌-◌, ◌≤◌, ◌<◌}
use native.Mathlib.Omega.{arith}
use native.Mathlib.Nat.{not-suc-le-zero}
use native.Mathlib.Decide.{dec_le}
use mathlib.Core.Path.{◌≡◌, sym, ◌∙◌, ap, subst}
use mathlib.Core.List.{List, [], ◌∷◌, ◌++◌}
use lib.ListN.{length, get_or, length-append, get_or-append}
use lib.Seq.{get_or-append-add, ext_get_or}
use Rattle.tables.specs.Layout.{byte_at, word_at}
use Rattle.encoding.specs.Bytes.{joined}

-- the bytes from `start` on are those of the piece
pub record Stands (bytes : List ℕ) (start : ℕ) (piece : List ℕ) : Type 0 where
  pub is : (j : ℕ) → j < length piece → byte_at bytes (start + j) ≡ byte_at piece j

pub stands_from : {bytes piece : List ℕ} {start other : ℕ} → Stands bytes start piece → start ≡ other → Stands bytes other piece
stands_from {bytes} {piece} s e = subst (λ (at : ℕ). Stands bytes at piece) e s

pub stands_whole : (bytes : List ℕ) → Stands bytes 0 bytes
stands_whole bytes = record { is = λ j h. ap (byte_at bytes) (omega arith) }

-- a piece as long as the bytes is all of them
pub whole_is : (bytes piece : List ℕ) → Stands bytes 0 piece → length piece ≡ length bytes → piece ≡ bytes
whole_is bytes piece s e =
    ext_get_or 0 piece bytes e (λ j h. sym (ap (byte_at bytes) (omega arith) ∙ s.is j h))

module _ (bytes : List ℕ) where
  -- two pieces, one behind the other
  pub stands_first : (xs ys : List ℕ) (start : ℕ) → Stands bytes start (xs ++ ys) → Stands bytes start xs
  stands_first xs ys start s =
      record { is = λ j h. s.is j (omega (arith, length-append xs ys)) ∙ get_or-append xs ys 0 j h }

  pub stands_second : (xs ys : List ℕ) (start : ℕ) → Stands bytes start (xs ++ ys) → Stands bytes (start + length xs) ys
  stands_second xs ys start s =
      record {
        is = λ j h.
            ap (byte_at bytes) (omega arith)
            ∙ s.is (length xs + j) (omega (arith, length-append xs ys))
            ∙ get_or-append-add xs ys j 0;
      }

  pub stands_both : (xs ys : List ℕ) (start : ℕ) → Stands bytes start xs → Stands bytes (start + length xs) ys → Stands bytes start (xs ++ ys)
  stands_both xs ys start first second = record { is = each }
    where
      each : (j : ℕ) → j < length (xs ++ ys) → byte_at bytes (start + j) ≡ byte_at (xs ++ ys) j
      each j h =
          elim (dec_le (length xs) j) [
            | yes past ↦ behind (j - length xs) (omega arith)
            | no here ↦ first.is j (omega arith) ∙ sym (get_or-append xs ys 0 j (omega arith))
          ]
        where
          behind : (k : ℕ) → j ≡ length xs + k → byte_at bytes (start + j) ≡ byte_at (xs ++ ys) j
          behind k e =
              ap (byte_at bytes) (omega arith)
              ∙ second.is k (omega (arith, length-append xs ys))
              ∙ sym (get_or-append-add xs ys k 0)
              ∙ ap (byte_at (xs ++ ys)) (sym e)

  -- four bytes of a piece make the number that they make in it
  pub word_in : {start : ℕ} {piece : List ℕ} → Stands bytes start piece → (at : ℕ) → at + 4 ≤ length piece →
      word_at bytes (start + at) ≡ word_at piece at
  word_in {start} {piece} s at h =
      omega (arith, s.is at (omega arith), one 1 (omega arith), one 2 (omega arith), one 3 (omega arith))
    where
      one : (k : ℕ) → at + k < length piece → byte_at bytes (start + at + k) ≡ byte_at piece (at + k)
      one k l = ap (byte_at bytes) (omega arith) ∙ s.is (at + k) l

-- many pieces of one size
module _ {A : Type 0} (f : A → List ℕ) (size : ℕ) (sized : (x : A) → length (f x) ≡ size) where
  pub length_joined : (xs : List A) → length (joined f xs) ≡ size * length xs
  unfolding joined
  length_joined [] = omega arith
  length_joined (x ∷ xs) = omega (arith, length-append (f x) (joined f xs), length_joined xs, sized x)

  module _ (bytes : List ℕ) (d : A) where
    pub stands_each : (xs : List A) (start i : ℕ) → i < length xs → Stands bytes start (joined f xs) →
        Stands bytes (start + size * i) (f (get_or xs i d))
    unfolding joined
    stands_each [] start i h s = absurd (not-suc-le-zero h)
    stands_each (x ∷ xs) start zero h s = stands_from (stands_first bytes (f x) (joined f xs) start s) (omega arith)
    stands_each (x ∷ xs) start (suc i) h s =
        stands_from
        (stands_each xs (start + length (f x)) i (omega arith) (stands_second bytes (f x) (joined f xs) start s))
        (omega (arith, sized x))

    pub stands_all : (xs : List A) (start : ℕ) → ((i : ℕ) → i < length xs → Stands bytes (start + size * i) (f (get_or xs i d))) →
        Stands bytes start (joined f xs)
    unfolding joined
    stands_all [] start each = record { is = λ j h. absurd (not-suc-le-zero h) }
    stands_all (x ∷ xs) start each =
        stands_both bytes (f x) (joined f xs) start (stands_from (each 0 (omega arith)) (omega arith))
        (stands_all xs (start + length (f x)) (λ i h. stands_from (each (suc i) (omega arith)) (omega (arith, sized x))))
