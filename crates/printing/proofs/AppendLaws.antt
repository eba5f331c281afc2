-- Appending to a text in a buffer: by a copy, one after the other, and nothing at all.
-- Assumes nothing.
use Prim.Native.Nat.{ℕ, zero, suc, ◌+◌, ◌-◌, ◌≤◌}
use native.Mathlib.Omega.{arith}
use native.Mathlib.Nat.{add-zero, zero-sub, sub-zero, suc-sub-suc}
use native.Mathlib.Decide.{dec_le}
use mathlib.Core.Path.{◌≡◌, sym, ◌∙◌, ap, subst}
use mathlib.Core.List.{List, [], ◌∷◌, ◌++◌, append_assoc, append-nil}
use lib.ListN.{length, take, drop, length-take, length-drop, length-append, drop_of_length-le, take-append-drop}
use lib.Seq.{take_all, take_at, take-take, drop_at, take-nil, drop-drop, drop-append-le, length-take-le}
use Rattle.printing.specs.Appended.{end_after, bytes_after, Appended, NoSecondText}

pub no_second_text : NoSecondText
no_second_text old at more end other new another a b = (a.end_is ∙ sym b.end_is, a.new_is ∙ sym b.new_is)

drop_past : (n : ℕ) (xs : List ℕ) → length xs ≤ n → drop n xs ≡ []
drop_past n xs h = drop_of_length-le xs h

-- what stands before the bytes that stay has the length that it should
head_long : (old : List ℕ) (at : ℕ) (more : List ℕ) → at ≤ length old → length (take at old ++ take (length old - at) more) ≡ end_after old at more
head_long old at more h =
    length-append (take at old) (take (length old - at) more)
    ∙ omega (arith, length-take at old, length-take (length old - at) more)

bytes_long : (old : List ℕ) (at : ℕ) (more : List ℕ) → length (bytes_after old at more) ≡ length old
bytes_long old at more =
    length-append (take at old ++ take (length old - at) more) (drop (at + length more) old)
    ∙ omega (
      arith,
      length-append (take at old) (take (length old - at) more),
      length-take at old,
      length-take (length old - at) more,
      length-drop (at + length more) old,
    )

-- the buffer keeps its length
pub long : {old new more : List ℕ} {at end : ℕ} → Appended old at more end new → length new ≡ length old
long {old} {new} {more} {at} a = ap length a.new_is ∙ bytes_long old at more

-- the bytes up to the end, and those behind it
pub text_is_law : {old new more : List ℕ} {at end : ℕ} → Appended old at more end new → at ≤ length old →
    take end new ≡ take at old ++ take (length old - at) more
text_is_law {old} {new} {more} {at} {end} a h =
    ap (take end) a.new_is
    ∙ take_at (take at old ++ take (length old - at) more) (drop (at + length more) old) end (head_long old at more h ∙ sym a.end_is)

-- behind the end of what was appended everything is as it was, also where some of it was cut off
bytes_behind : (old : List ℕ) (at : ℕ) (more : List ℕ) (n : ℕ) →
    drop (end_after old at more + n) (bytes_after old at more) ≡ drop (at + length more + n) old
bytes_behind old at more n =
    elim (dec_le (at + length more) (length old)) [
      | yes h ↦
          let e : end_after old at more ≡ at + length more = omega arith in
          ap (λ (k : ℕ). drop (k + n) (bytes_after old at more)) e
          ∙ sym (drop-drop n (at + length more) (bytes_after old at more))
          ∙ ap (drop n)
          (drop_at (take at old ++ take (length old - at) more) (drop (at + length more) old) (at + length more)
          (head_long old at more (omega arith) ∙ e))
          ∙ drop-drop n (at + length more) old
      | no h ↦
          drop_past (end_after old at more + n) (bytes_after old at more) (omega (arith, bytes_long old at more))
          ∙ sym (drop_past (at + length more + n) old (omega arith))
    ]

-- what is appended to nothing leaves the bytes behind its end as they were
pub behind : {old new more : List ℕ} {end : ℕ} → Appended old 0 more end new → length more ≤ length old → drop end new ≡ drop end old
behind {old} {new} {more} {end} a h =
    let e : end ≡ end_after old 0 more + 0 = omega (arith, a.end_is) in
    let f : 0 + length more + 0 ≡ end = omega (arith, a.end_is) in
    ap (λ (k : ℕ). drop k new) e
    ∙ ap (drop (end_after old 0 more + 0)) a.new_is
    ∙ bytes_behind old 0 more 0
    ∙ ap (λ (k : ℕ). drop k old) f

-- past the buffer nothing changes
past : (old : List ℕ) (at : ℕ) (more : List ℕ) → length old ≤ at → bytes_after old at more ≡ old
past old at more h =
    let none : length old - at ≡ 0 = omega arith in
    let behind : drop (at + length more) old ≡ [] = drop_past (at + length more) old (omega arith) in
    rw (none, take_all at old h, behind, append-nil old, append-nil old)

-- taking from one list after the other
pub take_both : (n : ℕ) (xs ys : List ℕ) → take n (xs ++ ys) ≡ take n xs ++ take (n - length xs) ys
take_both zero xs ys = rw (zero-sub (length xs))
take_both (suc n) [] ys = rw (sub-zero (suc n))
take_both (suc n) (x ∷ xs) ys = rw (suc-sub-suc n (length xs)) (ap (λ (zs : List ℕ). x ∷ zs) (take_both n xs ys))

-- one after the other
pub then : {old middle new first second : List ℕ} {at between end : ℕ} → Appended old at first between middle →
    Appended middle between second end new → Appended old at (first ++ second) end new
then {old} {middle} {new} {first} {second} {at} {between} {end} a b =
    record {
      end_is = omega (arith, a.end_is, b.end_is, long a, length-append first second);
      new_is = b.new_is ∙ joined;
    }
  where
    -- the text with (first ++ second) behind it
    front : at ≤ length old → take between middle ++ take (length middle - between) second ≡ take at old ++ take (length old - at) (first ++ second)
    front h =
        let e : length middle - between ≡ length old - at - length first = omega (arith, a.end_is, long a) in
        ap (λ (xs : List ℕ). xs ++ take (length middle - between) second) (text_is_law a h)
        ∙ ap (λ (k : ℕ). take at old ++ take (length old - at) first ++ take k second) e
        ∙ append_assoc (take at old) (take (length old - at) first) (take (length old - at - length first) second)
        ∙ ap (λ (xs : List ℕ). take at old ++ xs) (sym (take_both (length old - at) first second))

    behind : drop (between + length second) middle ≡ drop (at + length (first ++ second)) old
    behind =
        let e : at + length first + length second ≡ at + length (first ++ second) = omega (arith, length-append first second) in
        ap (λ (k : ℕ). drop (k + length second) middle) a.end_is
        ∙ ap (drop (end_after old at first + length second)) a.new_is
        ∙ bytes_behind old at first (length second)
        ∙ ap (λ (k : ℕ). drop k old) e

    joined : bytes_after middle between second ≡ bytes_after old at (first ++ second)
    joined =
        elim (dec_le at (length old)) [
          | yes h ↦
              ap (λ (xs : List ℕ). xs ++ drop (between + length second) middle) (front h)
              ∙ ap (λ (xs : List ℕ). take at old ++ take (length old - at) (first ++ second) ++ xs) behind
          | no h ↦
              past middle between second (omega (arith, a.end_is, long a))
              ∙ a.new_is
              ∙ past old at first (omega arith)
              ∙ sym (past old at (first ++ second) (omega arith))
        ]

-- nothing appended
pub nothing : (old : List ℕ) (at : ℕ) → Appended old at [] at old
nothing old at =
    record {
      end_is = omega arith;
      new_is =
          sym (rw (take-nil (length old - at), append-nil (take at old), add-zero at) (take-append-drop at old));
    }

-- the same bytes, otherwise written
pub as_text : {old new more same : List ℕ} {at end : ℕ} → Appended old at more end new → more ≡ same → Appended old at same end new
as_text {old} {new} {more} {same} {at} {end} a e = subst (λ (xs : List ℕ). Appended old at xs end new) e a

-- in the first n bytes of the buffer: as if no more were appended than has room there
module _ (n : ℕ) (old : List ℕ) (at : ℕ) (more : List ℕ) (h : at ≤ n) (room : n ≤ length old) where
  part_behind : drop (at + length more) (take n old) ++ drop n old ≡ drop (at + length (take (n - at) more)) old
  part_behind =
      elim (dec_le (at + length more) n) [
        | yes fits ↦
            let e : at + length more ≡ at + length (take (n - at) more) = omega (arith, length-take (n - at) more) in
            sym (drop-append-le (at + length more) (take n old) (drop n old) (omega (arith, length-take-le n old room)))
            ∙ ap (drop (at + length more)) (take-append-drop n old)
            ∙ ap (λ (k : ℕ). drop k old) e
        | no cut ↦
            let e : n ≡ at + length (take (n - at) more) = omega (arith, length-take (n - at) more) in
            ap (λ (xs : List ℕ). xs ++ drop n old) (drop_past (at + length more) (take n old) (omega (arith, length-take-le n old room)))
            ∙ ap (λ (k : ℕ). drop k old) e
      ]

  pub in_part : bytes_after (take n old) at more ++ drop n old ≡ bytes_after old at (take (n - at) more)
  in_part =
      let e : length (take n old) - at ≡ n - at = omega (arith, length-take-le n old room) in
      append_assoc (take at (take n old) ++ take (length (take n old) - at) more) (drop (at + length more) (take n old)) (drop n old)
      ∙ ap (λ (xs : List ℕ). take at (take n old) ++ take (length (take n old) - at) more ++ xs) part_behind
      ∙ ap (λ (xs : List ℕ). xs ++ take (length (take n old) - at) more ++ drop (at + length (take (n - at) more)) old) (take-take at n old h)
      ∙ ap (λ (k : ℕ). take at old ++ take k more ++ drop (at + length (take (n - at) more)) old) e
      ∙ ap (λ (xs : List ℕ). take at old ++ xs ++ drop (at + length (take (n - at) more)) old)
      (sym (take_all (length old - at) (take (n - at) more) (omega (arith, length-take (n - at) more))))

-- a text that began within the buffer ends within it, so that it can be lent as a part
pub ends_within : {old new more : List ℕ} {at end : ℕ} → Appended old at more end new → at ≤ length old → end ≤ length new
ends_within a h = omega (arith, a.end_is, long a)

pub part_length : (end : ℕ) (xs : List ℕ) → end ≤ length xs → end ≡ length (take end xs)
part_length end xs h = sym (length-take-le end xs h)
