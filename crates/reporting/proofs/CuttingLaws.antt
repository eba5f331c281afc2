-- Cutting a file into tables: the search of the definition finds the one way, and more bytes go on where the last piece ended.
-- Assumes nothing.
use Prim.Native.Nat.{ℕ, zero, suc, ◌≤◌, ◌<◌}
use native.Mathlib.Omega.{arith}
use mathlib.Core.Path.{◌≡◌, refl, sym, ◌∙◌, ap, subst}
use mathlib.Core.Bool.{true, false}
use mathlib.Core.Logic.{◌⊎◌, inl, inr}
use mathlib.Core.List.{List, [], ◌∷◌, ◌++◌, flatten, append_assoc, append-nil}
use lib.ListN.{length, take, drop, get_or, length-append, length-take, length-drop, take-append-drop}
use lib.Seq.{take_at, drop_at, get_or-take, take-append_seam}
use Rattle.model.proofs.Tests.{ltb?}
use Rattle.model.proofs.Append.{flatten_append}
use Rattle.tables.specs.Layout.{stated_length}
use Rattle.reporting.specs.Cutting.{is_closed, tables_from, left_from, tables_in, left_in, Begins, Stated, AllStated, Cut, CutRight}

-- the first bytes of a list that has them are those of a list that it begins
get_d_front : (xs ys : List ℕ) (i : ℕ) → i < length xs → get_or (xs ++ ys) i 0 ≡ get_or xs i 0
get_d_front xs ys i h =
    sym (get_or-take (length xs) (xs ++ ys) i 0 h) ∙ ap (λ (zs : List ℕ). get_or zs i 0) (take-append_seam xs ys)

pub stated_front : (xs ys : List ℕ) → 3 ≤ length xs → stated_length (xs ++ ys) ≡ stated_length xs
stated_front xs ys h =
    rw (get_d_front xs ys 1 (omega (arith, h)), get_d_front xs ys 2 (omega (arith, h)))

-- the test says what it means
closed? : (rest : List ℕ) → ((is_closed rest ≡ true) × (¬ Begins rest)) ⊎ ((is_closed rest ≡ false) × Begins rest)
closed? rest =
    elim (ltb? (length rest) 5) [
      | inl p ↦ inl (rw p.0 refl, λ b. omega (arith, b.head, p.1))
      | inr p ↦
          elim (ltb? (stated_length rest) 5) [
            | inl q ↦ inl (rw (p.0, q.0) refl, λ b. omega (arith, b.low, q.1))
            | inr q ↦
                elim (ltb? (length rest) (stated_length rest)) [
                  | inl r ↦ inl (rw (p.0, q.0, r.0) refl, λ b. omega (arith, b.inside, r.1))
                  | inr r ↦ inr (rw (p.0, q.0, r.0) refl, record { head = p.1; low = q.1; inside = r.1 })
                ]
          ]
    ]

-- a table at the beginning is as long as it states
first_stated : (rest : List ℕ) → Begins rest → Stated (take (stated_length rest) rest)
first_stated rest b =
    let long = length-take (stated_length rest) rest in
    record {
      low = omega (arith, long, b.low, b.inside);
      stated =
          rw (
            get_or-take (stated_length rest) rest 1 0 (omega (arith, b.low)),
            get_or-take (stated_length rest) rest 2 0 (omega (arith, b.low)),
          )
          (omega (arith, long, b.inside));
    }

-- the search cuts as it should
found_cut : (most : ℕ) (rest : List ℕ) → length rest ≤ most → Cut rest (tables_from most rest) (left_from most rest)
unfolding tables_from left_from flatten
found_cut zero rest h = record { whole = refl; stated = tt; closed = λ b. omega (arith, h, b.head) }
found_cut (suc most) rest h =
    elim (closed? rest) [
      | inl p ↦ rw p.0 record { whole = refl; stated = tt; closed = p.1 }
      | inr p ↦
          let n = stated_length rest in
          let later = found_cut most (drop n rest) (omega (arith, length-drop n rest, h, p.1.low)) in
          rw p.0
          record {
            whole =
                append_assoc (take n rest) (flatten (tables_from most (drop n rest))) (left_from most (drop n rest))
                ∙ ap (λ (xs : List ℕ). take n rest ++ xs) later.whole
                ∙ take-append-drop n rest;
            stated = (first_stated rest p.1, later.stated);
            closed = later.closed;
          }
    ]

-- what begins with a stated piece begins with a table: that piece
module _ {piece bytes : List ℕ} (rest : List ℕ) (s : Stated piece) (e : piece ++ rest ≡ bytes) where
  pub stated_by : stated_length bytes ≡ length piece
  stated_by =
      sym (ap (λ (xs : List ℕ). stated_length xs) e) ∙ stated_front piece rest (omega (arith, s.low)) ∙ s.stated

  pub begins_with : Begins bytes
  begins_with =
      let long = ap (λ (xs : List ℕ). length xs) e in
      record {
        head = omega (arith, long, length-append piece rest, s.low);
        low = omega (arith, stated_by, s.low);
        inside = omega (arith, stated_by, long, length-append piece rest);
      }

  piece_is : piece ≡ take (stated_length bytes) bytes
  piece_is =
      sym (take_at piece rest (stated_length bytes) (sym stated_by)) ∙ ap (λ (xs : List ℕ). take (stated_length bytes) xs) e

  rest_is : rest ≡ drop (stated_length bytes) bytes
  rest_is =
      sym (drop_at piece rest (stated_length bytes) (sym stated_by)) ∙ ap (λ (xs : List ℕ). drop (stated_length bytes) xs) e

-- behind the first piece
cut_tail : {bytes piece left : List ℕ} {pieces : List (List ℕ)} → Cut bytes (piece ∷ pieces) left →
    (piece ≡ take (stated_length bytes) bytes) × Cut (drop (stated_length bytes) bytes) pieces left
unfolding flatten
cut_tail {bytes} {piece} {left} {pieces} c =
    let e : piece ++ (flatten pieces ++ left) ≡ bytes = sym (append_assoc piece (flatten pieces) left) ∙ c.whole in
    (piece_is (flatten pieces ++ left) c.stated.0 e, record { whole = rest_is (flatten pieces ++ left) c.stated.0 e; stated = c.stated.1; closed = c.closed })

-- where no piece is cut off, and another cut has one
no_piece : {bytes left piece other : List ℕ} {pieces : List (List ℕ)} → Cut bytes [] left → Cut bytes (piece ∷ pieces) other → ⊥
unfolding flatten
no_piece {bytes} {left} {piece} {other} {pieces} none some =
    subst (λ (xs : List ℕ). ¬ Begins xs) none.whole none.closed
    (begins_with (flatten pieces ++ other) some.stated.0 (sym (append_assoc piece (flatten pieces) other) ∙ some.whole))

pub one_way : (pieces others : List (List ℕ)) {bytes left other : List ℕ} → Cut bytes pieces left → Cut bytes others other →
    (pieces ≡ others) × (left ≡ other)
unfolding flatten
one_way [] [] c d = (refl, c.whole ∙ sym d.whole)
one_way [] (q ∷ qs) c d = absurd (no_piece c d)
one_way (p ∷ ps) [] c d = absurd (no_piece d c)
one_way (p ∷ ps) (q ∷ qs) c d =
    let first = cut_tail c in
    let second = cut_tail d in
    let later = one_way ps qs first.1 second.1 in
    let same : p ≡ q = first.0 ∙ sym second.0 in
    (ap (λ (x : List ℕ). x ∷ ps) same ∙ ap (λ (xs : List (List ℕ)). q ∷ xs) later.0, later.1)

pub is_cut : (bytes : List ℕ) → Cut bytes (tables_in bytes) (left_in bytes)
is_cut bytes = found_cut (length bytes) bytes (omega arith)

pub cut_right : CutRight
cut_right = record { cut = is_cut; only = λ bytes pieces left c. one_way pieces (tables_in bytes) c (is_cut bytes) }

stated_both : (xs ys : List (List ℕ)) → AllStated xs → AllStated ys → AllStated (xs ++ ys)
stated_both [] ys p q = q
stated_both (x ∷ xs) ys p q = (p.0, stated_both xs ys p.1 q)

-- more bytes are cut together with what was left
cut_more : {bytes left rest : List ℕ} {pieces others : List (List ℕ)} (more : List ℕ) → Cut bytes pieces left → Cut (left ++ more) others rest →
    Cut (bytes ++ more) (pieces ++ others) rest
cut_more {bytes} {left} {rest} {pieces} {others} more c d =
    record {
      whole =
          ap (λ (xs : List ℕ). xs ++ rest) (flatten_append pieces others)
          ∙ append_assoc (flatten pieces) (flatten others) rest
          ∙ ap (λ (xs : List ℕ). flatten pieces ++ xs) d.whole
          ∙ sym (append_assoc (flatten pieces) left more)
          ∙ ap (λ (xs : List ℕ). xs ++ more) c.whole;
      stated = stated_both pieces others c.stated d.stated;
      closed = d.closed;
    }

module _ (bytes more : List ℕ) where
  pub tables_more : tables_in (bytes ++ more) ≡ tables_in bytes ++ tables_in (left_in bytes ++ more)
  tables_more = sym (cut_right.only (bytes ++ more) _ _ (cut_more more (is_cut bytes) (is_cut (left_in bytes ++ more)))).0

  pub left_more : left_in (bytes ++ more) ≡ left_in (left_in bytes ++ more)
  left_more = sym (cut_right.only (bytes ++ more) _ _ (cut_more more (is_cut bytes) (is_cut (left_in bytes ++ more)))).1

-- nothing is cut off, or all is one piece
pub none_whole : (rest : List ℕ) → ¬ Begins rest → (tables_in rest ≡ []) × (left_in rest ≡ rest)
unfolding flatten
none_whole rest n =
    let c : Cut rest [] rest = record { whole = refl; stated = tt; closed = n } in
    (sym (cut_right.only rest _ _ c).0, sym (cut_right.only rest _ _ c).1)

pub one_whole : (piece : List ℕ) → Stated piece → (tables_in piece ≡ piece ∷ []) × (left_in piece ≡ [])
unfolding flatten
one_whole piece s =
    let c : Cut piece (piece ∷ []) [] =
    record { whole = append-nil (piece ++ []) ∙ append-nil piece; stated = (s, tt); closed = λ b. omega (arith, b.head) } in
    (sym (cut_right.only piece _ _ c).0, sym (cut_right.only piece _ _ c).1)
