-- Columns that stand one behind another in one list: what a write into one of them does to each.
-- Assumes nothing.
use Prim.Native.Nat.{ℕ, zero, suc, ◌+◌, ◌-◌, ◌*◌, ◌≤◌, ◌<◌}
use native.Mathlib.Nat.{mul-le-mul_right}
use native.Mathlib.Omega.{arith}
use mathlib.Core.Path.{◌≡◌, refl, ◌∙◌, ap}
use mathlib.Core.List.{List, [], ◌∷◌}
use lib.ListN.{length, get_or, set, take, drop, length-drop, length-set}
use lib.Seq.{take-set-lt, take-set-le, drop-set-lt, drop-set-add, length-take-le}
use Rattle.records.specs.Columns.{part}

module _ (start long : ℕ) (words : List ℕ) where
  pub length_part : start + long ≤ length words → length (part start long words) ≡ long
  length_part h = length-take-le long (drop start words) (omega (arith, length-drop start words))

  module _ (k v : ℕ) where
    pub part_inside : k < long → part start long (set words (start + k) v) ≡ set (part start long words) k v
    part_inside h = ap (take long) (drop-set-add start words k v) ∙ take-set-lt long (drop start words) k v h

    pub part_before : k < start → part start long (set words k v) ≡ part start long words
    part_before h = ap (take long) (drop-set-lt start words k v h)

    pub part_behind : start + long ≤ k → part start long (set words k v) ≡ part start long words
    part_behind h =
        let there : k ≡ start + (k - start) = omega arith in
        ap (λ (j : ℕ). part start long (set words j v)) there
        ∙ ap (take long) (drop-set-add start words (k - start) v)
        ∙ take-set-le long (drop start words) (k - start) v (omega arith)

-- columns of one length: word i of column j and of those behind it is written, a word for each
module _ (room i : ℕ) where
  abbrev pub stored : ℕ → List ℕ → List ℕ → List ℕ
  stored j [] words = words
  stored j (v ∷ values) words = stored (suc j) values (set words (j * room + i) v)

  pub length_stored : (j : ℕ) (values words : List ℕ) → length (stored j values words) ≡ length words
  length_stored j [] words = refl
  length_stored j (v ∷ values) words = length_stored (suc j) values (set words (j * room + i) v) ∙ length-set words (j * room + i) v

  module _ (h : i < room) where
    apart : (a b : ℕ) → a < b → a * room + room ≤ b * room
    apart a b l = omega (arith, mul-le-mul_right room l)

    -- a column that stands before them all stays
    stored_before : (column j : ℕ) → column < j → (values words : List ℕ) →
        part (column * room) room (stored j values words) ≡ part (column * room) room words
    stored_before column j l [] words = refl
    stored_before column j l (v ∷ values) words =
        stored_before column (suc j) (omega arith) values (set words (j * room + i) v)
        ∙ part_behind (column * room) room words (j * room + i) v (omega (arith, apart column j l))

    -- so does one that stands behind them
    pub stored_behind : (column long j : ℕ) (values words : List ℕ) → j + length values ≤ column →
        part (column * room) long (stored j values words) ≡ part (column * room) long words
    stored_behind column long j [] words l = refl
    stored_behind column long j (v ∷ values) words l =
        stored_behind column long (suc j) values (set words (j * room + i) v) (omega arith)
        ∙ part_before (column * room) long words (j * room + i) v (omega (arith, apart j column (omega arith)))

    -- and each of theirs gets its word
    pub stored_in : (d j column : ℕ) → column ≡ j + d → (values words : List ℕ) → d < length values →
        part (column * room) room (stored j values words) ≡ set (part (column * room) room words) i (get_or values d 0)
    stored_in d j column e [] words l = absurd (omega arith)
    stored_in zero j column e (v ∷ values) words l =
        let here : j ≡ column = omega arith in
        stored_before column (suc j) (omega arith) values (set words (j * room + i) v)
        ∙ ap (λ (k : ℕ). part (column * room) room (set words (k * room + i) v)) here
        ∙ part_inside (column * room) room words i v h
    stored_in (suc d) j column e (v ∷ values) words l =
        stored_in d (suc j) column (omega arith) values (set words (j * room + i) v) (omega arith)
        ∙ ap (λ (column : List ℕ). set column i (get_or values d 0))
        (part_before (column * room) room words (j * room + i) v (omega (arith, apart j column (omega arith))))
