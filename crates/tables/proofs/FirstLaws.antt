-- Bytes whose first five are the same, and whose length no table with such a head has, are refused alike; so a table is judged by its first
-- 4,590 bytes.
-- Assumes nothing.
use Rattle.std.specs.Prelude.{Err}
use Prim.Native.Nat.{ℕ, ◌≤◌}
use native.Mathlib.Omega.{arith}
use native.Mathlib.Nat.{mul-le-mul}
use native.Mathlib.Decide.{dec_le}
use mathlib.Core.Path.{◌≡◌, refl, sym, ◌∙◌, ap}
use mathlib.Core.Bool.{true, false}
use mathlib.Core.Logic.{inl, inr}
use mathlib.Core.List.{List}
use lib.Dec.{eqb}
use lib.ListN.{length, take, length-take}
use lib.Seq.{get_or-take, take_all}
use borrow.Author.Tests.{ne_eqb}
use Rattle.model.specs.Choice.{pick}
use Rattle.model.proofs.Tests.{bool?, both_fail}
use Rattle.tables.specs.declared.layout.Layout.{Layout}
use Rattle.tables.specs.declared.Refusal.{Refusal}
use Rattle.tables.specs.declared.Refusal.TheVariants.{UnknownVersion, CountOutOfRange, LengthsDiffer}
use Rattle.tables.specs.Layout.{layout_for, layout_of, task_count, row_count, stated_length, length_for}
use Rattle.tables.specs.Refusals.{offset}
use Rattle.tables.specs.Rules.{between, lengths_agree}
use Rattle.tables.specs.Checks.{head_check}
use Rattle.tables.specs.FirstBytes.{kept_of, AlikeRefused, LongAlike}
use Rattle.tables.proofs.HeadLaws.{head_version, head_tasks, head_rows, head_lengths}
use Rattle.tables.proofs.LayoutLaws.{known_means, layout_sound}
use Rattle.tables.proofs.MeaningLaws.{between_means}

-- the version is known, and both counts are in range
pub record Counted (bytes : List ℕ) : Type 0 where
  pub known : (layout_of bytes).known ≡ true
  pub tasks : between 1 (layout_of bytes).most (task_count bytes) ≡ true
  pub rows : between 0 64 (row_count bytes) ≡ true

-- no table is longer than 4,589 bytes
pub counted_short : (bytes : List ℕ) → Counted bytes → length_for (layout_of bytes) (task_count bytes) (row_count bytes) ≤ 4589
counted_short bytes c =
    let sound = layout_sound bytes (known_means bytes c.known) in
    let few : task_count bytes ≤ 200 = omega (arith, (between_means 1 (layout_of bytes).most (task_count bytes) c.tasks).high, sound.few) in
    omega (arith, mul-le-mul sound.small few, (between_means 0 64 (row_count bytes) c.rows).high)

-- the refusal of a head whose length is wrong
head_refusal : Layout → ℕ → ℕ → Refusal
head_refusal layout n m =
    pick layout.known
    (pick (between 1 layout.most n) (pick (between 0 64 m) LengthsDiffer (CountOutOfRange (offset 4))) (CountOutOfRange (offset 3)))
    UnknownVersion

module _ (bytes : List ℕ) (long : 5 ≤ length bytes) (wrong : Counted bytes → lengths_agree bytes ≡ false) where
  head_refused : head_check bytes ≡ Err (head_refusal (layout_of bytes) (task_count bytes) (row_count bytes))
  unfolding head_refusal
  head_refused =
      elim (bool? (layout_of bytes).known) [
        | inr known ↦ rw known (sym (head_version bytes (layout_of bytes) refl long known))
        | inl known ↦
            elim (bool? (between 1 (layout_of bytes).most (task_count bytes))) [
              | inr n ↦ rw (known, n) (sym (head_tasks bytes (layout_of bytes) refl long known (task_count bytes) refl n))
              | inl n ↦
                  elim (bool? (between 0 64 (row_count bytes))) [
                    | inr m ↦ rw (known, n, m) (sym (head_rows bytes (layout_of bytes) refl long known (task_count bytes) (row_count bytes) refl refl n m))
                    | inl m ↦
                        rw (known, n, m)
                        (sym
                        (head_lengths bytes (layout_of bytes) refl long known (task_count bytes) (row_count bytes) refl refl n m
                        (wrong (record { known = known; tasks = n; rows = m }))))
                  ]
            ]
      ]

-- the first `count` bytes have the same head
module _ (count : ℕ) (bytes : List ℕ) (five : 5 ≤ count) where
  pub first_layout : layout_of (take count bytes) ≡ layout_of bytes
  first_layout = ap layout_for (get_or-take count bytes 0 0 (omega (arith, five)))

  pub first_tasks : task_count (take count bytes) ≡ task_count bytes
  first_tasks = get_or-take count bytes 3 0 (omega (arith, five))

  pub first_rows : row_count (take count bytes) ≡ row_count bytes
  first_rows = get_or-take count bytes 4 0 (omega (arith, five))

  pub first_stated : stated_length (take count bytes) ≡ stated_length bytes
  first_stated = rw (get_or-take count bytes 1 0 (omega (arith, five)), get_or-take count bytes 2 0 (omega (arith, five))) refl

  -- neither has a length that its head allows
  pub first_refused : count ≤ length bytes → (Counted bytes → lengths_agree bytes ≡ false) →
      (Counted (take count bytes) → lengths_agree (take count bytes) ≡ false) → AlikeRefused bytes (take count bytes)
  first_refused long whole part =
      let same : head_refusal (layout_of (take count bytes)) (task_count (take count bytes)) (row_count (take count bytes))
      ≡ head_refusal (layout_of bytes) (task_count bytes) (row_count bytes) = rw (first_layout, first_tasks, first_rows) refl in
      record {
        refusal = head_refusal (layout_of bytes) (task_count bytes) (row_count bytes);
        one = head_refused bytes (omega (arith, five, long)) whole;
        other = head_refused (take count bytes) (omega (arith, five, long, length-take count bytes)) part ∙ ap Err same;
      }

-- no table is so long
pub too_long : (bytes : List ℕ) → 4590 ≤ length bytes → Counted bytes → lengths_agree bytes ≡ false
unfolding lengths_agree
too_long bytes long c =
    both_fail (eqb (stated_length bytes) (length bytes)) _
    (ne_eqb (length_for (layout_of bytes) (task_count bytes) (row_count bytes)) (length bytes) (λ e. omega (arith, e, counted_short bytes c, long)))

pub long_alike : LongAlike
long_alike bytes long =
    first_refused 4590 bytes (omega arith) (omega (arith, long)) (too_long bytes (omega (arith, long)))
    (too_long (take 4590 bytes) (omega (arith, long, length-take 4590 bytes)))

-- So whatever is said of a table is said of its first 4,590 bytes, if a refusal of the head decides it.
pub kept_alike : {A : Type 0} (said : List ℕ → A) (refused : Refusal → A) →
    ((bytes : List ℕ) (refusal : Refusal) → head_check bytes ≡ Err refusal → said bytes ≡ refused refusal) → (bytes : List ℕ) →
    said (kept_of bytes) ≡ said bytes
kept_alike said refused decides bytes =
    elim (dec_le (length bytes) 4590) [
      | yes h ↦ ap said (take_all 4590 bytes h)
      | no h ↦
          let a = long_alike bytes (omega (arith, h)) in
          decides (kept_of bytes) a.refusal a.other ∙ sym (decides bytes a.refusal a.one)
    ]
