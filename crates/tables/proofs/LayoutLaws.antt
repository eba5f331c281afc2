-- What a version decides: the layouts that are known, and what they keep to.
-- Assumes nothing.
use Prim.Native.Nat.{ℕ, ◌+◌, ◌*◌, ◌≤◌, ◌<◌}
use native.Mathlib.Omega.{arith}
use native.Mathlib.Nat.{mul-le-mul_left, mul-le-mul}
use mathlib.Core.Path.{◌≡◌, ◌∙◌, ap}
use mathlib.Core.Bool.{true}
use mathlib.Core.List.{List}
use mathlib.Core.Logic.{◌⊎◌, inl, inr}
use lib.ListN.{length, get_or}
use Rattle.model.specs.Tables.{Task, Row, no_task, task_of, priority_of}
use Rattle.model.proofs.Lists.{get_d_tabulate, length_tabulate}
use Rattle.model.proofs.Tests.{eqb?, clash}
use Rattle.tables.specs.declared.layout.Layout.{Layout}
use Rattle.tables.specs.Layout.{version_one, version_two, version_three, no_version, version_of, layout_for, layout_of, record_start, task_count, row_count, task_at, row_at, tasks_of, rows_of, priority_in, Sound}
use Rattle.tables.specs.Meaning.{VersionKnown}

-- the layout of any bytes is one of four
layout_cases : (bytes : List ℕ) →
    ((version_of bytes ≡ 1) × (layout_of bytes ≡ version_one))
    ⊎ (((version_of bytes ≡ 2) × (layout_of bytes ≡ version_two))
    ⊎ (((version_of bytes ≡ 3) × (layout_of bytes ≡ version_three)) ⊎ (layout_of bytes ≡ no_version)))
unfolding layout_for
layout_cases bytes =
    elim (eqb? (version_of bytes) 1) [
      | inl one ↦ inl (one.1, rw one.0)
      | inr other ↦
          elim (eqb? (version_of bytes) 2) [
            | inl two ↦ inr (inl (two.1, rw (other.0, two.0)))
            | inr another ↦
                elim (eqb? (version_of bytes) 3) [
                  | inl three ↦ inr (inr (inl (three.1, rw (other.0, another.0, three.0))))
                  | inr none ↦ inr (inr (inr (rw (other.0, another.0, none.0))))
                ]
          ]
    ]

-- a layout is known where the version is 1, 2 or 3, and only there
pub known_means : (bytes : List ℕ) → (layout_of bytes).known ≡ true → VersionKnown bytes
known_means bytes p =
    elim (layout_cases bytes) [
      | inl one ↦ inl one.0
      | inr (inl two) ↦ inr (inl two.0)
      | inr (inr (inl three)) ↦ inr (inr three.0)
      | inr (inr (inr none)) ↦ absurd (clash _ p (ap (λ (l : Layout). l.known) none))
    ]

pub known_holds : (bytes : List ℕ) → VersionKnown bytes → (layout_of bytes).known ≡ true
unfolding layout_for
known_holds bytes (inl one) = rw one
known_holds bytes (inr (inl two)) = rw two
known_holds bytes (inr (inr three)) = rw three

-- every layout that is known is sound
pub layout_sound : (bytes : List ℕ) → VersionKnown bytes → Sound (layout_of bytes)
unfolding layout_for
layout_sound bytes (inl one) = rw one (record { fields = omega arith; latest_inside = omega arith; small = omega arith; few = omega arith })
layout_sound bytes (inr (inl two)) = rw two (record { fields = omega arith; latest_inside = omega arith; small = omega arith; few = omega arith })
layout_sound bytes (inr (inr three)) =
    rw three (record { fields = omega arith; latest_inside = omega arith; small = omega arith; few = omega arith })

-- no version's records are longer
pub size_small : (bytes : List ℕ) (layout : Layout) → layout ≡ layout_of bytes → layout.size ≤ 21
size_small bytes layout decided =
    elim (layout_cases bytes) [
      | inl one ↦ rw (decided ∙ one.1) (omega arith)
      | inr (inl two) ↦ rw (decided ∙ two.1) (omega arith)
      | inr (inr (inl three)) ↦ rw (decided ∙ three.1) (omega arith)
      | inr (inr (inr none)) ↦ rw (decided ∙ none) (omega arith)
    ]

module _ (layout : Layout) where
  -- where the next record begins
  pub next_start : (i : ℕ) → record_start layout i + layout.size ≡ record_start layout (i + 1)
  next_start i = omega arith

  -- a record ends within its table's records
  pub record_inside : {i n : ℕ} → i < n → record_start layout i + layout.size ≤ record_start layout n
  record_inside {i} {n} h =
      let more : layout.size * (i + 1) ≤ layout.size * n = mul-le-mul_left layout.size (omega arith) in
      omega arith

  -- no record begins far on: a byte counts them
  pub start_small : Sound layout → {n : ℕ} → n < 256 → record_start layout n ≤ 5360
  start_small s {n} few =
      let least : n ≤ 255 = omega arith in
      let most : layout.size * n ≤ 21 * 255 = mul-le-mul s.small least in
      omega arith

-- the tasks and the rows that bytes mean: as many as they state, each where it is read
module _ (bytes : List ℕ) where
  pub task_is : (i : ℕ) → i < task_count bytes → task_of (tasks_of bytes) i ≡ task_at bytes i
  task_is i h = get_d_tabulate (task_at bytes) (task_count bytes) i no_task h

  pub priority_at : (i : ℕ) → i < task_count bytes → priority_of (tasks_of bytes) i ≡ priority_in bytes i
  priority_at i h = ap (λ (t : Task). t.priority) (task_is i h)

  pub tasks_count : length (tasks_of bytes) ≡ task_count bytes
  tasks_count = length_tabulate (task_at bytes) (task_count bytes)

  pub row_is : (d : Row) (k : ℕ) → k < row_count bytes → get_or (rows_of bytes) k d ≡ row_at bytes k
  row_is d k h = get_d_tabulate (row_at bytes) (row_count bytes) k d h

  pub rows_count : length (rows_of bytes) ≡ row_count bytes
  rows_count = length_tabulate (row_at bytes) (row_count bytes)
