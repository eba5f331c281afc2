-- Walking over the records of a table that is accepted, from each to the next, each as a slice of its own.
-- Assumes nothing.
use Prim.Native.Nat.{ℕ, ◌+◌, ◌-◌, ◌≤◌, ◌<◌}
use native.Mathlib.Omega.{arith}
use native.Mathlib.Nat.{add_assoc}
use native.Mathlib.Decide.{dec_le}
use mathlib.Core.Path.{◌≡◌, sym, ◌∙◌, ap}
use mathlib.Core.List.{List, ◌++◌}
use lib.ListN.{length, get_or, take, drop, length-drop, get_or-append}
use Rattle.std.proofs.lemmas.List.{take_all, get_or-drop, drop-drop, drop_at}
use Rattle.tables.specs.declared.layout.Layout.{Layout}
use Rattle.tables.specs.Fields.{period_field}
use Rattle.tables.specs.Layout.{word_at, layout_of, task_count, record_start, period_in, cost_in}
use Rattle.tables.specs.Meaning.{Within, TableRight}
use Rattle.tables.proofs.LayoutLaws.{layout_sound, next_start, record_inside}

-- before record i is taken: `rest` begins with it, and `left` records are still to be taken
pub record Walking (bytes : List ℕ) (size left i : ℕ) (rest : List ℕ) : Type 0 where
  pub right : TableRight bytes
  pub sized : size ≡ (layout_of bytes).size
  pub counted : left + i ≡ task_count bytes
  pub here : rest ≡ drop (record_start (layout_of bytes) i) bytes

-- one turn: a record is taken from the front
pub record Turn (size left : ℕ) (rest found : List ℕ) (kept less : ℕ) (after : List ℕ) : Type 0 where
  pub same : kept ≡ size
  pub taken : less + 1 ≡ left
  pub cut : rest ≡ found ++ after
  pub long : length found ≡ size

-- as a call of `next` says it, on an iterator that cuts whole records
pub turn : {size left kept less : ℕ} {rest found after over now_over : List ℕ} →
    ((kept ≡ size) × ((rest ≡ found ++ after) × (length found ≡ size)) × (now_over ≡ over)) × (less + 1 ≡ left) →
    Turn size left rest found kept less after
turn s = record { same = s.0.0; taken = s.1; cut = s.0.1.0; long = s.0.1.1 }

module _ {bytes : List ℕ} {layout : Layout} (right : TableRight bytes) (decided : layout ≡ layout_of bytes) where
  size_is : layout.size ≡ (layout_of bytes).size
  size_is = ap (λ (l : Layout). l.size) decided

  -- a record has a size
  pub some_bytes : 0 < layout.size
  some_bytes = omega (arith, size_is, (layout_sound bytes right.head.version).fields)

  -- what is behind the head begins with the first
  pub walking_first : {size left : ℕ} {rest : List ℕ} → size ≡ layout.size → left ≡ task_count bytes →
      rest ≡ take (length bytes - 5) (drop 5 bytes) → Walking bytes size left 0 rest
  walking_first sized counted begins =
      record {
        right = right;
        sized = sized ∙ size_is;
        counted = omega arith;
        here = begins ∙ take_all (length bytes - 5) (drop 5 bytes) (omega (arith, length-drop 5 bytes)) ∙ ap (λ (start : ℕ). drop start bytes) (let e : 5 ≡ record_start (layout_of bytes) 0 = omega arith in e);
      }

module _ {bytes : List ℕ} {size left i : ℕ} {rest : List ℕ} (w : Walking bytes size left i rest) where
  pub some_size : 17 ≤ size
  some_size = omega (arith, w.sized, (layout_sound bytes w.right.head.version).fields)

  -- where records are left, there is one
  pub record_there : 0 < left → size ≤ length rest
  record_there some =
      omega (
        arith,
        ap length w.here,
        length-drop (record_start (layout_of bytes) i) bytes,
        record_inside (layout_of bytes) {i = i} {n = task_count bytes} (omega (arith, w.counted)),
        w.right.head.lengths.summed,
        w.sized,
      )

  -- behind the last record
  pub walked : (0 < left → length rest < size) → i ≡ task_count bytes
  walked none =
      elim (dec_le 1 left) [
        | yes some ↦ absurd (omega (arith, none some, record_there some))
        | no past ↦ omega (arith, w.counted, past)
      ]

  module _ {found after : List ℕ} {kept less : ℕ} (t : Turn size left rest found kept less after) where
    inside : i < task_count bytes
    inside = omega (arith, w.counted, t.taken)

    pub found_long : 17 ≤ length found
    found_long = omega (arith, some_size, t.long)

    byte_is : (k : ℕ) → k < 17 → get_or found k 0 ≡ get_or bytes (record_start (layout_of bytes) i + k) 0
    byte_is k h =
        sym (get_or-append found after 0 k (omega (arith, found_long)))
        ∙ ap (λ (xs : List ℕ). get_or xs k 0) (sym t.cut ∙ w.here)
        ∙ get_or-drop (record_start (layout_of bytes) i) bytes k 0

    word_is : (k : ℕ) → k + 3 < 17 → word_at found k ≡ word_at bytes (record_start (layout_of bytes) i + k)
    word_is k h =
        rw (
          byte_is k (omega arith),
          byte_is (k + 1) (omega arith),
          byte_is (k + 2) (omega arith),
          byte_is (k + 3) h,
          add_assoc (record_start (layout_of bytes) i) k 1,
          add_assoc (record_start (layout_of bytes) i) k 2,
          add_assoc (record_start (layout_of bytes) i) k 3,
        )

    -- its period and its cost, where they are read, and the period's range
    pub period_is : {period : ℕ} → period ≡ word_at found 1 → period ≡ period_in bytes i
    period_is e = e ∙ word_is 1 (omega arith)

    pub cost_is : {cost : ℕ} → cost ≡ word_at found 5 → cost ≡ cost_in bytes i
    cost_is e = e ∙ word_is 5 (omega arith)

    pub period_within : Within 1 1000000 (period_in bytes i)
    period_within = w.right.records i inside period_field

    next : record_start (layout_of bytes) i + size ≡ record_start (layout_of bytes) (i + 1)
    next = omega (arith, next_start (layout_of bytes) i, w.sized)

    pub walking_more : Walking bytes kept less (i + 1) after
    walking_more =
        record {
          right = w.right;
          sized = t.same ∙ w.sized;
          counted = omega (arith, w.counted, t.taken);
          here =
              sym (drop_at found after size t.long)
              ∙ ap (drop size) (sym t.cut ∙ w.here)
              ∙ drop-drop size (record_start (layout_of bytes) i) bytes
              ∙ ap (λ (start : ℕ). drop start bytes) next;
        }
