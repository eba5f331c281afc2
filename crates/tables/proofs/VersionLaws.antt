-- Versions 2 and 3 have one layout but for the greatest number of tasks: with no more than 32 of them, the same bytes in either version mean
-- the same table, and get the same refusal or none.
-- Assumes nothing.
use Rattle.std.specs.Prelude.{Ok}
use Prim.Native.Nat.{ℕ, zero, suc, ◌+◌, ◌-◌, ◌*◌, ◌≤◌}
use native.Mathlib.Omega.{arith}
use mathlib.Core.Path.{◌≡◌, refl, sym, ◌∙◌, ap}
use mathlib.Core.List.{List, [], ◌∷◌}
use lib.Dec.{eqb, leb}
use lib.ListN.{set}
use borrow.Author.Tests.{le-leb}
use Rattle.model.specs.Choice.{both, either}
use Rattle.model.specs.Lists.{tabulate}
use Rattle.model.specs.Search.{first_of}
use Rattle.tables.specs.Fields.{RecordField, period_field, cost_field, deadline_field, earliest_field, latest_field, priority_field, record_order, record_refusal, row_order, refusal_in_row}
use Rattle.tables.specs.Layout.{version_two, version_three, version_of, layout_for, byte_at, word_at, record_start, row_start, task_count, row_count, task_at, row_at, table_of}
use Rattle.tables.specs.Refusals.{is_clean, first_in, fields_check}
use Rattle.tables.specs.Rules.{count_test, lengths_agree, priority_fits, record_test, row_after, row_test}
use Rattle.tables.specs.Checks.{counts_check, head_check, record_check, row_check, records_check, rows_check, body_check, read_check, room_check, table_check_spanning}

-- bytes of each version, with the same behind the version
module _ (rest : List ℕ) where
  abbrev two : List ℕ
  two = 2 ∷ rest

  abbrev three : List ℕ
  three = 3 ∷ rest

  byte_same : (at : ℕ) → 1 ≤ at → byte_at two at ≡ byte_at three at
  byte_same zero h = absurd (omega arith)
  byte_same (suc at) h = refl

  word_same : (at : ℕ) → 1 ≤ at → word_at two at ≡ word_at three at
  word_same at h =
      let first = byte_same at h in
      let second = byte_same (at + 1) (omega arith) in
      let third = byte_same (at + 2) (omega arith) in
      let fourth = byte_same (at + 3) (omega arith) in
      λ j. first j * 16777216 + second j * 65536 + third j * 256 + fourth j

  task_same : (i : ℕ) → task_at two i ≡ task_at three i
  unfolding layout_for
  task_same i =
      let start = record_start version_two i in
      λ j.
      record {
        priority = byte_same (start + 0) (omega arith) j;
        period = word_same (start + 1) (omega arith) j;
        cost = word_same (start + 5) (omega arith) j;
        deadline = word_same (start + 9) (omega arith) j;
        earliest = word_same (start + 13) (omega arith) j;
        latest = word_same (start + 17) (omega arith) j;
      }

  pub tasks_same : task_at two ≡ task_at three
  tasks_same = λ j i. task_same i j

  row_read : (k : ℕ) → row_at two k ≡ row_at three k
  unfolding layout_for
  row_read k =
      let start = row_start version_two (task_count two) k in
      λ j.
      record {
        place = byte_same (start + 0) (omega arith) j;
        semaphore = byte_same (start + 1) (omega arith) j;
        longest = word_same (start + 2) (omega arith) j;
      }

  rows_same : row_at two ≡ row_at three
  rows_same = λ j k. row_read k j

  pub table_same : table_of two ≡ table_of three
  table_same = λ j. record { tasks = tabulate (tasks_same j) (task_count two); rows = tabulate (rows_same j) (row_count two) }

  -- a fault has its place in the record, which has the same size
  refusal_same : (start : ℕ) (field : RecordField) → record_refusal version_two start field ≡ record_refusal version_three start field
  refusal_same start period_field = refl
  refusal_same start cost_field = refl
  refusal_same start deadline_field = refl
  refusal_same start earliest_field = refl
  refusal_same start latest_field = refl
  refusal_same start priority_field = refl

  record_same : (span i : ℕ) → record_check span two i ≡ record_check span three i
  unfolding layout_for record_check priority_fits
  record_same span i =
      λ j.
      fields_check
      (record_test span (tasks_same j i)
      (both (leb 1 (tasks_same j i).priority) (either (eqb i 0) (leb (tasks_same j i).priority (tasks_same j (i - 1)).priority))))
      (λ (field : RecordField). refusal_same (record_start version_two i) field j) record_order

  row_same : (k : ℕ) → row_check two k ≡ row_check three k
  unfolding layout_for row_check
  row_same k =
      λ j.
      fields_check
      (row_test (task_count two) (tasks_same j (rows_same j k).place).cost
      (either (eqb k 0) (row_after (rows_same j (k - 1)) (rows_same j k))) (rows_same j k))
      (refusal_in_row version_two (task_count two) k) row_order

  body_same : (span : ℕ) → body_check span two ≡ body_check span three
  unfolding body_check records_check rows_check
  body_same span =
      λ j.
      first_in
      (first_of is_clean (Ok tt) (λ (i : ℕ). record_same span i j) (task_count two)
      ∷ first_of is_clean (Ok tt) (λ (k : ℕ). row_same k j) (row_count two)
      ∷ [])

  room_same : (answers rounds : ℕ) → room_check two answers rounds ≡ room_check three answers rounds
  unfolding room_check
  room_same answers rounds = refl

  lengths_same : lengths_agree two ≡ lengths_agree three
  unfolding layout_for lengths_agree
  lengths_same = refl

  module _ (few : task_count two ≤ 32) where
    counts_same : counts_check two ≡ counts_check three
    unfolding layout_for counts_check fields_check count_test
    counts_same = rw (le-leb (task_count two) 32 few, le-leb (task_count two) 200 (omega (arith, few)))

    head_same : head_check two ≡ head_check three
    unfolding layout_for head_check
    head_same = rw (counts_same, lengths_same) refl

    pub read_same : (span : ℕ) → read_check span two ≡ read_check span three
    unfolding read_check
    read_same span = λ j. first_in (head_same j ∷ body_same span j ∷ [])

    pub check_same : (span answers rounds : ℕ) → table_check_spanning span two answers rounds ≡ table_check_spanning span three answers rounds
    unfolding table_check_spanning
    check_same span answers rounds = λ j. first_in (head_same j ∷ body_same span j ∷ room_same answers rounds j ∷ [])

-- so for any bytes of version 2, and what is the same for both
pub in_three : {A : Type 0} (what : List ℕ → A) → ((rest : List ℕ) → task_count (2 ∷ rest) ≤ 32 → what (2 ∷ rest) ≡ what (3 ∷ rest)) →
    (bytes : List ℕ) → version_of bytes ≡ 2 → task_count bytes ≤ 32 → what (set bytes 0 3) ≡ what bytes
in_three what same [] version few = absurd (omega (arith, version))
in_three what same (v ∷ rest) version few = sym (same rest few) ∙ ap (λ (w : ℕ). what (w ∷ rest)) (sym version)
