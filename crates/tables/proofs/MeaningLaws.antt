-- Each test of the rules passes exactly where the rule holds.
-- Assumes nothing.
use Prim.Native.Nat.{ℕ, zero, suc, ◌-◌, ◌≤◌}
use native.Mathlib.Omega.{arith}
use native.Mathlib.Decide.{ℕ_discrete}
use mathlib.Core.Path.{◌≡◌, refl, subst}
use mathlib.Core.Bool.{true}
use mathlib.Core.List.{List}
use mathlib.Core.Logic.{inl, inr}
use lib.Dec.{eqb, leb, ltb}
use lib.ListN.{length}
use borrow.Author.Tests.{eqb-true, eq-eqb, ne_eqb, ltb-true, lt-ltb, leb-true, le-leb}
use Rattle.model.specs.Choice.{both, either}
use Rattle.model.specs.Tables.{Row}
use Rattle.model.proofs.Tests.{ltb?, both_true, both_pass, either_right, either_true}
use Rattle.tables.specs.Layout.{layout_of, stated_length, task_count, row_count, task_at, row_at, priority_in, period_in, cost_in, deadline_in, earliest_in, latest_in, place_in, semaphore_in, longest_in}
use Rattle.tables.specs.Fields.{CountField, task_count_field, row_count_field, RecordField, period_field, cost_field, deadline_field, earliest_field, latest_field, priority_field, RowField, place_field, semaphore_field, longest_field, order_field}
use Rattle.tables.specs.Rules.{between, count_test, lengths_agree, priority_fits, longest_deadline, record_test, row_after, row_in_order, row_test}
use Rattle.tables.specs.Checks.{row_tests}
use Rattle.tables.specs.Meaning.{Within, CountRight, LengthsEqual, PriorityInOrder, RecordFieldRight, RowsRise, RowFieldRight, RoomFor, OnePeriod}

pub between_means : (low high x : ℕ) → between low high x ≡ true → Within low high x
between_means low high x p =
    let b = both_true (leb low x) (leb x high) p in
    record { low = leb-true low x b.0; high = leb-true x high b.1 }

pub between_holds : (low high x : ℕ) → Within low high x → between low high x ≡ true
between_holds low high x w = both_pass (le-leb low x w.low) (le-leb x high w.high)

pub one_period : OnePeriod
one_period period right = omega (arith, right.high)

module _ (bytes : List ℕ) where
  pub count_means : (field : CountField) → count_test (layout_of bytes).most (task_count bytes) (row_count bytes) field ≡ true → CountRight bytes field
  unfolding count_test
  count_means task_count_field p = between_means 1 (layout_of bytes).most (task_count bytes) p
  count_means row_count_field p = between_means 0 64 (row_count bytes) p

  pub count_holds : (field : CountField) → CountRight bytes field → count_test (layout_of bytes).most (task_count bytes) (row_count bytes) field ≡ true
  unfolding count_test
  count_holds task_count_field r = between_holds 1 (layout_of bytes).most (task_count bytes) r
  count_holds row_count_field r = between_holds 0 64 (row_count bytes) r

  pub lengths_mean : lengths_agree bytes ≡ true → LengthsEqual bytes
  unfolding lengths_agree
  lengths_mean p =
      let b = both_true (eqb (stated_length bytes) (length bytes)) _ p in
      record { stated = eqb-true _ _ b.0; summed = eqb-true _ _ b.1 }

  pub lengths_hold : LengthsEqual bytes → lengths_agree bytes ≡ true
  unfolding lengths_agree
  lengths_hold l = both_pass (eq-eqb _ _ l.stated) (eq-eqb _ _ l.summed)

  priority_means : (i : ℕ) → priority_fits bytes i ≡ true → PriorityInOrder (task_at bytes) i
  unfolding priority_fits
  priority_means i p =
      let b = both_true (leb 1 (priority_in bytes i)) _ p in
      record {
        positive = leb-true 1 (priority_in bytes i) b.0;
        not_rising = λ before e.
            let back : i - 1 ≡ before = omega arith in
            let second = either_true (eqb i 0) _ b.1 (ne_eqb i 0 (λ (z : i ≡ 0). omega arith)) in
            subst (λ (j : ℕ). priority_in bytes i ≤ priority_in bytes j) back (leb-true _ _ second);
      }

  priority_holds : (i : ℕ) → PriorityInOrder (task_at bytes) i → priority_fits bytes i ≡ true
  unfolding priority_fits
  priority_holds i o =
      both_pass (le-leb 1 (priority_in bytes i) o.positive) (go i o.not_rising)
    where
      go : (k : ℕ) → ((before : ℕ) → suc before ≡ k → priority_in bytes i ≤ priority_in bytes before) →
          either (eqb k 0) (leb (priority_in bytes i) (priority_in bytes (k - 1))) ≡ true
      go zero f = refl
      go (suc k) f =
          let back : suc k - 1 ≡ k = omega arith in
          either_right (eqb (suc k) 0) (leb (priority_in bytes i) (priority_in bytes (suc k - 1)))
          (le-leb (priority_in bytes i) (priority_in bytes (suc k - 1)) (rw back (f k refl)))

  pub record_means : (span i : ℕ) (field : RecordField) → record_test span (task_at bytes i) (priority_fits bytes i) field ≡ true →
      RecordFieldRight span bytes i field
  unfolding record_test
  record_means span i period_field p = between_means 1 1000000 (period_in bytes i) p
  record_means span i cost_field p = between_means 1 1000000 (cost_in bytes i) p
  record_means span i deadline_field p = between_means 1 (longest_deadline span (period_in bytes i)) (deadline_in bytes i) p
  record_means span i earliest_field p = between_means 0 1000000 (earliest_in bytes i) p
  record_means span i latest_field p = between_means (earliest_in bytes i) 1000000 (latest_in bytes i) p
  record_means span i priority_field p = priority_means i p

  pub record_holds : (span i : ℕ) (field : RecordField) → RecordFieldRight span bytes i field →
      record_test span (task_at bytes i) (priority_fits bytes i) field ≡ true
  unfolding record_test
  record_holds span i period_field r = between_holds 1 1000000 (period_in bytes i) r
  record_holds span i cost_field r = between_holds 1 1000000 (cost_in bytes i) r
  record_holds span i deadline_field r = between_holds 1 (longest_deadline span (period_in bytes i)) (deadline_in bytes i) r
  record_holds span i earliest_field r = between_holds 0 1000000 (earliest_in bytes i) r
  record_holds span i latest_field r = between_holds (earliest_in bytes i) 1000000 (latest_in bytes i) r
  record_holds span i priority_field r = priority_holds i r

rise_means : (before row : Row) → row_after before row ≡ true → RowsRise before row
unfolding row_after
rise_means before row p =
    elim (ltb? before.place row.place) [
      | inl y ↦ record { by_place = omega (arith, y.1); then_semaphore = λ e. absurd (omega (arith, y.1)) }
      | inr x ↦
          let b = both_true (eqb before.place row.place) _ (either_true (ltb before.place row.place) _ p x.0) in
          record { by_place = omega (arith, eqb-true before.place row.place b.0); then_semaphore = λ e. ltb-true _ _ b.1 }
    ]

rise_holds : (before row : Row) → RowsRise before row → row_after before row ≡ true
unfolding row_after
rise_holds before row r =
    elim (ℕ_discrete before.place row.place) [
      | yes e ↦
          either_right (ltb before.place row.place) _
          (both_pass (eq-eqb _ _ e) (lt-ltb _ _ (r.then_semaphore e)))
      | no e ↦ rw (lt-ltb before.place row.place (omega (arith, r.by_place)))
    ]

module _ (bytes : List ℕ) where
  in_order_means : (k : ℕ) (row : Row) → row_in_order bytes k row ≡ true → (before : ℕ) → suc before ≡ k → RowsRise (row_at bytes before) row
  in_order_means k row p before e =
      let back : k - 1 ≡ before = omega arith in
      let second = either_true (eqb k 0) _ p (ne_eqb k 0 (λ (z : k ≡ 0). omega arith)) in
      subst (λ (j : ℕ). RowsRise (row_at bytes j) row) back (rise_means (row_at bytes (k - 1)) row second)

  in_order_holds : (k : ℕ) (row : Row) → ((before : ℕ) → suc before ≡ k → RowsRise (row_at bytes before) row) → row_in_order bytes k row ≡ true
  in_order_holds zero row f = refl
  in_order_holds (suc k) row f =
      let back : suc k - 1 ≡ k = omega arith in
      either_right (eqb (suc k) 0) (row_after (row_at bytes (suc k - 1)) row) (rw back (rise_holds (row_at bytes k) row (f k refl)))

  pub row_means : (k : ℕ) (field : RowField) → row_tests bytes k field ≡ true → RowFieldRight bytes k field
  unfolding row_test
  row_means k place_field p = ltb-true (place_in bytes k) (task_count bytes) p
  row_means k semaphore_field p = between_means 1 16 (semaphore_in bytes k) p
  row_means k longest_field p = between_means 1 (cost_in bytes (place_in bytes k)) (longest_in bytes k) p
  row_means k order_field p = in_order_means k (row_at bytes k) p

  pub row_holds : (k : ℕ) (field : RowField) → RowFieldRight bytes k field → row_tests bytes k field ≡ true
  unfolding row_test
  row_holds k place_field r = lt-ltb (place_in bytes k) (task_count bytes) r
  row_holds k semaphore_field r = between_holds 1 16 (semaphore_in bytes k) r
  row_holds k longest_field r = between_holds 1 (cost_in bytes (place_in bytes k)) (longest_in bytes k) r
  row_holds k order_field r = in_order_holds k (row_at bytes k) r

  pub room_means : (answers rounds : ℕ) → both (leb (task_count bytes) answers) (leb (task_count bytes) rounds) ≡ true → RoomFor bytes answers rounds
  room_means answers rounds p =
      let b = both_true (leb (task_count bytes) answers) _ p in
      record { answers_long = leb-true _ _ b.0; rounds_long = leb-true _ _ b.1 }

  pub room_holds : (answers rounds : ℕ) → RoomFor bytes answers rounds → both (leb (task_count bytes) answers) (leb (task_count bytes) rounds) ≡ true
  room_holds answers rounds r = both_pass (le-leb _ _ r.answers_long) (le-leb _ _ r.rounds_long)
