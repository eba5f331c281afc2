-- One turn of the reader of records: what is known before it, and the ways in which it goes on.
-- Assumes nothing.
use Rattle.std.specs.Prelude.{Ok, Err}
use Prim.Native.Nat.{ℕ, zero, suc, ◌+◌, ◌-◌, ◌≤◌, ◌<◌}
use native.Mathlib.Omega.{arith}
use native.Mathlib.Numerals.{add-one}
use mathlib.Core.Path.{◌≡◌, refl, sym, ◌∙◌, ap, subst}
use mathlib.Core.Bool.{Bool, true, false}
use mathlib.Core.List.{List, [], ◌∷◌}
use mathlib.Core.Logic.{inl, inr}
use lib.Dec.{eqb, leb}
use lib.ListN.{length}
use borrow.Author.Tests.{ne_eqb, le-leb, lt-leb}
use Rattle.model.specs.Choice.{both, either}
use Rattle.model.specs.Tables.{Task}
use Rattle.model.specs.Search.{first_of}
use Rattle.model.proofs.First as first_laws
use Rattle.model.proofs.Tests.{ltb?, both_pass, both_fail}
use Rattle.tables.specs.declared.layout.DelayFields.{DelayFields}
use Rattle.tables.specs.declared.layout.DelayFields.TheVariants.{Jitter, Pair}
use Rattle.tables.specs.declared.layout.Layout.{Layout}
use Rattle.tables.specs.declared.Refusal.TheVariants.{NumberOutOfRange}
use Rattle.tables.specs.Layout.{word_at, jitter_at, earliest_from, layout_of, task_count, record_start, record_from, task_at, priority_in}
use Rattle.tables.specs.Refusals.{Check, is_clean, offset, fields_check}
use Rattle.tables.specs.Fields.{period_field, cost_field, deadline_field, earliest_field, latest_field, record_order, record_refusal}
use Rattle.tables.specs.Rules.{between, priority_fits, longest_deadline, record_test}
use Rattle.tables.specs.Checks.{record_check, records_check, records_read}
use Rattle.records.specs.Reading.{HeadRead, earliest_of, delay_at, at_record, record_fault}
use Rattle.tables.proofs.LayoutLaws.{next_start, record_inside, start_small}
use Rattle.tables.proofs.FieldLaws.{clean_only, stops_at, goes_on, goes_through, tests_fail, tests_passed}
use Rattle.tables.proofs.MeaningLaws.{between_means, between_holds}
use Rattle.records.proofs.ColumnLaws.{sound, few_tasks_law, rows_end}

-- a test of numbers that were read is the test of the numbers
pub between_same : {a b x y : ℕ} → a ≡ b → x ≡ y → between 1 a x ≡ between 1 b y
between_same p q = rw (p, q)

-- the delays, tested by one test: an earliest that is at most a right latest is right
pub earliest_right : (earliest latest : ℕ) → between earliest 1000000 latest ≡ true → between 0 1000000 earliest ≡ true
earliest_right earliest latest p =
    let w = between_means earliest 1000000 latest p in
    between_holds 0 1000000 earliest (record { low = omega arith; high = omega (arith, w.low, w.high) })

-- and where that test fails, the earliest is at fault if it is out of range, else the latest
pub delay_refused : (span : ℕ) (task : Task) (layout : Layout) (start highest : ℕ) → between 1 1000000 task.period ≡ true →
    between 1 1000000 task.cost ≡ true → between 1 (longest_deadline span task.period) task.deadline ≡ true →
    between task.earliest 1000000 task.latest ≡ false → (at : ℕ) → at ≡ delay_at layout.delays task.earliest →
    Err (NumberOutOfRange (offset (start + at))) ≡ record_fault (at_record layout start span highest) task
unfolding record_test
delay_refused span task layout start highest period cost deadline wrong at e =
    elim (ltb? 1000000 task.earliest) [
      | inl far ↦
          ap (λ (k : ℕ). Err (NumberOutOfRange (offset (start + k)))) (e ∙ rw far.0)
          ∙ sym
          (tests_fail _ _ (period_field ∷ cost_field ∷ deadline_field ∷ []) _ earliest_field (period, (cost, (deadline, tt)))
          (both_fail (leb 0 task.earliest) _ (lt-leb task.earliest 1000000 far.1)))
      | inr near ↦
          ap (λ (k : ℕ). Err (NumberOutOfRange (offset (start + k)))) (e ∙ rw near.0)
          ∙ sym
          (tests_fail _ _ (period_field ∷ cost_field ∷ deadline_field ∷ earliest_field ∷ []) _ latest_field
          (period, (cost, (deadline, (both_pass (le-leb 0 task.earliest (omega arith)) (le-leb task.earliest 1000000 near.1), tt)))) wrong)
    ]

-- what a clean record says to the subtraction that follows it
pub clean_delays : (span : ℕ) (task : Task) (layout : Layout) (start highest : ℕ) (found : Check) →
    found ≡ record_fault (at_record layout start span highest) task → is_clean found ≡ true → task.earliest ≤ task.latest
unfolding record_test
clean_delays span task layout start highest found e clean =
    let passed = tests_passed _ (record_refusal layout start) record_order (sym e ∙ clean_only found clean) in
    (between_means task.earliest 1000000 task.latest passed.1.1.1.1.0).low

-- the highest priority that record i may have: that of the record before, and any for the first
pub highest_for : List ℕ → ℕ → ℕ
highest_for bytes zero = 255
highest_for bytes (suc i) = priority_in bytes i

-- before record i is read
pub record Reading (span : ℕ) (bytes : List ℕ) (layout : Layout) (n i start highest : ℕ) : Type 0 where
  pub head : HeadRead bytes layout n
  pub few : n < 256
  pub within : i ≤ n
  pub here : start ≡ record_start layout i
  pub clean : first_of is_clean (Ok tt) (record_check span bytes) i ≡ Ok tt
  pub last : highest ≡ highest_for bytes i

module _ (span : ℕ) (bytes : List ℕ) (layout : Layout) (n : ℕ) where
  pub reading_none : HeadRead bytes layout n → Reading span bytes layout n 0 5 255
  unfolding highest_for
  reading_none h =
      record {
        head = h;
        few = few_tasks_law bytes layout n h;
        within = omega arith;
        here = omega arith;
        clean = first_laws.first_none is_clean (Ok tt) refl (record_check span bytes);
        last = refl;
      }

  module _ (i start highest : ℕ) (r : Reading span bytes layout n i start highest) (h : i < n) where
    -- the record ends within the bytes, and begins near their start
    pub record_there : start + layout.size ≤ length bytes
    record_there = omega (arith, r.here, record_inside layout h, rows_end bytes layout n r.head)

    pub start_near : start < 65536
    start_near = omega (arith, r.here, start_small layout (sound bytes layout n r.head) {n = i} (omega (arith, r.few)))

    module _ (task : Task) (read : task ≡ record_from layout bytes start) (byte : task.priority < 256) where
      -- the record is the task at place i
      pub task_is : task ≡ task_at bytes i
      task_is =
          read ∙ ap (record_from layout bytes) r.here ∙ ap (λ (l : Layout). record_from l bytes (record_start l i)) r.head.decided

      -- the priority test of the code is the rule's
      priority_test : between 1 highest (priority_in bytes i) ≡ priority_fits bytes i
      unfolding highest_for priority_fits
      priority_test = go i r.last
        where
          small : priority_in bytes i < 256
          small = subst (λ (t : Task). t.priority < 256) task_is byte

          go : (k : ℕ) → highest ≡ highest_for bytes k →
              between 1 highest (priority_in bytes i)
              ≡ both (leb 1 (priority_in bytes i)) (either (eqb k 0) (leb (priority_in bytes i) (priority_in bytes (k - 1))))
          go zero e = rw (e, le-leb (priority_in bytes i) 255 (omega (arith, small)))
          go (suc k) e =
              let back : suc k - 1 ≡ k = omega arith in
              rw (e, back, ne_eqb (suc k) 0 (λ (z : suc k ≡ 0). omega arith)) refl

      module _ (found : Check) (e : found ≡ record_fault (at_record layout start span highest) task) where
        check_is : record_check span bytes i ≡ found
        unfolding record_check
        check_is =
            sym
            (e
            ∙ ap (λ (t : Task). record_fault (at_record layout start span highest) t) task_is
            ∙ ap (λ (s : ℕ). record_fault (at_record layout s span highest) (task_at bytes i)) r.here
            ∙ ap (λ (l : Layout). record_fault (at_record l (record_start l i) span highest) (task_at bytes i)) r.head.decided
            ∙ ap
            (λ (b : Bool).
            fields_check (record_test span (task_at bytes i) b) (record_refusal (layout_of bytes) (record_start (layout_of bytes) i)) record_order)
            priority_test)

        pub record_wrong : is_clean found ≡ false → (found ≡ records_check span bytes) × (records_read span bytes ≡ i)
        unfolding records_check
        record_wrong wrong =
            stops_at (record_check span bytes) i r.clean (task_count bytes) (omega (arith, r.head.counted)) found check_is wrong

        pub reading_more : is_clean found ≡ true → (next : ℕ) → next ≡ task.priority →
            Reading span bytes layout n (i + 1) (start + layout.size) next
        unfolding highest_for
        reading_more clean next is =
            record {
              head = r.head;
              few = r.few;
              within = omega arith;
              here = ap (λ (s : ℕ). s + layout.size) r.here ∙ next_start layout i;
              clean = goes_on (record_check span bytes) i r.clean (check_is ∙ clean_only found clean);
              last = rw add-one (is ∙ ap (λ (t : Task). t.priority) task_is);
            }

  pub reading_all : {i start highest : ℕ} → Reading span bytes layout n i start highest → n ≤ i →
      (Ok tt ≡ records_check span bytes) × (records_read span bytes ≡ i)
  unfolding records_check
  reading_all {i} r h = goes_through (record_check span bytes) i r.clean (task_count bytes) (omega (arith, r.head.counted, r.within))

-- the first of the delays' words is the earliest delay, or J
pub earliest_is : (fields : DelayFields) (bytes : List ℕ) (at : ℕ) {first : ℕ} → first ≡ word_at bytes (at + jitter_at) →
    earliest_of fields first ≡ earliest_from fields bytes at
earliest_is Jitter bytes at e = refl
earliest_is Pair bytes at e = e
