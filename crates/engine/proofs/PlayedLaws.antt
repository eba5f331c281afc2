-- Which outcome each check of the play leads to, and what it asks of the columns.
-- Assumes nothing.
use Prim.Native.Nat.{ℕ, zero, suc, ◌+◌, ◌-◌, ◌≤◌, ◌<◌}
use native.Mathlib.Omega.{arith}
use mathlib.Core.Path.{◌≡◌, refl, sym, ◌∙◌, ap, subst}
use mathlib.Core.Bool.{Bool, false, true}
use mathlib.Core.List.{List}
use lib.Dec.{eqb, ltb}
use lib.ListN.{length, take}
use native.Mathlib.Nat.{add-zero}
use native.Mathlib.Numerals.{add-one}
use borrow.Author.Tests.{eq-eqb, ne_eqb, lt-leb, lt-ltb, ltb-true, ltb-false}
use Rattle.std.specs.Prelude.{Some, None, ◌==◌, Ok, Err}
use Rattle.std.specs.List.{position}
use Rattle.std.proofs.lemmas.Bool.Decides.{nat_tests}
use Rattle.machine.proofs.Positions.{first_passes, none_passes}
use Rattle.model.specs.Lists.{filled, largest_to, word_of}
use Rattle.model.specs.Search.{any}
use Rattle.model.proofs.Any.{any_none, any_some}
use Rattle.model.specs.Tables.{Task}
use Rattle.model.proofs.Lists.{largest_same, largest_low, largest_high}
use Rattle.model.proofs.Filling.{filled_same, filled_word}
use Rattle.model.proofs.Tests.{both_fail, both_pass, either_neither}
use Rattle.model.proofs.First.{first_none, first_on, first_stop, first_same}
use Rattle.tables.specs.declared.Refusal.{Refusal}
use Rattle.tables.specs.declared.Refusal.TheVariants.{NoRoom, NotPlayable}
use Rattle.tables.specs.Fields.{task_count_field, period_field, cost_field, deadline_field}
use Rattle.tables.specs.Layout.{layout_of, record_start, task_count, row_count, tasks_of, priority_in, latest_in}
use Rattle.tables.specs.Refusals.{at, first_in, or_else, unless}
use Rattle.tables.specs.Checks.{read_check, table_check}
use Rattle.tables.specs.Meaning.{TableRight}
use Rattle.tables.proofs.LayoutLaws.{layout_sound, next_start, record_inside, start_small, task_is, tasks_count}
use Rattle.tables.proofs.CheckLaws.{read_right}
use Rattle.tables.proofs.OrderLaws.{read_clean, read_decides, room_decides, all_pass}
use Rattle.machine.specs.Machine.{after, played, up_to}
use Rattle.machine.specs.Slices.{TasksHeld, DeadlinesHeld}
use Rattle.machine.proofs.SameLaws.{Same, after_same, played_same}
use Rattle.answering.specs.declared.Verdict.{Verdict}
use Rattle.answering.specs.declared.Verdict.TheVariants as verdict
use Rattle.answering.specs.Results.{is_schedulable, late_at, result_of}
use Rattle.records.specs.Columns.{RecordColumn, period_column, cost_column, deadline_column, latest_column, RowColumn, TableHeld}
use Rattle.engine.specs.Run.{engine_after, engine_answer, periods_of, costs_of, deadlines_of}
use Rattle.engine.specs.Outcome.{Played, tied_at, is_plain, play_check, play_verdict, play_words}
use Rattle.engine.specs.Held.{NumbersHeld}

module _ (bytes : List ℕ) (room : ℕ) where
  -- a refusal of the analysis is the engine's
  pub table_decides : (r : Refusal) → table_check bytes room room ≡ Err r → play_check bytes room ≡ Err r
  unfolding play_check first_in or_else
  table_decides r e = rw e

  module _ (clean : table_check bytes room room ≡ Ok tt) where
    -- else it is refused where it is not plain, and only there
    pub not_plain_law : is_plain bytes ≡ false → play_check bytes room ≡ Err NotPlayable
    unfolding play_check first_in or_else unless
    not_plain_law e = rw (clean, e)

    pub plain_clean : is_plain bytes ≡ true → play_check bytes room ≡ Ok tt
    unfolding play_check first_in or_else unless
    plain_clean e = rw (clean, e)

module _ (bytes answers : List ℕ) where
  -- a refusal leaves the slice as it was
  refused : (r : Refusal) → play_check bytes (length answers) ≡ Err r → Played bytes answers (verdict.Refused r) answers
  unfolding play_verdict play_words
  refused r e = record { verdict_is = rw e; answers_are = rw e }

  pub read_refused : (r : Refusal) → Err r ≡ read_check 1 bytes → Played bytes answers (verdict.Refused r) answers
  read_refused r e = refused r (table_decides bytes (length answers) r (read_decides 1 bytes (length answers) (length answers) r e))

-- four of the columns that hold a table
pub numbers_held : (bytes : List ℕ) (records : RecordColumn → List ℕ) (rows : RowColumn → List ℕ) → TableHeld 1 bytes records rows →
    NumbersHeld bytes (records period_column) (records cost_column) (records deadline_column) (records latest_column)
numbers_held bytes records rows held =
    record {
      clean = held.clean;
      periods_held = held.of_records period_column;
      costs_held = held.of_records cost_column;
      deadlines_held = held.of_records deadline_column;
      latest_held = held.of_records latest_column;
    }

module _ (bytes periods costs deadlines latest : List ℕ) (held : NumbersHeld bytes periods costs deadlines latest) where
  pub right : TableRight bytes
  right =
      let r = read_clean 1 bytes held.clean in
      read_right 1 bytes r.0 r.1

  module _ (n : ℕ) (counted : n ≡ task_count bytes) where
    inside : {p : ℕ} → p < n → p < task_count bytes
    inside h = omega (arith, counted)

    -- the engine's limits are document 01's
    pub tasks_held : TasksHeld periods costs n
    tasks_held =
        record {
          some = omega (arith, (right.head.counts task_count_field).low, counted);
          few = omega (arith, (right.head.counts task_count_field).high, (layout_sound bytes right.head.version).few, counted);
          periods_long = omega (arith, held.periods_held.long, counted);
          costs_long = omega (arith, held.costs_held.long, counted);
          period_low = λ p h. rw (held.periods_held.read p (inside h)) (right.records p (inside h) period_field).low;
          period_high = λ p h. rw (held.periods_held.read p (inside h)) (right.records p (inside h) period_field).high;
          cost_low = λ p h. rw (held.costs_held.read p (inside h)) (right.records p (inside h) cost_field).low;
          cost_high = λ p h. rw (held.costs_held.read p (inside h)) (right.records p (inside h) cost_field).high;
        }

    pub deadlines_held_law : DeadlinesHeld periods deadlines n
    deadlines_held_law =
        record {
          long = omega (arith, held.deadlines_held.long, counted);
          high = λ p h.
              rw (held.periods_held.read p (inside h), held.deadlines_held.read p (inside h))
              (omega (arith, (right.records p (inside h) deadline_field).high));
        }

    -- the largest delay
    delay_is : largest_to (word_of latest) n ≡ largest_to (latest_in bytes) (task_count bytes)
    delay_is =
        largest_same (word_of latest) (latest_in bytes) n (λ p h. held.latest_held.read p (inside h)) ∙ ap (largest_to (latest_in bytes)) counted

    -- no deadline is past 1,000,000
    pub limit_high : (limit : ℕ) → limit ≡ largest_to (word_of deadlines) n → limit ≤ 1000000
    limit_high limit e =
        rw e (largest_high (word_of deadlines) n 1000000
        (λ p h. omega (arith, deadlines_held_law.high p h, tasks_held.period_high p h)))

    -- the numbers of the columns are those of the table's tasks
    same_period : (p : ℕ) → p < n → word_of periods p ≡ periods_of (tasks_of bytes) p
    same_period p h = held.periods_held.read p (inside h) ∙ sym (ap (λ (t : Task). t.period) (task_is bytes p (inside h)))

    same_cost : (p : ℕ) → p < n → word_of costs p ≡ costs_of (tasks_of bytes) p
    same_cost p h = held.costs_held.read p (inside h) ∙ sym (ap (λ (t : Task). t.cost) (task_is bytes p (inside h)))

    -- so the engine holds the same for both after every tick
    pub same_state : (t : ℕ) → Same n (after (word_of periods) (word_of costs) n t) (engine_after (tasks_of bytes) t)
    same_state t =
        subst (λ (m : ℕ). Same n (after (word_of periods) (word_of costs) n t) (after (periods_of (tasks_of bytes)) (costs_of (tasks_of bytes)) m t))
        (counted ∙ sym (tasks_count bytes))
        (after_same (word_of periods) (word_of costs) (periods_of (tasks_of bytes)) (costs_of (tasks_of bytes)) n same_period same_cost
        (omega (arith, tasks_held.few)) tasks_held.cost_low t)

    -- the play of the columns up to the latest deadline is the play of the table's tasks
    same_answer : (limit i : ℕ) → limit ≡ largest_to (word_of deadlines) n → i < n →
        played (word_of periods) (word_of costs) n (up_to limit (word_of deadlines)) i ≡ engine_answer (tasks_of bytes) i
    same_answer limit i e h =
        let within : up_to limit (word_of deadlines) i ≡ word_of deadlines i = omega (arith, e, largest_low (word_of deadlines) n i h) in
        played_same (word_of periods) (word_of costs) (periods_of (tasks_of bytes)) (costs_of (tasks_of bytes)) n same_period same_cost
        (omega (arith, tasks_held.few)) tasks_held.cost_low (up_to limit (word_of deadlines)) (deadlines_of (tasks_of bytes)) i h
        (within ∙ held.deadlines_held.read i (inside h) ∙ sym (ap (λ (t : Task). t.deadline) (task_is bytes i (inside h))))
        ∙ ap (λ (m : ℕ). played (periods_of (tasks_of bytes)) (costs_of (tasks_of bytes)) m (deadlines_of (tasks_of bytes)) i)
        (counted ∙ sym (tasks_count bytes))

    module _ (answers : List ℕ) where
      pub no_room : length answers < n → Played bytes answers (verdict.Refused NoRoom) answers
      no_room h =
          refused bytes answers NoRoom
          (table_decides bytes (length answers) NoRoom
          (room_decides 1 bytes (length answers) (length answers) held.clean n counted (rw (lt-leb n (length answers) h))))

      module _ (room : n ≤ length answers) where
        clean : table_check bytes (length answers) (length answers) ≡ Ok tt
        clean = all_pass 1 bytes (length answers) (length answers) held.clean n counted room room

        -- rows cannot be played, nor can delays
        pub rows_refused : ¬ (row_count bytes ≡ 0) → Played bytes answers (verdict.Refused NotPlayable) answers
        rows_refused some =
            refused bytes answers NotPlayable (not_plain_law bytes (length answers) clean (rw (ne_eqb (row_count bytes) 0 some)))

        pub delay_refused : ltb 0 (largest_to (word_of latest) n) ≡ true → Played bytes answers (verdict.Refused NotPlayable) answers
        delay_refused some =
            refused bytes answers NotPlayable
            (not_plain_law bytes (length answers) clean
            (both_fail (eqb (row_count bytes) 0) _
            (rw (ne_eqb (largest_to (latest_in bytes) (task_count bytes)) 0 (λ e. omega (arith, ltb-true 0 (largest_to (word_of latest) n) some, delay_is, e))) refl)))

        pub tie_refused : any (tied_at (priority_in bytes)) n ≡ true → Played bytes answers (verdict.Refused NotPlayable) answers
        tie_refused tied =
            refused bytes answers NotPlayable
            (not_plain_law bytes (length answers) clean
            (both_fail (eqb (row_count bytes) 0) _
            (both_fail (eqb (largest_to (latest_in bytes) (task_count bytes)) 0) _ (rw (ap (any (tied_at (priority_in bytes))) (sym counted) ∙ tied) refl))))

        -- what has none of them is played
        pub all_played : row_count bytes ≡ 0 → ltb 0 (largest_to (word_of latest) n) ≡ false → any (tied_at (priority_in bytes)) n ≡ false → (limit : ℕ) (left : List ℕ) (v : Verdict) →
            limit ≡ largest_to (word_of deadlines) n →
            left ≡ filled (played (word_of periods) (word_of costs) n (up_to limit (word_of deadlines))) n answers →
            v ≡ result_of (word_of left) n → Played bytes answers v left
        unfolding play_verdict play_words
        all_played bare calm untied limit left v latest_is are result =
            let accepted =
            plain_clean bytes (length answers) clean
            (both_pass (eq-eqb (row_count bytes) 0 bare)
            (both_pass
            (eq-eqb (largest_to (latest_in bytes) (task_count bytes)) 0 (omega (arith, ltb-false 0 (largest_to (word_of latest) n) calm, delay_is)))
            (rw (ap (any (tied_at (priority_in bytes))) (sym counted) ∙ untied) refl))) in
            record {
              verdict_is =
                  rw accepted
                  (result
                  ∙ first_same is_schedulable verdict.Schedulable (late_at (word_of left)) (late_at (engine_answer (tasks_of bytes))) n
                  (λ i h.
                  ap (λ (x : ℕ). late_at (λ k. x) i)
                  (filled_word (played (word_of periods) (word_of costs) n (up_to limit (word_of deadlines))) n answers left are i h
                  ∙ same_answer limit i latest_is h))
                  ∙ ap (result_of (engine_answer (tasks_of bytes))) counted);
              answers_are =
                  rw accepted
                  (are
                  ∙ filled_same (played (word_of periods) (word_of costs) n (up_to limit (word_of deadlines))) (engine_answer (tasks_of bytes)) n answers
                  (λ i h. same_answer limit i latest_is h)
                  ∙ ap (λ (m : ℕ). filled (engine_answer (tasks_of bytes)) m answers) counted);
            }

-- the search for the first answer that is 0
module _ (answers : ℕ → ℕ) where
  result_none : result_of answers 0 ≡ verdict.Schedulable
  result_none = first_none is_schedulable verdict.Schedulable refl (late_at answers)

  result_on : (i : ℕ) → result_of answers i ≡ verdict.Schedulable → ¬ (answers i ≡ 0) → result_of answers (i + 1) ≡ verdict.Schedulable
  result_on i e some =
      first_on is_schedulable verdict.Schedulable refl (late_at answers) i e (rw (ne_eqb (answers i) 0 some))

  result_clear : (i : ℕ) → ((k : ℕ) → k < i → ¬ (answers k ≡ 0)) → result_of answers i ≡ verdict.Schedulable
  result_clear zero some = result_none
  result_clear (suc i) some =
      ap (result_of answers) (sym (add-one i)) ∙ result_on i (result_clear i (λ k h. some k (omega arith))) (some i (omega arith))

  result_late : (i n : ℕ) → ((k : ℕ) → k < i → ¬ (answers k ≡ 0)) → answers i ≡ 0 → i < n → verdict.Late (at i) ≡ result_of answers n
  result_late i n some none h =
      let late : late_at answers i ≡ verdict.Late (at i) = rw (eq-eqb (answers i) 0 none) in
      sym (first_stop is_schedulable verdict.Schedulable refl (late_at answers) i (result_clear i some) (rw late) n h ∙ late)

module _ (answers : List ℕ) (n : ℕ) (room : n ≤ length answers) where
  abbrev is_late : ℕ → Bool
  is_late answer = answer == 0

  late_is : (answer : ℕ) → is_late answer ≡ true → answer ≡ 0
  late_is answer h = grind (arith, nat_tests)

  early_is : (answer : ℕ) → is_late answer ≡ false → ¬ (answer ≡ 0)
  early_is answer h = grind (arith, nat_tests)

  pub late_found : (i : ℕ) → position is_late (take n answers) ≡ Some i → verdict.Late (at i) ≡ result_of (word_of answers) n
  late_found i found =
      let first = first_passes is_late answers n room i found in
      result_late (word_of answers) i n (λ k h. early_is (word_of answers k) (first.2 k h)) (late_is (word_of answers i) first.1) first.0

  pub none_late : position is_late (take n answers) ≡ None → verdict.Schedulable ≡ result_of (word_of answers) n
  none_late missed =
      sym (result_clear (word_of answers) n (λ k h. early_is (word_of answers k) (none_passes is_late answers n room missed k h)))

-- the search for a tie
module _ (priority : ℕ → ℕ) where
  -- the first task has none before it
  tie_first : (n : ℕ) → n < 2 → any (tied_at priority) n ≡ false
  tie_first n few = any_none (tied_at priority) n (λ k h. let first : k ≡ 0 = omega arith in rw first refl)

  pub tie_found : (i n : ℕ) → 1 ≤ i → i < n → priority i ≡ priority (i - 1) → any (tied_at priority) n ≡ true
  tie_found i n low h e = any_some (tied_at priority) n i h (rw (lt-ltb 0 i low, eq-eqb (priority i) (priority (i - 1)) e) refl)

  pub tie_on : (i : ℕ) → 1 ≤ i → any (tied_at priority) i ≡ false → ¬ (priority i ≡ priority (i - 1)) → any (tied_at priority) (i + 1) ≡ false
  unfolding any
  tie_on i low none differs =
      rw add-one (either_neither (any (tied_at priority) i) (tied_at priority i) none
      (both_fail (ltb 0 i) _ (ne_eqb (priority i) (priority (i - 1)) differs)))

  pub tie_none : (i n : ℕ) → any (tied_at priority) i ≡ false → i ≤ n → n ≤ i → false ≡ any (tied_at priority) n
  tie_none i n none low high = sym none ∙ ap (any (tied_at priority)) (omega arith)

-- before the priority of task i is looked at: none before it is that of the task before, and task i − 1 begins at `at`
pub record Looking (bytes : List ℕ) (n i at size : ℕ) : Type 0 where
  pub right : TableRight bytes
  pub counted : n ≡ task_count bytes
  pub none : any (tied_at (priority_in bytes)) i ≡ false
  pub low : 1 ≤ i
  pub within : i ≤ n
  pub here : at ≡ record_start (layout_of bytes) (i - 1)
  pub sized : size ≡ (layout_of bytes).size

-- one task ties with none
pub looking_alone : {bytes : List ℕ} {n : ℕ} → TableRight bytes × (n ≡ task_count bytes) → n < 2 → false ≡ any (tied_at (priority_in bytes)) n
looking_alone {bytes} {n} held few = sym (tie_first (priority_in bytes) n few)

pub looking_first : (bytes : List ℕ) (n size : ℕ) → TableRight bytes × (n ≡ task_count bytes) → size ≡ (layout_of bytes).size → Looking bytes n 1 5 size
looking_first bytes n size held e =
    record {
      right = held.0;
      counted = held.1;
      none = tie_first (priority_in bytes) 1 (omega arith);
      low = omega arith;
      within = omega (arith, (held.0.head.counts task_count_field).low, held.1);
      here = omega arith;
      sized = e;
    }

pub looking_none : {bytes : List ℕ} {n i at size : ℕ} → Looking bytes n i at size → n ≤ i → false ≡ any (tied_at (priority_in bytes)) n
looking_none {bytes} {n} {i} l h = tie_none (priority_in bytes) i n l.none l.within h

module _ {bytes : List ℕ} {n i at size : ℕ} (l : Looking bytes n i at size) (h : i < n) where
  next_is : at + size ≡ record_start (layout_of bytes) i
  next_is =
      let whole : i - 1 + 1 ≡ i = omega (arith, l.low) in
      omega (arith, l.here, l.sized, next_start (layout_of bytes) (i - 1), ap (record_start (layout_of bytes)) whole)

  -- the next record begins within the table, and near its start
  pub next_inside : at + size < length bytes
  next_inside =
      let inside : i < task_count bytes = omega (arith, l.counted) in
      omega (
        arith,
        next_is,
        record_inside (layout_of bytes) inside,
        l.right.head.lengths.summed,
        (layout_sound bytes l.right.head.version).fields,
      )

  pub next_near : at + size ≤ 5360
  next_near =
      let sound = layout_sound bytes l.right.head.version in
      omega (
        arith,
        next_is,
        start_small (layout_of bytes) sound {n = i} (omega (arith, l.counted, (l.right.head.counts task_count_field).high, sound.few)),
      )

  -- what is read there are the two priorities
  own : word_of bytes (at + size) ≡ priority_in bytes i
  own = ap (word_of bytes) (next_is ∙ sym (add-zero (record_start (layout_of bytes) i)))

  before : word_of bytes at ≡ priority_in bytes (i - 1)
  before = ap (word_of bytes) (l.here ∙ sym (add-zero (record_start (layout_of bytes) (i - 1))))

  pub looking_found : word_of bytes (at + size) ≡ word_of bytes at → any (tied_at (priority_in bytes)) n ≡ true
  looking_found e = tie_found (priority_in bytes) i n l.low h (sym own ∙ e ∙ before)

  pub looking_more : ¬ (word_of bytes (at + size) ≡ word_of bytes at) → Looking bytes n (i + 1) (at + size) size
  looking_more differs =
      record {
        right = l.right;
        counted = l.counted;
        none = tie_on (priority_in bytes) i l.low l.none (λ e. differs (own ∙ e ∙ sym before));
        low = omega arith;
        within = omega arith;
        here = let back : i + 1 - 1 ≡ i = omega arith in rw back next_is;
        sized = l.sized;
      }
