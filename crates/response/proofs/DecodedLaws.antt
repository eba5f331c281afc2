-- Slices that hold a decoded table give the answers of the table that the bytes mean.
-- Assumes nothing.
use Rattle.std.specs.Prelude.{Ok}
use Prim.Native.Nat.{ℕ, suc, ◌+◌, ◌≤◌, ◌<◌}
use native.Mathlib.Omega.{arith}
use mathlib.Core.Path.{◌≡◌, refl, sym, ◌∙◌, ap}
use mathlib.Core.Bool.{true}
use mathlib.Core.List.{List}
use lib.ListN.{length, get_or, replicate, length-replicate, get_or-replicate}
use lib.Seq.{get_or-take}
use lib.Dec.{leb, ltb}
use borrow.Author.Tests.{leb-true}
use Rattle.model.specs.Choice.{both}
use Rattle.model.specs.Lists.{tabulate, gather, filled, largest_to, largest_of, word_of}
use Rattle.model.proofs.Filling.{filled_same}
use Rattle.model.proofs.Gather.{gather_same}
use Rattle.model.proofs.Lists.{largest_high}
use Rattle.model.proofs.Tests.{both_true, on_high}
use Rattle.model.specs.Tables.{Task, Load, task_of, priority_of, load_of, load_from, interferes, loads_of}
use Rattle.tables.specs.Fields.{task_count_field, row_count_field, period_field, cost_field, deadline_field, latest_field, priority_field, place_field, semaphore_field, longest_field, order_field}
use Rattle.tables.specs.Layout.{task_count, row_count, task_at, row_at, tasks_of, table_of, priority_in, place_in}
use Rattle.tables.specs.Meaning.{TableRightSpanning}
use Rattle.tables.specs.Checks.{read_check}
use Rattle.tables.proofs.LayoutLaws.{layout_sound, task_is, priority_at, tasks_count}
use Rattle.records.proofs.ColumnLaws.{holds_filled}
use Rattle.reading.specs.Sizes.{Sizes}
use Rattle.reading.proofs.HeldLaws.{held_right}
use Rattle.equation.specs.declared.Start.{Start}
use Rattle.marks.specs.Marks.{PeriodsHigh}
use Rattle.equation.specs.Slices.{load_at}
use Rattle.blocking.specs.Ceilings.{section, blocking_of}
use Rattle.blocking.specs.Slices.{owner_at, top_at, section_at, blocking_at, RowsHeld}
use Rattle.blocking.specs.Sweep.{Zeros}
use Rattle.blocking.proofs.CeilingLaws.{blocking_agrees}
use Rattle.response.specs.Analysis.{base_of, answer_of, rounds_of}
use Rattle.answering.specs.Slices.{Decoded, decoded, loads_in, answer_in, rounds_in, DecodedFits, slice, Answered}
use Rattle.answering.specs.declared.Verdict.{Verdict}
use Rattle.response.specs.Outcome.{lending, leaving, Outcome}
use Rattle.response.proofs.OutcomeLaws.{answered}
use Rattle.records.specs.Columns.{RecordColumn, priority_column, period_column, cost_column, deadline_column, spread_column, latest_column, RowColumn, place_column, semaphore_column, longest_column, record_columns, Lent, Holds, TableHeld}

pub same_load : (a b : Load) → a.period ≡ b.period → a.cost ≡ b.cost → a.spread ≡ b.spread → a ≡ b
same_load a b period cost spread = λ i. record { period = period i; cost = cost i; spread = spread i }

-- a slice begins with the priorities of a table, and is longer
pub record Ranks (bytes ranks : List ℕ) : Type 0 where
  pub behind : task_count bytes < length ranks
  pub read : (i : ℕ) → i < task_count bytes → get_or ranks i 0 ≡ priority_in bytes i

-- the columns of the records and the blocking of each task, as one decoded table; `ranks` begins with the priorities
abbrev pub decoded_from : (ranks : List ℕ) → (RecordColumn → List ℕ) → (blocked : List ℕ) → Decoded
decoded_from ranks records blocked =
    decoded ranks (records period_column) (records cost_column) (records deadline_column) (records spread_column) (records latest_column) blocked

-- what the test for room says of the tasks that the head counts, and the other way round
pub room_is : (n k answers rounds : ℕ) → n ≡ k → both (leb n answers) (leb n rounds) ≡ true → (k ≤ answers) × (k ≤ rounds)
room_is n k answers rounds e p =
    let b = both_true (leb n answers) (leb n rounds) p in
    (omega (arith, leb-true n answers b.0), omega (arith, leb-true n rounds b.1))

pub room_for : {n k answers rounds : ℕ} → n ≡ k → (k ≤ answers) × (k ≤ rounds) → (n ≤ answers) × (n ≤ rounds)
room_for e room = (omega (arith, room.0), omega (arith, room.1))

-- the priorities, in the bytes that they stand in front of
pub ranks_held_law : {bytes : List ℕ} {room : ℕ} {lent words : List ℕ} → Lent bytes room lent words → {rows : RowColumn → List ℕ} →
    {span : ℕ} → TableHeld span bytes (record_columns room lent words) rows → Ranks bytes lent
ranks_held_law {room = room} {lent = lent} spaces held =
    record {
      behind = omega (arith, spaces.tasks_fit, spaces.bytes_long);
      read = λ k h. sym (get_or-take room lent k 0 (omega (arith, spaces.tasks_fit))) ∙ (held.of_records priority_column).read k h;
    }

-- a slice of zeros that has a word for each of n tasks
pub zeros_lent : {n : ℕ} (room : ℕ) → n ≤ room → Zeros (replicate room 0) n
zeros_lent room few =
    record {
      long = omega (arith, few, length-replicate {A = ℕ} room 0);
      each = λ i h. get_or-replicate {A = ℕ} room i 0 0 (omega (arith, few));
    }

-- columns of zeros
pub columns_lent : {table : List ℕ} {room bytes words : ℕ} → Sizes room bytes words → task_count table ≤ room →
    Lent table room (replicate bytes 0) (replicate words 0)
columns_lent {bytes = bytes} {words = words} sizes few =
    record {
      tasks_fit = few;
      bytes_long = length-replicate {A = ℕ} bytes 0 ∙ sizes.bytes_are;
      words_long = length-replicate {A = ℕ} words 0 ∙ sizes.words_are;
    }

module _ {span : ℕ} (bytes : List ℕ) (records : RecordColumn → List ℕ) (rows : RowColumn → List ℕ) (held : TableHeld span bytes records rows)
    (ranks : List ℕ) (ranks_held : Ranks bytes ranks) (n : ℕ) (tasks_counted : n ≡ task_count bytes) where
  right : TableRightSpanning span bytes
  right = held_right held

  inside : {i : ℕ} → i < n → i < task_count bytes
  inside h = omega (arith, tasks_counted)

  not_rising_law : (i : ℕ) → suc i < n → get_or ranks (suc i) 0 ≤ get_or ranks i 0
  not_rising_law i h =
      rw (ranks_held.read (suc i) (inside h), ranks_held.read i (omega (arith, inside h)))
      ((right.records (suc i) (inside h) priority_field).not_rising i refl)

  priority_is : (k : ℕ) → k < n → get_or ranks k 0 ≡ priority_of (tasks_of bytes) k
  priority_is k l = ranks_held.read k (inside l) ∙ sym (priority_at bytes k (inside l))

  -- no period is above its limit
  pub periods_high : PeriodsHigh (records period_column) n
  periods_high k h = rw ((held.of_records period_column).read k (inside h)) (right.records k (inside h) period_field).high

  -- the sweep
  module _ (m : ℕ) (rows_counted : m ≡ row_count bytes) where
    row_inside : {k : ℕ} → k < m → k < row_count bytes
    row_inside h = omega (arith, rows_counted)

    place_inside : (k : ℕ) → k < m → place_in bytes k < n
    place_inside k h = omega (arith, right.rows k (row_inside h) place_field, tasks_counted)

    pub rows_held : RowsHeld ranks (rows place_column) (rows semaphore_column) (rows longest_column) n m
    rows_held =
        record {
          few = omega (arith, (right.head.counts row_count_field).high, rows_counted);
          priorities_long = omega (arith, ranks_held.behind, tasks_counted);
          places_long = omega (arith, (held.of_rows place_column).long, rows_counted);
          semaphores_long = omega (arith, (held.of_rows semaphore_column).long, rows_counted);
          longest_long = omega (arith, (held.of_rows longest_column).long, rows_counted);
          places_low = λ k h. rw ((held.of_rows place_column).read k (row_inside h)) (place_inside k h);
          semaphores_low = λ k h. rw ((held.of_rows semaphore_column).read k (row_inside h)) (right.rows k (row_inside h) semaphore_field).high;
          not_rising = not_rising_law;
          not_falling = λ k h.
              rw ((held.of_rows place_column).read (suc k) (row_inside h), (held.of_rows place_column).read k (omega (arith, row_inside h)))
              (right.rows (suc k) (row_inside h) order_field k refl).by_place;
        }

    -- what it finds is the blocking of the table that the bytes mean
    swept : (i : ℕ) → i < n → blocking_at ranks (rows place_column) (rows semaphore_column) (rows longest_column) m i ≡ blocking_of (table_of bytes) i
    unfolding blocking_at blocking_of
    swept i h =
        ap (λ (p : ℕ). largest_to (section_at ranks (rows place_column) (rows semaphore_column) (rows longest_column) m p) m) (priority_is i h)
        ∙ blocking_agrees (tasks_of bytes) (row_at bytes) m ranks (rows place_column) (rows semaphore_column) (rows longest_column)
        (λ k l. (held.of_rows place_column).read k (row_inside l)) (λ k l. (held.of_rows semaphore_column).read k (row_inside l)) (λ k l. (held.of_rows longest_column).read k (row_inside l))
        (λ k l. priority_is (place_in bytes k) (place_inside k l))
        (task_of (tasks_of bytes) i).priority
        ∙ ap
        (λ (c : ℕ). largest_of (section (tasks_of bytes) (tabulate (row_at bytes) c) (task_of (tasks_of bytes) i).priority) (tabulate (row_at bytes) c))
        rows_counted

    pub blocking_found : (old left : List ℕ) →
        left ≡ filled (blocking_at ranks (rows place_column) (rows semaphore_column) (rows longest_column) m) n old →
        left ≡ filled (blocking_of (table_of bytes)) (task_count bytes) old
    blocking_found old left e =
        e
        ∙ filled_same (blocking_at ranks (rows place_column) (rows semaphore_column) (rows longest_column) m) (blocking_of (table_of bytes)) n old swept
        ∙ ap (λ (c : ℕ). filled (blocking_of (table_of bytes)) c old) tasks_counted

    longest_high : (k : ℕ) → k < m → get_or (rows longest_column) k 0 ≤ 1000000
    longest_high k h =
        let row = right.rows k (row_inside h) in
        rw ((held.of_rows longest_column).read k (row_inside h))
        (omega (arith, (row longest_field).high, (right.records (place_in bytes k) (row place_field) cost_field).high))

    found_high : (i : ℕ) → blocking_at ranks (rows place_column) (rows semaphore_column) (rows longest_column) m i ≤ 1000000
    unfolding blocking_at
    found_high i =
        let p = get_or ranks i 0 in
        largest_high (section_at ranks (rows place_column) (rows semaphore_column) (rows longest_column) m p) m 1000000
        (λ k h.
        let b =
        both (ltb (owner_at ranks (rows place_column) k) p) (leb p (top_at ranks (rows place_column) (rows semaphore_column) m k)) in
        omega (arith, on_high b (get_or (rows longest_column) k 0), longest_high k h))

  blocking_high : (i : ℕ) → i < n → blocking_of (table_of bytes) i ≤ 1000000
  blocking_high i h = omega (arith, swept (row_count bytes) refl i h, found_high (row_count bytes) refl i)

  -- the columns with the blocking beside them
  module _ (blocked old : List ℕ) (room : n ≤ length old)
      (left : blocked ≡ filled (blocking_of (table_of bytes)) (task_count bytes) old) where
    blocked_held : Holds blocked n (blocking_of (table_of bytes))
    blocked_held =
        holds_filled _ _ _ _ (left ∙ ap (λ (c : ℕ). filled (blocking_of (table_of bytes)) c old) (sym tasks_counted)) room

    pub decoded_fits : DecodedFits (decoded_from ranks records blocked) n
    decoded_fits =
        record {
          loads_fit =
              record {
                few = omega (arith, (right.head.counts task_count_field).high, (layout_sound bytes right.head.version).few, tasks_counted);
                periods_long = omega (arith, (held.of_records period_column).long, tasks_counted);
                costs_long = omega (arith, (held.of_records cost_column).long, tasks_counted);
                spreads_long = omega (arith, (held.of_records spread_column).long, tasks_counted);
                each = λ k h.
                    record {
                      period_low = rw ((held.of_records period_column).read k (inside h)) (right.records k (inside h) period_field).low;
                      cost_high = rw ((held.of_records cost_column).read k (inside h)) (right.records k (inside h) cost_field).high;
                      spread_high = rw ((held.of_records spread_column).read k (inside h)) (omega (arith, (right.records k (inside h) latest_field).high));
                    };
              };
          ranked =
              record {
                few = omega (arith, (right.head.counts task_count_field).high, (layout_sound bytes right.head.version).few, tasks_counted);
                priorities_long = omega (arith, ranks_held.behind, tasks_counted);
                costs_long = omega (arith, (held.of_records cost_column).long, tasks_counted);
                cost_high = λ k h. rw ((held.of_records cost_column).read k (inside h)) (right.records k (inside h) cost_field).high;
                not_rising = not_rising_law;
              };
          deadlines_long = omega (arith, (held.of_records deadline_column).long, tasks_counted);
          latest_long = omega (arith, (held.of_records latest_column).long, tasks_counted);
          held_long = blocked_held.long;
          cost_low = λ i h. rw ((held.of_records cost_column).read i (inside h)) (right.records i (inside h) cost_field).low;
          deadline_high = λ i h.
              let numbers = right.records i (inside h) in
              rw ((held.of_records deadline_column).read i (inside h)) (omega (arith, (numbers deadline_field).high, (numbers period_field).high));
          latest_high = λ i h. rw ((held.of_records latest_column).read i (inside h)) (right.records i (inside h) latest_field).high;
          held_high = λ i h. rw (blocked_held.read i h) (blocking_high i h);
        }

    module _ (i : ℕ) (h : i < n) where
      own : task_of (tasks_of bytes) i ≡ task_at bytes i
      own = task_is bytes i (inside h)

      pub cost_is : get_or (records cost_column) i 0 ≡ (task_of (tasks_of bytes) i).cost
      cost_is = (held.of_records cost_column).read i (inside h) ∙ sym (ap (λ (t : Task). t.cost) own)

      pub blocked_is : get_or blocked i 0 ≡ blocking_of (table_of bytes) i
      blocked_is = blocked_held.read i h

      pub base_is : get_or (records cost_column) i 0 + get_or blocked i 0 ≡ base_of (table_of bytes) i
      base_is = omega (arith, cost_is, blocked_is)

      pub period_is : get_or (records period_column) i 0 ≡ (task_of (tasks_of bytes) i).period
      period_is = (held.of_records period_column).read i (inside h) ∙ sym (ap (λ (t : Task). t.period) own)

      pub loads_agree : loads_in (decoded_from ranks records blocked) n i ≡ loads_of (tasks_of bytes) i
      loads_agree =
          gather_same (interferes (word_of ranks) i) (interferes (priority_of (tasks_of bytes)) i)
          (load_at (records period_column) (records cost_column) (records spread_column)) (load_from (tasks_of bytes)) n
          (λ k l. rw (priority_is i h, priority_is k l) refl)
          (λ k l.
          same_load (load_at (records period_column) (records cost_column) (records spread_column) k) (load_of (task_at bytes k))
          ((held.of_records period_column).read k (inside l))
          ((held.of_records cost_column).read k (inside l))
          ((held.of_records spread_column).read k (inside l))
          ∙ ap load_of (sym (task_is bytes k (inside l))))
          ∙ ap (gather (interferes (priority_of (tasks_of bytes)) i) (load_from (tasks_of bytes))) (tasks_counted ∙ sym (tasks_count bytes))

      pub latest_is : get_or (records latest_column) i 0 ≡ (task_of (tasks_of bytes) i).latest
      latest_is = (held.of_records latest_column).read i (inside h) ∙ sym (ap (λ (t : Task). t.latest) own)

      pub deadline_is : get_or (records deadline_column) i 0 ≡ (task_of (tasks_of bytes) i).deadline
      deadline_is = (held.of_records deadline_column).read i (inside h) ∙ sym (ap (λ (t : Task). t.deadline) own)

      answer_agrees : answer_in (decoded_from ranks records blocked) n i ≡ answer_of (table_of bytes) i
      unfolding answer_in answer_of
      answer_agrees = rw (base_is, loads_agree, latest_is, deadline_is)

      rounds_agree : (start : Start) →
          rounds_in start (decoded_from ranks records blocked) n i ≡ rounds_of start (table_of bytes) i
      unfolding rounds_in rounds_of
      rounds_agree start = rw (base_is, loads_agree, latest_is, deadline_is)

    -- the answers of the columns are the outcome for the bytes
    pub table_answered : read_check 1 bytes ≡ Ok tt → (start : Start) (answers rounds : List ℕ) → (n ≤ length answers) × (n ≤ length rounds) → (v : Verdict)
        (answers_left rounds_left : List ℕ) →
        Answered start (decoded_from ranks records blocked) n v (slice answers answers_left) (slice rounds rounds_left) →
        Outcome start (lending bytes answers rounds) (leaving v answers_left rounds_left)
    table_answered clean start answers rounds room v answers_left rounds_left a =
        answered start bytes answers rounds clean n tasks_counted room.0 room.1 (decoded_from ranks records blocked) v
        answers_left rounds_left a answer_agrees (λ i h. rounds_agree i h start)
