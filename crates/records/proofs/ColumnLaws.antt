-- What a right head says of the records and rows behind it, and columns that are filled from the front.
-- Assumes nothing.
use Prim.Native.Nat.{ℕ, ◌+◌, ◌-◌, ◌*◌, ◌≤◌, ◌<◌}
use native.Mathlib.Omega.{arith}
use mathlib.Core.Path.{◌≡◌, refl, sym, ◌∙◌, ap, subst}
use mathlib.Core.List.{List, [], ◌∷◌}
use lib.ListN.{length, set, take, drop, length-set}
use Rattle.model.specs.Lists.{filled}
use Rattle.model.specs.Tables.{Task, Row}
use Rattle.model.proofs.Lists.{length_filled, filled_none}
use Rattle.model.proofs.Filling.{Filling, filling_none, filling_set, filling_at, filled_word}
use Rattle.tables.specs.declared.layout.Layout.{Layout}
use Rattle.tables.specs.Fields.{task_count_field, row_count_field}
use Rattle.tables.specs.Layout.{layout_of, row_count, row_start, task_at, row_at, Sound}
use Rattle.tables.specs.Meaning.{HeadRight}
use Rattle.tables.proofs.LayoutLaws.{layout_sound}
use Rattle.tables.proofs.CheckLaws.{head_right}
use Rattle.records.specs.Reading.{HeadRead}
use Rattle.records.specs.Columns.{RecordColumn, priority_column, period_column, cost_column, deadline_column, spread_column, latest_column, RowColumn, place_column, semaphore_column, longest_column, part, record_columns, row_columns, record_number, row_number, record_in, row_in, Lent, Filled, Holds}
use Rattle.records.proofs.PartLaws.{length_part, part_inside, part_before, part_behind, stored, length_stored, stored_behind, stored_in}

module _ (bytes : List ℕ) (layout : Layout) (n : ℕ) (h : HeadRead bytes layout n) where
  right : HeadRight bytes
  right = head_right bytes h.head

  pub sound : Sound layout
  sound = subst Sound (sym h.decided) (layout_sound bytes right.version)

  -- a byte counts the tasks, and the rows are few
  pub few_tasks_law : n < 256
  few_tasks_law = omega (arith, (right.counts task_count_field).high, (layout_sound bytes right.version).few, h.counted)

  pub few_rows_law : row_count bytes ≤ 64
  few_rows_law = (right.counts row_count_field).high

  -- the rows end where the bytes do
  pub rows_end : row_start layout n (row_count bytes) ≡ length bytes
  rows_end =
      ap (λ (l : Layout). row_start l n (row_count bytes)) h.decided
      ∙ ap (λ (t : ℕ). row_start (layout_of bytes) t (row_count bytes)) h.counted
      ∙ right.lengths.summed

-- the first i words of each column are filled
abbrev pub AllFilling : {C : Type 0} → (C → ℕ → ℕ) → ℕ → ℕ → (C → List ℕ) → (C → List ℕ) → Type 0
AllFilling {C} value n i old new = (c : C) → Filling (value c) n i (old c) (new c)

-- The columns while a table is read: i records and k rows have filled them from the front, and what is behind has stayed.
pub record Taking (table : List ℕ) (room n i m k : ℕ) (old_bytes old_words bytes words : List ℕ) : Type 0 where
  pub tasks_fit : n ≤ room
  pub rows_fit : m ≤ 64
  pub bytes_long : length bytes ≡ room + 128
  pub words_long : length words ≡ 5 * room + 64
  pub of_records : AllFilling (record_in table) n i (record_columns room old_bytes old_words) (record_columns room bytes words)
  pub of_rows : AllFilling (row_in table) m k (row_columns room old_bytes old_words) (row_columns room bytes words)

-- each task that the head counts has room
pub tasks_fit_law : {table : List ℕ} {layout : Layout} {n room : ℕ} {bytes words : List ℕ} → HeadRead table layout n → Lent table room bytes words → n ≤ room
tasks_fit_law h lent = omega (arith, lent.tasks_fit, h.counted)

pub rows_fit_law : {table : List ℕ} {layout : Layout} {n m : ℕ} → HeadRead table layout n → m ≡ row_count table → m ≤ 64
rows_fit_law h counted = omega (arith, few_rows_law _ _ _ h, counted)

-- how long the columns are
module _ {table : List ℕ} {room : ℕ} {bytes words : List ℕ} (lent : Lent table room bytes words) where
  pub records_long : (c : RecordColumn) → length (record_columns room bytes words c) ≡ room
  records_long priority_column = length_part 0 room bytes (omega (arith, lent.bytes_long))
  records_long period_column = length_part (0 * room) room words (omega (arith, lent.words_long))
  records_long cost_column = length_part (1 * room) room words (omega (arith, lent.words_long))
  records_long deadline_column = length_part (2 * room) room words (omega (arith, lent.words_long))
  records_long spread_column = length_part (3 * room) room words (omega (arith, lent.words_long))
  records_long latest_column = length_part (4 * room) room words (omega (arith, lent.words_long))

  pub rows_long : (c : RowColumn) → length (row_columns room bytes words c) ≡ 64
  rows_long place_column = length_part room 64 bytes (omega (arith, lent.bytes_long))
  rows_long semaphore_column = length_part (room + 64) 64 bytes (omega (arith, lent.bytes_long))
  rows_long longest_column = length_part (5 * room) 64 words (omega (arith, lent.words_long))

  -- nothing has been read
  pub taking_none : (n m : ℕ) → n ≤ room → m ≤ 64 → Taking table room n 0 m 0 bytes words bytes words
  taking_none n m tasks_fit rows_fit =
      record {
        tasks_fit = tasks_fit;
        rows_fit = rows_fit;
        bytes_long = lent.bytes_long;
        words_long = lent.words_long;
        of_records = λ c. filling_none _ _ _ (rw (records_long c) tasks_fit);
        of_rows = λ c. filling_none _ _ _ (rw (rows_long c) rows_fit);
      }

module _ {table : List ℕ} {room n i m k : ℕ} {old_bytes old_words bytes words : List ℕ} (s : Taking table room n i m k old_bytes old_words bytes words) where
  -- what is left where the loop stops
  pub taking_at : (a b : ℕ) → a ≡ i → b ≡ k →
      Filled (record_in table) a (record_columns room old_bytes old_words) (record_columns room bytes words)
      × Filled (row_in table) b (row_columns room old_bytes old_words) (row_columns room bytes words)
  taking_at a b e f = (
    record { is = λ c. filling_at _ _ _ _ _ (s.of_records c) _ e },
    record { is = λ c. filling_at _ _ _ _ _ (s.of_rows c) _ f },
  )

  -- one record more: each of its numbers goes into its column
  module _ (h : i < n) (t : Task) where
    abbrev bytes_next : List ℕ
    bytes_next = set bytes i t.priority

    abbrev numbers : List ℕ
    numbers = t.period ∷ t.cost ∷ t.deadline ∷ (t.latest - t.earliest) ∷ t.latest ∷ []

    abbrev words_next : List ℕ
    words_next = stored room i 0 numbers words

    inside : i < room
    inside = omega (arith, s.tasks_fit)

    record_set : (c : RecordColumn) → record_columns room bytes_next words_next c ≡ set (record_columns room bytes words c) i (record_number c t)
    record_set priority_column =
        let first : i ≡ 0 + i = omega arith in
        ap (λ (j : ℕ). part 0 room (set bytes j t.priority)) first ∙ part_inside 0 room bytes i t.priority inside
    record_set period_column = stored_in room i inside 0 0 0 refl numbers words (omega arith)
    record_set cost_column = stored_in room i inside 1 0 1 refl numbers words (omega arith)
    record_set deadline_column = stored_in room i inside 2 0 2 refl numbers words (omega arith)
    record_set spread_column = stored_in room i inside 3 0 3 refl numbers words (omega arith)
    record_set latest_column = stored_in room i inside 4 0 4 refl numbers words (omega arith)

    rows_stay : (c : RowColumn) → row_columns room bytes_next words_next c ≡ row_columns room bytes words c
    rows_stay place_column = part_before room 64 bytes i t.priority (omega (arith, inside))
    rows_stay semaphore_column = part_before (room + 64) 64 bytes i t.priority (omega (arith, inside))
    rows_stay longest_column = stored_behind room i inside 5 64 0 numbers words (omega arith)

    -- the words as they are written
    stored_so :
        set (set (set (set (set words i t.period) (room + i) t.cost) (2 * room + i) t.deadline) (3 * room + i) (t.latest - t.earliest))
        (4 * room + i) t.latest
        ≡ words_next
    stored_so =
        let first : i ≡ 0 * room + i = omega arith in
        let second : room + i ≡ 1 * room + i = omega arith in
        λ j. stored room i 2 (t.deadline ∷ (t.latest - t.earliest) ∷ t.latest ∷ []) (set (set words (first j) t.period) (second j) t.cost)

    pub records_more : t ≡ task_at table i →
        Taking table room n (i + 1) m k old_bytes old_words bytes_next
        (set (set (set (set (set words i t.period) (room + i) t.cost) (2 * room + i) t.deadline) (3 * room + i) (t.latest - t.earliest))
        (4 * room + i) t.latest)
    records_more is =
        rw stored_so
        (record {
          tasks_fit = s.tasks_fit;
          rows_fit = s.rows_fit;
          bytes_long = length-set bytes i t.priority ∙ s.bytes_long;
          words_long = length_stored room i 0 numbers words ∙ s.words_long;
          of_records = λ c. filling_set _ _ _ _ _ _ _ (s.of_records c) h (record_set c) (ap (record_number c) is);
          of_rows = λ c. subst (Filling (row_in table c) m k (row_columns room old_bytes old_words c)) (sym (rows_stay c)) (s.of_rows c);
        })

  -- one row more
  module _ (h : k < m) (r : Row) where
    abbrev bytes_then : List ℕ
    bytes_then = set (set bytes (room + k) r.place) (room + 64 + k) r.semaphore

    abbrev words_then : List ℕ
    words_then = set words (5 * room + k) r.longest

    few : k < 64
    few = omega (arith, s.rows_fit)

    record_stays : (c : RecordColumn) → record_columns room bytes_then words_then c ≡ record_columns room bytes words c
    record_stays priority_column =
        part_behind 0 room (set bytes (room + k) r.place) (room + 64 + k) r.semaphore (omega arith)
        ∙ part_behind 0 room bytes (room + k) r.place (omega arith)
    record_stays period_column = part_behind (0 * room) room words (5 * room + k) r.longest (omega arith)
    record_stays cost_column = part_behind (1 * room) room words (5 * room + k) r.longest (omega arith)
    record_stays deadline_column = part_behind (2 * room) room words (5 * room + k) r.longest (omega arith)
    record_stays spread_column = part_behind (3 * room) room words (5 * room + k) r.longest (omega arith)
    record_stays latest_column = part_behind (4 * room) room words (5 * room + k) r.longest (omega arith)

    row_set : (c : RowColumn) → row_columns room bytes_then words_then c ≡ set (row_columns room bytes words c) k (row_number c r)
    row_set place_column =
        part_behind room 64 (set bytes (room + k) r.place) (room + 64 + k) r.semaphore (omega arith)
        ∙ part_inside room 64 bytes k r.place few
    row_set semaphore_column =
        part_inside (room + 64) 64 (set bytes (room + k) r.place) k r.semaphore few
        ∙ ap (λ (column : List ℕ). set column k r.semaphore) (part_before (room + 64) 64 bytes (room + k) r.place (omega (arith, few)))
    row_set longest_column = part_inside (5 * room) 64 words k r.longest few

    pub rows_more : r ≡ row_at table k → Taking table room n i m (k + 1) old_bytes old_words bytes_then words_then
    rows_more is =
        record {
          tasks_fit = s.tasks_fit;
          rows_fit = s.rows_fit;
          bytes_long = length-set (set bytes (room + k) r.place) (room + 64 + k) r.semaphore ∙ length-set bytes (room + k) r.place ∙ s.bytes_long;
          words_long = length-set words (5 * room + k) r.longest ∙ s.words_long;
          of_records = λ c. subst (Filling (record_in table c) n i (record_columns room old_bytes old_words c)) (sym (record_stays c)) (s.of_records c);
          of_rows = λ c. filling_set _ _ _ _ _ _ _ (s.of_rows c) h (row_set c) (ap (row_number c) is);
        }

-- while the rows are read the costs stay
pub costs_are : {table : List ℕ} {room n m k : ℕ} {old_bytes old_words bytes words : List ℕ} → Taking table room n 0 m k old_bytes old_words bytes words →
    take (2 * room - room) (drop room words) ≡ part (1 * room) room old_words
costs_are {room = room} {old_words = old_words} {words = words} s =
    let long : 2 * room - room ≡ room = omega arith in
    let start : room ≡ 1 * room = omega arith in
    (λ j. take (long j) (drop (start j) words)) ∙ (s.of_records cost_column).is ∙ filled_none _ (part (1 * room) room old_words)

-- a slice whose first words were filled holds them
pub holds_filled : (f : ℕ → ℕ) (n : ℕ) (old new : List ℕ) → new ≡ filled f n old → n ≤ length old → Holds new n f
holds_filled f n old new e h =
    record { long = rw (e, length_filled f n old h) h; read = filled_word f n old new e }
