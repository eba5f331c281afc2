-- Tables within the rules, as bytes: accepted, read back, and no others.
-- Assumes nothing.
use Prim.Native.Nat.{ℕ, zero, suc, ◌+◌, ◌*◌, ◌/◌, ◌%◌, ◌≤◌, ◌<◌}
use native.Mathlib.Omega.{arith}
use native.Mathlib.Nat.{mul-le-mul}
use mathlib.Core.Path.{◌≡◌, refl, sym, ◌∙◌, ap}
use mathlib.Core.Logic.{inl, inr}
use mathlib.Core.List.{List, [], ◌++◌}
use lib.ListN.{length, length-append}
use Rattle.model.specs.Tables.{Task, Row, Table, no_task, task_of}
use Rattle.tables.specs.declared.layout.DelayFields.{DelayFields}
use Rattle.tables.specs.declared.layout.DelayFields.TheVariants.{Jitter}
use Rattle.tables.specs.Fields.{task_count_field, row_count_field, period_field, cost_field, deadline_field, earliest_field, latest_field, place_field, semaphore_field, longest_field, CountField}
use Rattle.tables.specs.Layout.{layout_for, layout_of, byte_at, half_at, version_of, task_count, row_count, length_for, earliest_from, task_at, row_at, tasks_of, rows_of, table_of, Sound}
use Rattle.tables.specs.Meaning.{Known, CountRight, HeadRight, TableRight}
use Rattle.tables.proofs.LayoutLaws.{layout_sound, task_is, tasks_count, row_is, rows_count}
use Rattle.encoding.specs.Bytes.{head_bytes, record_bytes, row_bytes, joined, encode}
use Rattle.encoding.specs.Statements.{no_row, row_of, Fits, AreBytes, Encoded}
use Rattle.encoding.proofs.JoinLaws.{Stands, stands_from, stands_whole, whole_is, stands_first, stands_second, stands_both, length_joined, stands_each, stands_all}
use Rattle.encoding.proofs.PieceLaws.{Small, record_read, row_read, record_stands, row_stands}
use Rattle.encoding.proofs.RuleLaws.{fields_same, sections_same}
use Rattle.model.proofs.Append.{list_is}
use Rattle.encoding.proofs.ByteLaws.{are_none, are_more, are_both, are_joined, are_record, are_row}

-- a record is as long as its version says
record_sized : (version : ℕ) → Known version → (t : Task) →
    length (record_bytes (layout_for version).delays t) ≡ (layout_for version).size
unfolding layout_for
record_sized version (inl one) t = rw one
record_sized version (inr (inl two)) t = rw two
record_sized version (inr (inr three)) t = rw three

row_sized : (r : Row) → length (row_bytes r) ≡ 6
row_sized r = refl

module _ (version : ℕ) (table : Table) (known : Known version) where
  abbrev sizes : (t : Task) → length (record_bytes (layout_for version).delays t) ≡ (layout_for version).size
  sizes = record_sized version known

  -- the whole, the records in it and the rows behind them
  length_encoded : length (encode version table) ≡ length_for (layout_for version) (length table.tasks) (length table.rows)
  length_encoded =
      omega (
        arith,
        length-append (joined (record_bytes (layout_for version).delays) table.tasks) (joined row_bytes table.rows),
        length_joined (record_bytes (layout_for version).delays) (layout_for version).size sizes table.tasks,
        length_joined row_bytes 6 row_sized table.rows,
      )

  behind_head : Stands (encode version table) 5 (joined (record_bytes (layout_for version).delays) table.tasks ++ joined row_bytes table.rows)
  behind_head =
      stands_from
      (stands_second (encode version table) (head_bytes version (length table.tasks) (length table.rows)) _ 0
      (stands_whole (encode version table)))
      (omega arith)

  records_stand : Stands (encode version table) 5 (joined (record_bytes (layout_for version).delays) table.tasks)
  records_stand = stands_first (encode version table) _ (joined row_bytes table.rows) 5 behind_head

  rows_stand : Stands (encode version table) (5 + (layout_for version).size * length table.tasks) (joined row_bytes table.rows)
  rows_stand =
      stands_from
      (stands_second (encode version table) (joined (record_bytes (layout_for version).delays) table.tasks) (joined row_bytes table.rows) 5
      behind_head)
      (omega (arith, length_joined (record_bytes (layout_for version).delays) (layout_for version).size sizes table.tasks))

module _ (version : ℕ) (table : Table) (fits : Fits version table) where
  abbrev bytes : List ℕ
  bytes = encode version table

  task_small : (i : ℕ) → i < length table.tasks → Small (task_of table.tasks i)
  task_small i h =
      record {
        period = omega (arith, (fits.each_task i h period_field).high);
        cost = omega (arith, (fits.each_task i h cost_field).high);
        deadline = omega (arith, (fits.each_task i h deadline_field).high);
        earliest = omega (arith, (fits.each_task i h earliest_field).high);
        latest = omega (arith, (fits.each_task i h latest_field).high);
      }

  row_small : (k : ℕ) → k < length table.rows → (row_of table.rows k).longest ≤ 1000000
  row_small k h =
      omega (
        arith,
        (fits.each_row k h longest_field).high,
        (fits.each_task (row_of table.rows k).place (fits.each_row k h place_field) cost_field).high,
      )

  task_read : (i : ℕ) → i < length table.tasks → task_at bytes i ≡ task_of table.tasks i
  task_read i h =
      record_read bytes (5 + (layout_for version).size * i) (layout_for version) (task_of table.tasks i)
      (stands_each (record_bytes (layout_for version).delays) (layout_for version).size (record_sized version fits.known) bytes no_task
      table.tasks 5 i h (records_stand version table fits.known))
      (task_small i h)
      (λ e. fits.no_earliest e i h)

  row_read_back : (k : ℕ) → k < length table.rows → row_at bytes k ≡ row_of table.rows k
  row_read_back k h =
      row_read bytes (5 + (layout_for version).size * length table.tasks + 6 * k) (row_of table.rows k)
      (stands_each row_bytes 6 row_sized bytes no_row table.rows (5 + (layout_for version).size * length table.tasks) k h
      (rows_stand version table fits.known))
      (omega (arith, row_small k h))

  read_back_law : table_of bytes ≡ table
  read_back_law = λ i.
      record {
        tasks = list_is (task_at bytes) table.tasks no_task task_read i;
        rows = list_is (row_at bytes) table.rows no_row row_read_back i;
      }

  accepted : TableRight bytes
  accepted =
      record {
        head =
            record {
              long_enough = omega arith;
              version = fits.known;
              counts = counts;
              lengths =
                  record {
                    stated = omega (arith, length_encoded version table fits.known);
                    summed = sym (length_encoded version table fits.known);
                  };
            };
        records = λ i h field.
            fields_same (length table.tasks) (task_of table.tasks) (task_at bytes) (λ j l. sym (task_read j l)) 1 i h field
            (fits.each_task i h field);
        rows = λ k h.
            sections_same (length table.tasks) (task_of table.tasks) (task_at bytes) (λ j l. sym (task_read j l)) (length table.rows)
            (row_of table.rows) (row_at bytes) (λ j l. sym (row_read_back j l)) k h (fits.each_row k h);
      }
    where
      counts : (field : CountField) → CountRight bytes field
      counts task_count_field = fits.tasks
      counts row_count_field = fits.rows

  are_bytes_law : AreBytes bytes
  are_bytes_law =
      are_both (head_bytes version (length table.tasks) (length table.rows)) _ head
      (are_both (joined (record_bytes (layout_for version).delays) table.tasks) _
      (are_joined (record_bytes (layout_for version).delays) table.tasks no_task
      (λ i h. are_record (layout_for version).delays (task_of table.tasks i) (task_small i h) (fits.priorities i h)))
      (are_joined row_bytes table.rows no_row
      (λ k h.
      are_row (row_of table.rows k) (omega (arith, fits.each_row k h place_field, few)) (omega (arith, (fits.each_row k h semaphore_field).high))
      (omega (arith, row_small k h)))))
    where
      sound : Sound (layout_for version)
      sound = layout_sound bytes fits.known

      few : length table.tasks ≤ 200
      few = omega (arith, fits.tasks.high, sound.few)

      short : length_for (layout_for version) (length table.tasks) (length table.rows) ≤ 4589
      short =
          let most : (layout_for version).size * length table.tasks ≤ 21 * 200 = mul-le-mul sound.small few in
          omega (arith, fits.rows.high)

      head : AreBytes (head_bytes version (length table.tasks) (length table.rows))
      head =
          are_more version _ (version_small fits.known)
          (are_more (length_for (layout_for version) (length table.tasks) (length table.rows) / 256) _ (omega (arith, short))
          (are_more (length_for (layout_for version) (length table.tasks) (length table.rows) % 256) _ (omega arith)
          (are_more (length table.tasks) _ (omega (arith, few)) (are_more (length table.rows) [] (omega (arith, fits.rows.high)) are_none))))
        where
          version_small : Known version → version ≤ 255
          version_small (inl one) = omega arith
          version_small (inr (inl two)) = omega arith
          version_small (inr (inr three)) = omega arith

-- what accepted bytes mean
module _ (bytes : List ℕ) (are : AreBytes bytes) (right : TableRight bytes) where
  no_earliest_law : (fields : DelayFields) (start : ℕ) → fields ≡ Jitter → earliest_from fields bytes start ≡ 0
  no_earliest_law fields start e = rw e

  means_fit_law : Fits (version_of bytes) (table_of bytes)
  means_fit_law =
      record {
        known = right.head.version;
        tasks = rw (tasks_count bytes) (right.head.counts task_count_field);
        rows = rw (rows_count bytes) (right.head.counts row_count_field);
        each_task = λ i h field.
            let inside : i < task_count bytes = omega (arith, tasks_count bytes) in
            fields_same (task_count bytes) (task_at bytes) (task_of (tasks_of bytes)) (λ j l. sym (task_is bytes j l)) 1 i inside field (right.records i inside field);
        each_row = λ k h.
            let inside : k < row_count bytes = omega (arith, rows_count bytes) in
            rw (tasks_count bytes)
            (sections_same (task_count bytes) (task_at bytes) (task_of (tasks_of bytes)) (λ j l. sym (task_is bytes j l)) (row_count bytes) (row_at bytes)
            (row_of (rows_of bytes)) (λ j l. sym (row_is bytes no_row j l)) k inside (right.rows k inside));
        priorities = λ i h.
            let inside : i < task_count bytes = omega (arith, tasks_count bytes) in
            rw (task_is bytes i inside) (are.each _);
        no_earliest = λ e i h.
            let inside : i < task_count bytes = omega (arith, tasks_count bytes) in
            rw (task_is bytes i inside) (no_earliest_law (layout_of bytes).delays _ e);
      }

-- the bytes of what they mean are those bytes: a right head is enough, and no rule of a record or a row is needed
module _ (bytes : List ℕ) (are : AreBytes bytes) (head : HeadRight bytes) where
  head_stands : Stands bytes 0 (head_bytes (version_of bytes) (length (tasks_of bytes)) (length (rows_of bytes)))
  head_stands = rw (tasks_count bytes, rows_count bytes) (record { is = each })
    where
      long : length_for (layout_of bytes) (task_count bytes) (row_count bytes) ≡ half_at bytes 1
      long = head.lengths.summed ∙ sym head.lengths.stated

      each : (j : ℕ) → j < 5 → byte_at bytes (0 + j) ≡ byte_at (head_bytes (version_of bytes) (task_count bytes) (row_count bytes)) j
      each zero h = refl
      each (suc zero) h = omega (arith, long, are.each 1, are.each 2)
      each (suc (suc zero)) h = omega (arith, long, are.each 1, are.each 2)
      each (suc (suc (suc zero))) h = refl
      each (suc (suc (suc (suc zero)))) h = refl
      each (suc (suc (suc (suc (suc j))))) h = absurd (omega arith)

  pub only_bytes_law : encode (version_of bytes) (table_of bytes) ≡ bytes
  only_bytes_law =
      whole_is bytes (encode (version_of bytes) (table_of bytes))
      (stands_both bytes (head_bytes (version_of bytes) (length (tasks_of bytes)) (length (rows_of bytes))) _ 0 head_stands
      (stands_both bytes (joined (record_bytes (layout_of bytes).delays) (tasks_of bytes)) (joined row_bytes (rows_of bytes)) 5
      (stands_all (record_bytes (layout_of bytes).delays) (layout_of bytes).size sizes bytes no_task (tasks_of bytes) 5
      (λ i h.
      rw (task_is bytes i (omega (arith, tasks_count bytes)))
      (record_stands bytes are (layout_of bytes) (5 + (layout_of bytes).size * i))))
      (stands_from
      (stands_all row_bytes 6 row_sized bytes no_row (rows_of bytes) (5 + (layout_of bytes).size * task_count bytes)
      (λ k h.
      rw (row_is bytes no_row k (omega (arith, rows_count bytes)))
      (row_stands bytes are (5 + (layout_of bytes).size * task_count bytes + 6 * k))))
      (omega (
        arith,
        ap (λ (n : ℕ). (layout_of bytes).size * n) (tasks_count bytes),
        length_joined (record_bytes (layout_of bytes).delays) (layout_of bytes).size sizes (tasks_of bytes),
      )))))
      (length_encoded (version_of bytes) (table_of bytes) head.version ∙ rw (tasks_count bytes, rows_count bytes) head.lengths.summed)
    where
      sizes : (t : Task) → length (record_bytes (layout_of bytes).delays t) ≡ (layout_of bytes).size
      sizes = record_sized (version_of bytes) head.version

pub encoded : Encoded
encoded =
    record {
      are_bytes = are_bytes_law;
      in_version = λ version table. refl;
      accepted = accepted;
      read_back = read_back_law;
      means_fit = means_fit_law;
      only_bytes = λ bytes are right. only_bytes_law bytes are right.head;
    }
