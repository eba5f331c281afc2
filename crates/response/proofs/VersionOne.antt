-- Version 1 tables keep their answers and rounds.
-- Assumes nothing.
use Prim.Native.Nat.{ℕ, suc, ◌<◌}
use native.Mathlib.Omega.{arith}
use native.Mathlib.Nat.{add-zero}
use mathlib.Core.Path.{◌≡◌, refl, sym, ◌∙◌, ap, subst}
use mathlib.Core.Logic.{inl}
use mathlib.Core.List.{List}
use Rattle.model.specs.Lists.{tabulate}
use Rattle.model.specs.Tables.{Task, Table, Load, task_of, load_of, loads_of, Alone, Falling, more_urgent}
use Rattle.model.proofs.Loads.{alone_loads, falling_alone}
use Rattle.model.proofs.Keep.{map_keep_same}
use Rattle.model.proofs.Tasks.{same_task_law, same_row_law}
use Rattle.tables.specs.declared.layout.Layout.{Layout}
use Rattle.tables.specs.Layout.{byte_at, version_of, version_one, layout_for, layout_of, task_count, row_count, length_for, record_start, record_from, task_at, row_start, row_from, row_at, tasks_of, table_of, priority_in, period_in, deadline_in, earliest_in}
use Rattle.tables.proofs.LayoutLaws.{priority_at, tasks_count}
use Rattle.tables.specs.Fields.{task_count_field, row_count_field, period_field, cost_field, deadline_field, earliest_field, latest_field, priority_field, place_field, semaphore_field, longest_field, order_field}
use Rattle.tables.specs.Meaning.{Within, CountsRight, RecordRight, RowRight, TableRight}
use Rattle.tables.proofs.MeaningLaws.{one_period}
use Rattle.equation.specs.Answer.{answer}
use Rattle.equation.specs.Sequence.{rounds}
use Rattle.equation.specs.declared.Start.{Start}
use Rattle.equation.specs.Starts.{start_from}
use Rattle.response.specs.Analysis.{base_of, answer_of, rounds_of}
use Rattle.response.specs.VersionOne.{record_one, start_one, task_one, row_one, table_one, RecordRules, RowRules, Rules, jitter_of, jitter_load, jitter_loads, answer_one, rounds_one, VersionOneKept}
use Rattle.response.proofs.DecodedLaws.{same_load}
use Rattle.response.proofs.Demands.{answer_word, rounds_word}

module _ (bytes : List ℕ) (one : version_of bytes ≡ 1) where
  layout_is : layout_of bytes ≡ version_one
  unfolding layout_for
  layout_is = rw one

  task_one_law : (i : ℕ) → task_at bytes i ≡ task_one bytes i
  task_one_law i =
      ap (λ (l : Layout). record_from l bytes (record_start l i)) layout_is
      ∙ same_task_law _ (task_one bytes i) (ap (byte_at bytes) (add-zero (record_one i))) refl refl refl refl refl

  row_one_law : (k : ℕ) → row_at bytes k ≡ row_one bytes k
  row_one_law k =
      ap (λ (l : Layout). row_from bytes (row_start l (task_count bytes) k)) layout_is
      ∙ same_row_law _ (row_one bytes k) (ap (byte_at bytes) (add-zero (start_one bytes k))) refl refl

  table_one_law : table_of bytes ≡ table_one bytes
  table_one_law =
      λ j.
      record {
        tasks = tabulate (λ i. task_one_law i j) (task_count bytes);
        rows = tabulate (λ k. row_one_law k j) (row_count bytes);
      }

  tasks_one : task_at bytes ≡ task_one bytes
  tasks_one = λ j i. task_one_law i j

  rows_one : row_at bytes ≡ row_one bytes
  rows_one = λ j k. row_one_law k j

  -- version 1 has no earliest delay, so that its rule holds
  no_earliest_law : (i : ℕ) → earliest_in bytes i ≡ 0
  no_earliest_law i = ap (λ (t : Task). t.earliest) (task_one_law i)

  rules_hold : Falling (tasks_of bytes) → TableRight bytes → Rules bytes (task_at bytes) (row_at bytes)
  rules_hold falling t =
      record {
        long_enough = t.head.long_enough;
        tasks = subst (λ (l : Layout). Within 1 l.most (task_count bytes)) layout_is (t.head.counts task_count_field);
        rows = t.head.counts row_count_field;
        stated = t.head.lengths.stated;
        summed = sym (ap (λ (l : Layout). length_for l (task_count bytes) (row_count bytes)) layout_is) ∙ t.head.lengths.summed;
        records = λ i h.
            let right = t.records i h in
            record {
              period = right period_field;
              cost = right cost_field;
              deadline =
                  subst (λ (most : ℕ). Within 1 most (deadline_in bytes i)) (one_period (period_in bytes i) (right period_field)) (right deadline_field);
              jitter = record { low = omega arith; high = (right latest_field).high };
              positive = (right priority_field).positive;
              falls = λ before e.
                  let next : suc before < task_count bytes = omega arith in
                  omega (
                    arith,
                    falling before (omega (arith, tasks_count bytes)),
                    priority_at bytes (suc before) next,
                    priority_at bytes before (omega arith),
                    ap (priority_in bytes) e,
                  );
            };
        sections = λ k h.
            let right = t.rows k h in
            record { place = right place_field; semaphore = right semaphore_field; longest = right longest_field; rise = right order_field };
      }

  right_holds : Rules bytes (task_at bytes) (row_at bytes) → TableRight bytes
  right_holds r =
      record {
        head =
            record {
              long_enough = r.long_enough;
              version = inl one;
              counts = counts;
              lengths =
                  record {
                    stated = r.stated;
                    summed = ap (λ (l : Layout). length_for l (task_count bytes) (row_count bytes)) layout_is ∙ r.summed;
                  };
            };
        records = λ i h. record_holds i (r.records i h);
        rows = λ k h. row_holds k (r.sections k h);
      }
    where
      counts : CountsRight bytes
      counts task_count_field = subst (λ (l : Layout). Within 1 l.most (task_count bytes)) (sym layout_is) r.tasks
      counts row_count_field = r.rows

      record_holds : (i : ℕ) → RecordRules (task_at bytes) i → RecordRight 1 bytes i
      record_holds i rules period_field = rules.period
      record_holds i rules cost_field = rules.cost
      record_holds i rules deadline_field =
          subst (λ (most : ℕ). Within 1 most (deadline_in bytes i)) (sym (one_period (period_in bytes i) rules.period)) rules.deadline
      record_holds i rules earliest_field = record { low = omega arith; high = omega (arith, no_earliest_law i) }
      record_holds i rules latest_field = record { low = omega (arith, no_earliest_law i); high = rules.jitter.high }
      record_holds i rules priority_field =
          record { positive = rules.positive; not_rising = λ before e. omega (arith, rules.falls before e) }

      row_holds : (k : ℕ) → RowRules (task_count bytes) (task_at bytes) (row_at bytes) k → RowRight bytes k
      row_holds k rules place_field = rules.place
      row_holds k rules semaphore_field = rules.semaphore
      row_holds k rules longest_field = rules.longest
      row_holds k rules order_field = rules.rise

  rules_same : Rules bytes (task_at bytes) (row_at bytes) ≡ Rules bytes (task_one bytes) (row_one bytes)
  rules_same = λ j. Rules bytes (tasks_one j) (rows_one j)

module _ (bytes : List ℕ) (i : ℕ) (alone : Alone (table_one bytes).tasks i) where
  -- where no task has an earliest delay, the difference is the latest
  loads_one : loads_of (table_one bytes).tasks i ≡ jitter_loads (table_one bytes) i
  loads_one =
      alone_loads (table_one bytes).tasks i alone
      ∙ map_keep_same (more_urgent (task_of (table_one bytes).tasks i).priority) load_of jitter_load (task_one bytes) (task_count bytes)
      (λ k. same_load (load_of (task_one bytes k)) (jitter_load (task_one bytes k)) refl refl (omega arith))

  answer_one_law : answer_of (table_one bytes) i ≡ answer_one (table_one bytes) i
  unfolding answer_of
  answer_one_law =
      ap (λ (ls : List Load). answer (base_of (table_one bytes) i) ls (jitter_of (table_one bytes) i) (task_of (table_one bytes).tasks i).deadline)
      loads_one

  rounds_one_law : (start : Start) → rounds_of start (table_one bytes) i ≡ rounds_one start (table_one bytes) i
  unfolding rounds_of
  rounds_one_law start =
      let base = base_of (table_one bytes) i in
      ap
      (λ (ls : List Load).
      rounds base ls (start_from start base ls) (jitter_of (table_one bytes) i) (task_of (table_one bytes).tasks i).deadline)
      loads_one

pub version_one_kept : VersionOneKept
version_one_kept =
    record {
      reads = table_one_law;
      accepts = λ bytes one rules. right_holds bytes one (subst (λ (A : Type 0). A) (sym (rules_same bytes one)) rules);
      refuses = λ bytes one falling right. subst (λ (A : Type 0). A) (rules_same bytes one) (rules_hold bytes one falling right);
      keeps = λ start lent result o accepted one falling i h.
          let alone : Alone (table_one lent.bytes).tasks i =
          subst (λ (t : Table). Alone t.tasks i) (table_one_law lent.bytes one)
          (falling_alone (tasks_of lent.bytes) falling i (omega (arith, tasks_count lent.bytes))) in
          record {
            answer_kept =
                answer_word start lent result o accepted i h
                ∙ ap (λ (t : Table). answer_of t i) (table_one_law lent.bytes one)
                ∙ answer_one_law lent.bytes i alone;
            rounds_kept =
                rounds_word start lent result o accepted i h
                ∙ ap (λ (t : Table). rounds_of start t i) (table_one_law lent.bytes one)
                ∙ rounds_one_law lent.bytes i alone start;
          };
    }
