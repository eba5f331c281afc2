-- A refusal is given only where it is deserved, and a table that breaks no rule is clean.
-- Assumes nothing.
use Rattle.std.specs.Prelude.{Ok, Err}
use Prim.Native.Nat.{ℕ}
use mathlib.Core.Path.{◌≡◌, refl, sym, ◌∙◌, ap, subst}
use mathlib.Core.List.{List}
use mathlib.Core.Logic.{inl, inr}
use lib.Dec.{leb}
use lib.ListN.{length}
use borrow.Author.Tests.{leb-true, le-leb}
use Rattle.model.specs.Choice.{both}
use Rattle.model.proofs.First as first_laws
use Rattle.tables.specs.declared.Refusal.{Refusal}
use Rattle.tables.specs.declared.Refusal.TheVariants.{TooShort, UnknownVersion, CountOutOfRange, LengthsDiffer, NumberOutOfRange, PriorityOutOfOrder, SectionRow, NoRoom, NotPlayable}
use Rattle.tables.specs.Layout.{layout_of, task_count, row_count}
use Rattle.tables.specs.Refusals.{is_clean, unless, first_in}
use Rattle.tables.specs.Fields.{CountField, task_count_field, row_count_field, count_order, count_refusal, RecordField, period_field, cost_field, deadline_field, earliest_field, latest_field, priority_field, record_order, refusal_in_record, RowField, place_field, semaphore_field, longest_field, order_field, row_order, refusal_in_row}
use Rattle.tables.specs.Rules.{lengths_agree}
use Rattle.tables.specs.Checks.{counts_check, record_check, row_check, head_check, records_check, rows_check, body_check, room_check, table_check_spanning, records_read, rows_read}
use Rattle.tables.specs.Meaning.{LongEnough, VersionKnown, CountRight, CountsRight, RecordFieldRight, RowFieldRight, RoomFor, HeadRight, RecordsRight, RowsRight, TableRightSpanning}
use Rattle.tables.specs.Deserved.{Each, CountFault, RecordFault, RowFault, DeservedSpanning}
use Rattle.tables.proofs.FaultLaws.{all_right, all_clean, fault_found, fault_refused}
use Rattle.tables.proofs.FieldLaws.{never_refused, unless_clean, unless_refused, unless_pass, unless_fails, first_clean, both_clean, first_refused, then_refused, stop_refused, broken, fails, each_of, fields_right, fields_clean, fields_refused, broken_refused}
use Rattle.tables.proofs.LayoutLaws.{known_means, known_holds}
use Rattle.tables.proofs.MeaningLaws as meaning

module _ (bytes : List ℕ) where
  -- each group of fields: clean where every field keeps its rule, and only there
  counts_right : counts_check bytes ≡ Ok tt → CountsRight bytes
  unfolding counts_check
  counts_right e field = go field (fields_right (CountRight bytes) _ _ (meaning.count_means bytes) (meaning.count_holds bytes) count_order e)
    where
      go : (field : CountField) → Each (CountRight bytes) count_order → CountRight bytes field
      go task_count_field each = each.0
      go row_count_field each = each.1.0

  counts_clean : CountsRight bytes → counts_check bytes ≡ Ok tt
  unfolding counts_check
  counts_clean right =
      fields_clean (CountRight bytes) _ _ (meaning.count_means bytes) (meaning.count_holds bytes) count_order (each_of (CountRight bytes) right count_order)

  counts_refused : (r : Refusal) → counts_check bytes ≡ Err r → CountFault bytes r
  unfolding counts_check
  counts_refused r e =
      let g = fields_refused (CountRight bytes) _ _ (meaning.count_means bytes) (meaning.count_holds bytes) count_order r e in
      record { field = g.0; first = g.1; given = g.2 }

  counts_give : (r : Refusal) → CountFault bytes r → counts_check bytes ≡ Err r
  unfolding counts_check
  counts_give r f =
      broken_refused (CountRight bytes) _ _ (meaning.count_means bytes) (meaning.count_holds bytes) count_order f.field f.first
      ∙ ap Err (sym f.given)

  row_every : (k : ℕ) → Each (RowFieldRight bytes k) row_order → (field : RowField) → RowFieldRight bytes k field
  row_every k each place_field = each.0
  row_every k each semaphore_field = each.1.0
  row_every k each longest_field = each.1.1.0
  row_every k each order_field = each.1.1.1.0

  pub head_right : head_check bytes ≡ Ok tt → HeadRight bytes
  unfolding head_check first_in
  head_right e =
      let a = first_clean (unless (leb 5 (length bytes)) TooShort) _ e in
      let b = first_clean (unless (layout_of bytes).known UnknownVersion) _ a.1 in
      let c = first_clean (counts_check bytes) _ b.1 in
      let d = first_clean (unless (lengths_agree bytes) LengthsDiffer) _ c.1 in
      record {
        long_enough = leb-true 5 (length bytes) (unless_clean _ _ a.0);
        version = known_means bytes (unless_clean _ _ b.0);
        counts = counts_right c.0;
        lengths = meaning.lengths_mean bytes (unless_clean _ _ d.0);
      }

  pub head_clean : HeadRight bytes → head_check bytes ≡ Ok tt
  unfolding head_check first_in
  head_clean h =
      both_clean _ _ (unless_pass (leb 5 (length bytes)) _ (le-leb 5 (length bytes) h.long_enough))
      (both_clean _ _ (unless_pass (layout_of bytes).known _ (known_holds bytes h.version))
      (both_clean _ _ (counts_clean h.counts)
      (both_clean _ _ (unless_pass (lengths_agree bytes) _ (meaning.lengths_hold bytes h.lengths)) refl)))

  pub rows_right : rows_check bytes ≡ Ok tt → RowsRight bytes (row_count bytes)
  unfolding rows_check row_check
  rows_right e =
      all_right (RowFieldRight bytes) _ (refusal_in_row (layout_of bytes) (task_count bytes)) row_order (meaning.row_means bytes) (meaning.row_holds bytes) row_every (row_count bytes) e

  rows_clean : RowsRight bytes (row_count bytes) → rows_check bytes ≡ Ok tt
  unfolding rows_check row_check
  rows_clean right =
      all_clean (RowFieldRight bytes) _ (refusal_in_row (layout_of bytes) (task_count bytes)) row_order (meaning.row_means bytes) (meaning.row_holds bytes) row_every (row_count bytes) right

  rows_refused : (r : Refusal) → rows_check bytes ≡ Err r → RowFault bytes r
  unfolding rows_check row_check
  rows_refused r e =
      fault_found (RowFieldRight bytes) _ (refusal_in_row (layout_of bytes) (task_count bytes)) row_order (meaning.row_means bytes) (meaning.row_holds bytes) row_every (row_count bytes) r e

  rows_give : (r : Refusal) → RowFault bytes r → rows_check bytes ≡ Err r
  unfolding rows_check row_check
  rows_give r f =
      fault_refused (RowFieldRight bytes) _ (refusal_in_row (layout_of bytes) (task_count bytes)) row_order (meaning.row_means bytes) (meaning.row_holds bytes) row_every (row_count bytes) r f

  -- where no row is at fault, all are read
  pub rows_all : rows_check bytes ≡ Ok tt → rows_read bytes ≡ row_count bytes
  unfolding rows_check
  rows_all e = first_laws.count_on is_clean (Ok tt) refl (row_check bytes) (row_count bytes) e

module _ (span : ℕ) (bytes : List ℕ) where
  record_every : (i : ℕ) → Each (RecordFieldRight span bytes i) record_order → (field : RecordField) → RecordFieldRight span bytes i field
  record_every i each period_field = each.0
  record_every i each cost_field = each.1.0
  record_every i each deadline_field = each.1.1.0
  record_every i each earliest_field = each.1.1.1.0
  record_every i each latest_field = each.1.1.1.1.0
  record_every i each priority_field = each.1.1.1.1.1.0

  pub records_right : records_check span bytes ≡ Ok tt → RecordsRight span bytes (task_count bytes)
  unfolding records_check record_check
  records_right e =
      all_right (RecordFieldRight span bytes) _ (refusal_in_record (layout_of bytes)) record_order (meaning.record_means bytes span) (meaning.record_holds bytes span) record_every (task_count bytes) e

  records_clean : RecordsRight span bytes (task_count bytes) → records_check span bytes ≡ Ok tt
  unfolding records_check record_check
  records_clean right =
      all_clean (RecordFieldRight span bytes) _ (refusal_in_record (layout_of bytes)) record_order (meaning.record_means bytes span) (meaning.record_holds bytes span) record_every (task_count bytes) right

  records_refused : (r : Refusal) → records_check span bytes ≡ Err r → RecordFault span bytes r
  unfolding records_check record_check
  records_refused r e =
      fault_found (RecordFieldRight span bytes) _ (refusal_in_record (layout_of bytes)) record_order (meaning.record_means bytes span) (meaning.record_holds bytes span) record_every (task_count bytes) r e

  records_give : (r : Refusal) → RecordFault span bytes r → records_check span bytes ≡ Err r
  unfolding records_check record_check
  records_give r f =
      fault_refused (RecordFieldRight span bytes) _ (refusal_in_record (layout_of bytes)) record_order (meaning.record_means bytes span) (meaning.record_holds bytes span) record_every (task_count bytes) r f

  -- and so for the records
  pub records_all : records_check span bytes ≡ Ok tt → records_read span bytes ≡ task_count bytes
  unfolding records_check
  records_all e = first_laws.count_on is_clean (Ok tt) refl (record_check span bytes) (task_count bytes) e

  -- what stands behind the head
  pub body_right : body_check span bytes ≡ Ok tt → (records_check span bytes ≡ Ok tt) × (rows_check bytes ≡ Ok tt)
  unfolding body_check first_in
  body_right e =
      let a = first_clean (records_check span bytes) _ e in
      (a.0, (first_clean (rows_check bytes) _ a.1).0)

  pub body_clean : records_check span bytes ≡ Ok tt → rows_check bytes ≡ Ok tt → body_check span bytes ≡ Ok tt
  unfolding body_check first_in
  body_clean records rows = both_clean _ _ records (both_clean _ _ rows refl)

  -- a table whose head and body are clean breaks no rule
  pub read_right : head_check bytes ≡ Ok tt → body_check span bytes ≡ Ok tt → TableRightSpanning span bytes
  read_right head body =
      let b = body_right body in
      record { head = head_right bytes head; records = records_right b.0; rows = rows_right bytes b.1 }

  module _ (answers rounds : ℕ) where
    -- a table that breaks no rule, with room, is not refused
    pub table_clean : TableRightSpanning span bytes → RoomFor bytes answers rounds → table_check_spanning span bytes answers rounds ≡ Ok tt
    unfolding table_check_spanning first_in room_check
    table_clean t room =
        both_clean _ _ (head_clean bytes t.head)
        (both_clean _ _ (body_clean (records_clean t.records) (rows_clean bytes t.rows))
        (both_clean _ _ (unless_pass _ _ (meaning.room_holds bytes answers rounds room)) refl))

    -- what is accepted breaks no rule
    pub table_right : table_check_spanning span bytes answers rounds ≡ Ok tt → TableRightSpanning span bytes × RoomFor bytes answers rounds
    unfolding table_check_spanning first_in room_check
    table_right e =
        let a = first_clean (head_check bytes) _ e in
        let b = first_clean (body_check span bytes) _ a.1 in
        let c = first_clean (room_check bytes answers rounds) _ b.1 in
        (read_right a.0 b.0, meaning.room_means bytes answers rounds (unless_clean _ _ c.0))

    deserve : {r s : Refusal} → s ≡ r → DeservedSpanning span bytes answers rounds s → DeservedSpanning span bytes answers rounds r
    deserve e d = subst (DeservedSpanning span bytes answers rounds) e d

    -- a refusal that is a field's is one of 3, of 5 and 6, or of 7
    count_deserved : (r : Refusal) → LongEnough bytes → VersionKnown bytes → CountFault bytes r → DeservedSpanning span bytes answers rounds r
    count_deserved r long version f = deserve (sym f.given) (go f.field (subst (CountFault bytes) f.given f))
      where
        go : (field : CountField) → CountFault bytes (count_refusal field) → DeservedSpanning span bytes answers rounds (count_refusal field)
        go task_count_field own = (long, version, own)
        go row_count_field own = (long, version, own)

    record_deserved : (r : Refusal) → HeadRight bytes → RecordFault span bytes r → DeservedSpanning span bytes answers rounds r
    record_deserved r head f = deserve (sym f.given) (go f.field (subst (RecordFault span bytes) f.given f))
      where
        go : (field : RecordField) → RecordFault span bytes (refusal_in_record (layout_of bytes) f.i field) → DeservedSpanning span bytes answers rounds (refusal_in_record (layout_of bytes) f.i field)
        go period_field own = (head, own)
        go cost_field own = (head, own)
        go deadline_field own = (head, own)
        go earliest_field own = (head, own)
        go latest_field own = (head, own)
        go priority_field own = (head, own)

    row_deserved : (r : Refusal) → HeadRight bytes → RecordsRight span bytes (task_count bytes) → RowFault bytes r → DeservedSpanning span bytes answers rounds r
    row_deserved r head records f = deserve (sym f.given) (go f.field (subst (RowFault bytes) f.given f))
      where
        go : (field : RowField) → RowFault bytes (refusal_in_row (layout_of bytes) (task_count bytes) f.i field) → DeservedSpanning span bytes answers rounds (refusal_in_row (layout_of bytes) (task_count bytes) f.i field)
        go place_field own = (head, records, own)
        go semaphore_field own = (head, records, own)
        go longest_field own = (head, records, own)
        go order_field own = (head, records, own)

    head_deserved : (r : Refusal) → head_check bytes ≡ Err r → DeservedSpanning span bytes answers rounds r
    unfolding head_check first_in
    head_deserved r e =
        elim (first_refused (unless (leb 5 (length bytes)) TooShort) _ e) [
          | inl p ↦
              let u = unless_refused (leb 5 (length bytes)) _ _ p in
              deserve u.1 (broken (le-leb 5 (length bytes)) u.0)
          | inr p ↦
              let long = leb-true 5 (length bytes) (unless_clean _ _ p.0) in
              elim (first_refused (unless (layout_of bytes).known UnknownVersion) _ p.1) [
                | inl q ↦
                    let u = unless_refused (layout_of bytes).known _ _ q in
                    deserve u.1 (long, broken (known_holds bytes) u.0)
                | inr q ↦
                    let version = known_means bytes (unless_clean _ _ q.0) in
                    elim (first_refused (counts_check bytes) _ q.1) [
                      | inl s ↦ count_deserved r long version (counts_refused bytes r s)
                      | inr s ↦
                          let counts = counts_right bytes s.0 in
                          elim (first_refused (unless (lengths_agree bytes) LengthsDiffer) (Ok tt) s.1) [
                            | inl t ↦
                                let u = unless_refused (lengths_agree bytes) _ _ t in
                                deserve u.1 (long, version, counts, broken (meaning.lengths_hold bytes) u.0)
                            | inr t ↦ absurd (never_refused t.1)
                          ]
                    ]
              ]
        ]

    body_deserved : (r : Refusal) → HeadRight bytes → body_check span bytes ≡ Err r → DeservedSpanning span bytes answers rounds r
    unfolding body_check first_in
    body_deserved r head e =
        elim (first_refused (records_check span bytes) _ e) [
          | inl p ↦ record_deserved r head (records_refused r p)
          | inr p ↦
              elim (first_refused (rows_check bytes) (Ok tt) p.1) [
                | inl q ↦ row_deserved r head (records_right p.0) (rows_refused bytes r q)
                | inr q ↦ absurd (never_refused q.1)
              ]
        ]

    -- a refusal is given only where it is deserved
    pub table_deserved : (r : Refusal) → table_check_spanning span bytes answers rounds ≡ Err r → DeservedSpanning span bytes answers rounds r
    unfolding table_check_spanning first_in room_check
    table_deserved r e =
        elim (first_refused (head_check bytes) _ e) [
          | inl p ↦ head_deserved r p
          | inr p ↦
              elim (first_refused (body_check span bytes) _ p.1) [
                | inl q ↦ body_deserved r (head_right bytes p.0) q
                | inr q ↦
                    elim (first_refused (room_check bytes answers rounds) (Ok tt) q.1) [
                      | inl t ↦
                          let u = unless_refused (both (leb (task_count bytes) answers) (leb (task_count bytes) rounds)) _ _ t in
                          deserve u.1 (read_right p.0 q.0, broken (meaning.room_holds bytes answers rounds) u.0)
                      | inr t ↦ absurd (never_refused t.1)
                    ]
              ]
        ]

    long_passes : LongEnough bytes → unless (leb 5 (length bytes)) TooShort ≡ Ok tt
    long_passes h = unless_pass (leb 5 (length bytes)) TooShort (le-leb 5 (length bytes) h)

    version_passes : VersionKnown bytes → unless (layout_of bytes).known UnknownVersion ≡ Ok tt
    version_passes h = unless_pass (layout_of bytes).known UnknownVersion (known_holds bytes h)

    from_head : (r : Refusal) → head_check bytes ≡ Err r → table_check_spanning span bytes answers rounds ≡ Err r
    unfolding table_check_spanning first_in
    from_head r p = stop_refused (head_check bytes) _ r p

    from_body : (r : Refusal) → HeadRight bytes → body_check span bytes ≡ Err r → table_check_spanning span bytes answers rounds ≡ Err r
    unfolding table_check_spanning first_in
    from_body r head p = then_refused (head_check bytes) _ r (head_clean bytes head) (stop_refused (body_check span bytes) _ r p)

    from_records : (r : Refusal) → HeadRight bytes → RecordFault span bytes r → table_check_spanning span bytes answers rounds ≡ Err r
    unfolding body_check first_in
    from_records r head f = from_body r head (stop_refused (records_check span bytes) _ r (records_give r f))

    from_rows : (r : Refusal) → HeadRight bytes → RecordsRight span bytes (task_count bytes) → RowFault bytes r →
        table_check_spanning span bytes answers rounds ≡ Err r
    unfolding body_check first_in
    from_rows r head records f =
        from_body r head
        (then_refused (records_check span bytes) _ r (records_clean records) (stop_refused (rows_check bytes) _ r (rows_give bytes r f)))

    -- a refusal that is deserved is given
    pub table_gives : (r : Refusal) → DeservedSpanning span bytes answers rounds r → table_check_spanning span bytes answers rounds ≡ Err r
    unfolding head_check first_in table_check_spanning room_check
    table_gives TooShort d =
        from_head TooShort
        (stop_refused _ _ TooShort (unless_fails (leb 5 (length bytes)) TooShort (fails (leb 5 (length bytes)) (leb-true 5 (length bytes)) d)))
    table_gives UnknownVersion d =
        from_head UnknownVersion
        (then_refused _ _ UnknownVersion (long_passes d.0)
        (stop_refused _ _ UnknownVersion
        (unless_fails (layout_of bytes).known UnknownVersion
        (fails (layout_of bytes).known (known_means bytes) d.1))))
    table_gives (CountOutOfRange place) d =
        from_head (CountOutOfRange place)
        (then_refused _ _ (CountOutOfRange place) (long_passes d.0)
        (then_refused _ _ (CountOutOfRange place) (version_passes d.1)
        (stop_refused _ _ (CountOutOfRange place) (counts_give bytes (CountOutOfRange place) d.2))))
    table_gives LengthsDiffer d =
        from_head LengthsDiffer
        (then_refused _ _ LengthsDiffer (long_passes d.0)
        (then_refused _ _ LengthsDiffer (version_passes d.1)
        (then_refused _ _ LengthsDiffer (counts_clean bytes d.2)
        (stop_refused _ _ LengthsDiffer
        (unless_fails (lengths_agree bytes) LengthsDiffer (fails (lengths_agree bytes) (meaning.lengths_mean bytes) d.3))))))
    table_gives (NumberOutOfRange place) d = from_records (NumberOutOfRange place) d.0 d.1
    table_gives (PriorityOutOfOrder place) d = from_records (PriorityOutOfOrder place) d.0 d.1
    table_gives (SectionRow place) d = from_rows (SectionRow place) d.0 d.1 d.2
    table_gives NoRoom d =
        then_refused (head_check bytes) _ NoRoom (head_clean bytes d.0.head)
        (then_refused (body_check span bytes) _ NoRoom (body_clean (records_clean d.0.records) (rows_clean bytes d.0.rows))
        (stop_refused (room_check bytes answers rounds) (Ok tt) NoRoom
        (unless_fails _ NoRoom
        (fails (both (leb (task_count bytes) answers) (leb (task_count bytes) rounds)) (meaning.room_means bytes answers rounds) d.1))))
    table_gives NotPlayable d = absurd d
