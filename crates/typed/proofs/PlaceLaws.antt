-- Which field stands at a byte: by the code's tests, and for each field that a refusal can name.
-- Assumes nothing.
use Prim.Native.Nat.{ℕ, zero, suc, ◌+◌, ◌-◌, ◌*◌, ◌/◌, ◌%◌, ◌≤◌, ◌<◌}
use native.Mathlib.Nat.{div-lt_iff_lt-mul, mul-le-mul}
use native.Mathlib.Omega.{arith}
use mathlib.Core.Path.{◌≡◌, refl, sym, ◌∙◌, ap}
use mathlib.Core.Logic.{inl, inr}
use mathlib.Core.List.{List}
use lib.Dec.{ltb}
use lib.ListN.{length}
use borrow.Author.Tests.{lt-ltb, le-ltb}
use Rattle.tables.specs.declared.layout.DelayFields.{DelayFields}
use Rattle.tables.specs.declared.layout.DelayFields.TheVariants.{Jitter, Pair}
use Rattle.tables.specs.declared.layout.Layout.{Layout}
use Rattle.tables.specs.Fields.{CountField, task_count_field, row_count_field, count_refusal, RecordField, period_field, cost_field, deadline_field, earliest_field, latest_field, priority_field, refusal_in_record, RowField, place_field, semaphore_field, longest_field, order_field, refusal_in_row}
use Rattle.tables.specs.Layout.{layout_for, latest_at, version_one, version_two, version_three}
use Rattle.tables.specs.Meaning.{Known}
use Rattle.tables.specs.Refusals.{place_of}
use Rattle.printing.specs.Text.{bytes_of}
use Rattle.model.proofs.Tests.{bool?, ltb?}
use Rattle.model.proofs.Lists.{get_d_tabulate}
use Rattle.words.specs.Words.{events_of}
use Rattle.typing.specs.declared.lines.Counts.{Counts}
use Rattle.typing.specs.declared.lines.Line.{Line}
use Rattle.typing.specs.declared.lines.Line.TheVariants.{Blank, Filling, Wrong}
use Rattle.typing.specs.Reading.{Typed, Draft, version_for, outcome_at, reading_of}
use Rattle.typing.specs.Kept.{number_at, task_line_kept, row_line_kept, Holds, TypedFits, kept_behind, draft_behind, Ready}
use Rattle.typing.proofs.KeptLaws.{typed_kept}
use Rattle.typed.specs.Bytes.{version_kept}
use Rattle.typed.proofs.AnswerLaws.{version_is}
use Rattle.typed.specs.Places.{said, head_name, record_name, row_name, head_said, row_said, place_said, place_kept, place_answer, line_in, place_typed, place_for, record_field_name, row_field_name, count_field_name, PlaceSaid}

-- the record in which a byte stands
size_some : (behind size tasks : ℕ) → behind < size * tasks → 0 < size
size_some behind zero tasks h = absurd (omega (arith, h))
size_some behind (suc size) tasks h = omega arith

pub record_within : (behind size tasks : ℕ) → behind < size * tasks → (behind / size < tasks) × (0 < size)
record_within behind size tasks h =
    let some = size_some behind size tasks h in
    ((div-lt_iff_lt-mul {k = size} {x = behind} {y = tasks} some).1 (omega (arith, h)), some)

-- the records of a table that can be typed
pub records_small : (size tasks : ℕ) → size ≤ 21 → tasks ≤ 200 → size * tasks ≤ 4200
records_small size tasks p q =
    let product : size * tasks ≤ 21 * 200 = mul-le-mul p q in
    omega (arith, product)

module _ (counts : Counts) (version : ℕ) (places : List ℕ) (place : ℕ) where
  pub in_head_law : place < 5 → head_said (number_at places 0) place ≡ place_kept counts version places place
  unfolding place_said
  in_head_law h = sym (rw (lt-ltb place 5 h))

  pub in_record_law : {layout : Layout} → layout ≡ layout_for version → 5 ≤ place → place - 5 < layout.size * counts.tasks →
      said (number_at places (65 + (place - 5) / layout.size)) (record_name layout.delays ((place - 5) % layout.size))
      ≡ place_kept counts version places place
  unfolding place_said
  in_record_law {layout} e low h =
      rw (← e) (sym (rw (le-ltb place 5 low, lt-ltb (place - 5) (layout.size * counts.tasks) h)))

  pub in_row_law : {layout : Layout} → layout ≡ layout_for version → 5 ≤ place → layout.size * counts.tasks ≤ place - 5 →
      row_said counts.sections (row_line_kept places) (place - 5 - layout.size * counts.tasks) ≡ place_kept counts version places place
  unfolding place_said
  in_row_law {layout} e low h =
      rw (← e) (sym (rw (le-ltb place 5 low, le-ltb (place - 5) (layout.size * counts.tasks) h)))

-- a byte of record i
module _ (layout : Layout) (tasks sections version_line : ℕ) (task_line row_line : ℕ → ℕ) where
  record_said : (i at : ℕ) → i < tasks → at < layout.size → (layout.size * i + at) / layout.size ≡ i → (layout.size * i + at) % layout.size ≡ at →
      layout.size * i + at < layout.size * tasks →
      place_said layout tasks sections version_line task_line row_line (5 + layout.size * i + at) ≡ said (task_line i) (record_name layout.delays at)
  unfolding place_said
  record_said i at h within quotient rest room =
      let behind : 5 + layout.size * i + at - 5 ≡ layout.size * i + at = omega arith in
      rw (le-ltb (5 + layout.size * i + at) 5 (omega arith), behind, lt-ltb (layout.size * i + at) (layout.size * tasks) room, quotient, rest)

  row_said_law : (k at : ℕ) → k < sections → at < 6 →
      place_said layout tasks sections version_line task_line row_line (5 + layout.size * tasks + 6 * k + at) ≡ said (row_line k) (row_name at)
  unfolding place_said row_said
  row_said_law k at h within =
      let behind : 5 + layout.size * tasks + 6 * k + at - 5 ≡ layout.size * tasks + 6 * k + at = omega arith in
      let rest : layout.size * tasks + 6 * k + at - layout.size * tasks ≡ 6 * k + at = omega arith in
      let quotient : (6 * k + at) / 6 ≡ k = omega arith in
      let remainder : (6 * k + at) % 6 ≡ at = omega arith in
      rw (
        le-ltb (5 + layout.size * tasks + 6 * k + at) 5 (omega arith),
        behind,
        le-ltb (layout.size * tasks + 6 * k + at) (layout.size * tasks) (omega arith),
        rest,
        quotient,
        remainder,
        lt-ltb k sections h,
      )

-- where each field begins in its record, with its name
record FieldThere (layout : Layout) (field : RecordField) : Type 0 where
  at : ℕ
  within : at < layout.size
  place : (i : ℕ) → place_of (refusal_in_record layout i field) ≡ 5 + layout.size * i + at
  name : record_name layout.delays at ≡ record_field_name layout.delays field

field_one : (field : RecordField) → FieldThere version_one field
unfolding record_name
field_one priority_field = record { at = 0; within = omega arith; place = λ i. refl; name = refl }
field_one period_field = record { at = 1; within = omega arith; place = λ i. refl; name = refl }
field_one cost_field = record { at = 5; within = omega arith; place = λ i. refl; name = refl }
field_one deadline_field = record { at = 9; within = omega arith; place = λ i. refl; name = refl }
field_one earliest_field = record { at = 13; within = omega arith; place = λ i. refl; name = refl }
field_one latest_field = record { at = 13; within = omega arith; place = λ i. refl; name = refl }

-- versions 2 and 3 have the same records
field_pair : (layout : Layout) → layout.size ≡ 21 → layout.delays ≡ Pair → (field : RecordField) → FieldThere layout field
unfolding record_name
field_pair layout size delays priority_field = record { at = 0; within = omega (arith, size); place = λ i. refl; name = refl }
field_pair layout size delays period_field = record { at = 1; within = omega (arith, size); place = λ i. refl; name = refl }
field_pair layout size delays cost_field = record { at = 5; within = omega (arith, size); place = λ i. refl; name = refl }
field_pair layout size delays deadline_field = record { at = 9; within = omega (arith, size); place = λ i. refl; name = refl }
field_pair layout size delays earliest_field = record { at = 13; within = omega (arith, size); place = λ i. refl; name = rw delays }
field_pair layout size delays latest_field =
    record { at = 17; within = omega (arith, size); place = λ i. ap (λ (d : DelayFields). 5 + layout.size * i + latest_at d) delays; name = rw delays }

in_one_law : (tasks sections version_line : ℕ) (task_line row_line : ℕ → ℕ) (i : ℕ) (field : RecordField) → i < tasks →
    place_said version_one tasks sections version_line task_line row_line (place_of (refusal_in_record version_one i field)) ≡ said (task_line i) (record_field_name Jitter field)
in_one_law tasks sections version_line task_line row_line i field h =
    let there = field_one field in
    let at = there.at in
    let small : at < 17 = there.within in
    let quotient : (17 * i + at) / 17 ≡ i = omega (arith, small) in
    let rest : (17 * i + at) % 17 ≡ at = omega (arith, small) in
    ap (place_said version_one tasks sections version_line task_line row_line) (there.place i)
    ∙ record_said version_one tasks sections version_line task_line row_line i at h small quotient rest (omega (arith, small, h))
    ∙ ap (said (task_line i)) there.name

pair_quotient : (size i at : ℕ) → size ≡ 21 → at < 21 → (size * i + at) / size ≡ i
pair_quotient size i at e small = rw e (omega (arith, small))

pair_rest : (size i at : ℕ) → size ≡ 21 → at < 21 → (size * i + at) % size ≡ at
pair_rest size i at e small = rw e (omega (arith, small))

pair_room : (size i at tasks : ℕ) → size ≡ 21 → at < 21 → i < tasks → size * i + at < size * tasks
pair_room size i at tasks e small h = rw e (omega (arith, small, h))

in_pair : (layout : Layout) (tasks sections version_line : ℕ) (task_line row_line : ℕ → ℕ) (i : ℕ) (field : RecordField) → layout.size ≡ 21 →
    layout.delays ≡ Pair → i < tasks →
    place_said layout tasks sections version_line task_line row_line (place_of (refusal_in_record layout i field)) ≡ said (task_line i) (record_field_name layout.delays field)
in_pair layout tasks sections version_line task_line row_line i field size delays h =
    let there = field_pair layout size delays field in
    let at = there.at in
    let small : at < 21 = omega (arith, there.within, size) in
    ap (place_said layout tasks sections version_line task_line row_line) (there.place i)
    ∙ record_said layout tasks sections version_line task_line row_line i at h there.within (pair_quotient layout.size i at size small)
    (pair_rest layout.size i at size small) (pair_room layout.size i at tasks size small h)
    ∙ ap (said (task_line i)) there.name

-- a field of a row, by its byte
in_row_field : (layout : Layout) (tasks sections version_line : ℕ) (task_line row_line : ℕ → ℕ) (k : ℕ) (field : RowField) → k < sections →
    place_said layout tasks sections version_line task_line row_line (place_of (refusal_in_row layout tasks k field)) ≡ said (row_line k) (row_field_name field)
unfolding row_name
in_row_field layout tasks sections version_line task_line row_line k place_field h = row_said_law layout tasks sections version_line task_line row_line k 0 h (omega arith)
in_row_field layout tasks sections version_line task_line row_line k semaphore_field h = row_said_law layout tasks sections version_line task_line row_line k 1 h (omega arith)
in_row_field layout tasks sections version_line task_line row_line k longest_field h = row_said_law layout tasks sections version_line task_line row_line k 2 h (omega arith)
in_row_field layout tasks sections version_line task_line row_line k order_field h = row_said_law layout tasks sections version_line task_line row_line k 0 h (omega arith)

in_version : (version tasks sections version_line : ℕ) (task_line row_line : ℕ → ℕ) (i : ℕ) (field : RecordField) → Known version → i < tasks →
    place_said (layout_for version) tasks sections version_line task_line row_line (place_of (refusal_in_record (layout_for version) i field))
    ≡ said (task_line i) (record_field_name (layout_for version).delays field)
unfolding layout_for
in_version version tasks sections version_line task_line row_line i field (inl one) h = rw one (in_one_law tasks sections version_line task_line row_line i field h)
in_version version tasks sections version_line task_line row_line i field (inr (inl two)) h =
    rw two (in_pair version_two tasks sections version_line task_line row_line i field refl refl h)
in_version version tasks sections version_line task_line row_line i field (inr (inr three)) h =
    rw three (in_pair version_three tasks sections version_line task_line row_line i field refl refl h)

in_counts : (layout : Layout) (tasks sections version_line : ℕ) (task_line row_line : ℕ → ℕ) (field : CountField) →
    place_said layout tasks sections version_line task_line row_line (place_of (count_refusal field)) ≡ said 0 (count_field_name field)
unfolding place_said head_said head_name
in_counts layout tasks sections version_line task_line row_line task_count_field = refl
in_counts layout tasks sections version_line task_line row_line row_count_field = refl

of_version_law : (layout : Layout) (tasks sections version_line : ℕ) (task_line row_line : ℕ → ℕ) →
    place_said layout tasks sections version_line task_line row_line 0 ≡ said version_line (bytes_of "version")
unfolding place_said head_said head_name
of_version_law layout tasks sections version_line task_line row_line = refl

-- two ways to the lines of tasks and of sections that agree as far as there are any
module _ (layout : Layout) (tasks sections version_line : ℕ) (task_line row_line other another : ℕ → ℕ) where
  same_said : ((i : ℕ) → i < tasks → task_line i ≡ other i) → ((k : ℕ) → k < sections → row_line k ≡ another k) → (place : ℕ) →
      place_said layout tasks sections version_line task_line row_line place ≡ place_said layout tasks sections version_line other another place
  unfolding place_said row_said
  same_said tasks_same rows_same place =
      elim (bool? (ltb place 5)) [
        | inl p ↦ rw p
        | inr p ↦
            elim (ltb? (place - 5) (layout.size * tasks)) [
              | inl q ↦
                  rw (p, q.0, tasks_same ((place - 5) / layout.size) (record_within (place - 5) layout.size tasks q.1).0)
              | inr q ↦
                  elim (ltb? ((place - 5 - layout.size * tasks) / 6) sections) [
                    | inl r ↦ rw (p, q.0, r.0, rows_same ((place - 5 - layout.size * tasks) / 6) r.1)
                    | inr r ↦ rw (p, q.0, r.0)
                  ]
            ]
      ]

-- what the slices say is said of what is typed
kept_said : (typed : Typed) (counts : Counts) (numbers places : List ℕ) (place : ℕ) → Holds typed counts numbers places → TypedFits counts typed →
    place_kept counts (version_kept counts (number_at numbers 0)) places place ≡ place_typed (version_for counts typed.version) typed place
kept_said typed counts numbers places place h f =
    rw (version_is typed counts numbers places h f, h.version_line, f.task_count, f.row_count)
    (same_said (layout_for (version_for counts typed.version)) counts.tasks counts.sections typed.version_line (task_line_kept places) (row_line_kept places)
    (line_in typed.task_lines) (line_in typed.row_lines)
    (λ i l.
    sym (get_d_tabulate (task_line_kept places) counts.tasks i 0 l) ∙ ap (λ (lines : List ℕ). line_in lines i) h.task_lines)
    (λ k l.
    sym (get_d_tabulate (row_line_kept places) counts.sections k 0 l) ∙ ap (λ (lines : List ℕ). line_in lines k) h.row_lines)
    place)

by_line : (line : Line) (draft : Draft) (numbers places : List ℕ) (place : ℕ) →
    Holds draft.typed draft.state.counts numbers places → TypedFits draft.state.counts draft.typed →
    place_answer line draft.state numbers places place ≡ place_for (outcome_at line draft) place
by_line Blank draft numbers places place h f = kept_said draft.typed draft.state.counts numbers places place h f
by_line (Filling kind count) draft numbers places place h f = kept_said draft.typed draft.state.counts numbers places place h f
by_line (Wrong fault) draft numbers places place h f = refl

kept_behind_law : (numbers places text : List ℕ) (place : ℕ) → Ready numbers places →
    place_answer (kept_behind numbers places (events_of text)).state.line (kept_behind numbers places (events_of text)).state
    (kept_behind numbers places (events_of text)).numbers (kept_behind numbers places (events_of text)).places place
    ≡ place_for (reading_of text) place
unfolding reading_of
kept_behind_law numbers places text place r =
    rw (typed_kept.same numbers places (events_of text) r)
    (by_line (draft_behind (events_of text)).state.line (draft_behind (events_of text)) (kept_behind numbers places (events_of text)).numbers
    (kept_behind numbers places (events_of text)).places place (typed_kept.holds numbers places (events_of text) r) (typed_kept.fits (events_of text)))

pub place_said_right : PlaceSaid
place_said_right =
    record {
      kept = kept_behind_law;
      in_record = λ version typed i field known h.
          in_version version (length typed.tasks) (length typed.rows) typed.version_line (line_in typed.task_lines) (line_in typed.row_lines) i field known h;
      in_row = λ version typed k field h.
          in_row_field (layout_for version) (length typed.tasks) (length typed.rows) typed.version_line (line_in typed.task_lines) (line_in typed.row_lines) k field h;
      in_head = λ version typed field.
          in_counts (layout_for version) (length typed.tasks) (length typed.rows) typed.version_line (line_in typed.task_lines) (line_in typed.row_lines) field;
      of_version = λ version typed.
          of_version_law (layout_for version) (length typed.tasks) (length typed.rows) typed.version_line (line_in typed.task_lines) (line_in typed.row_lines);
    }
