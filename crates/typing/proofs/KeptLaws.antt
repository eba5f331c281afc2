-- What the lent slices hold behind a text is what is typed in it.
-- Assumes nothing.
use Prim.Native.Nat.{ℕ, zero, suc, ◌+◌, ◌*◌, ◌≤◌, ◌<◌}
use native.Mathlib.Omega.{arith}
use mathlib.Core.Path.{◌≡◌, refl, sym, ◌∙◌, ap}
use mathlib.Core.Bool.{Bool, true, false}
use mathlib.Core.Logic.{inl, inr}
use mathlib.Core.List.{List, [], ◌∷◌, ◌++◌}
use lib.ListN.{length, take, get_or, set, length-append, length-set}
use lib.Seq.{sets, get_or-set_same, get_or-set_other, length-sets, take_all}
use Rattle.model.specs.Lists.{tabulate}
use Rattle.model.specs.Tables.{Task, Row, no_task}
use Rattle.model.proofs.Lists.{tabulate_more, tabulate_none, tabulate_same}
use Rattle.model.proofs.Tests.{bool?, clash}
use Rattle.encoding.specs.Statements.{no_row}
use Rattle.words.specs.Words.{Event, word, line_end}
use Rattle.typing.specs.declared.lines.Kind.{Kind}
use Rattle.typing.specs.declared.lines.Kind.TheVariants.{VersionLine, TaskLine, JitterLine, DelaysLine, SectionLine}
use Rattle.typing.specs.declared.lines.Line.{Line}
use Rattle.typing.specs.declared.lines.Line.TheVariants.{Blank, Filling, Wrong}
use Rattle.typing.specs.declared.lines.Counts.{Counts}
use Rattle.typing.specs.declared.State.{State}
use Rattle.typing.specs.Lines.{no_fields, fields_after, is_whole, whole_line, ended_line}
use Rattle.typing.specs.Reading.{state_begun, state_heard, task_added, counts_with, counts_at_end, state_ended, Typed, field, typed_task, typed_row, with_task, typed_with, typed_at_end, Draft, draft_begun, draft_by, draft_after}
use Rattle.typing.specs.Steps.{numbers_with, places_with, numbers_at_end, places_at_end, Memory, memory, memory_by, memory_after}
use Rattle.typing.specs.Kept.{number_at, task_kept, row_kept, task_line_kept, row_line_kept, Holds, TaskFits, RowFits, TypedFits, Ready, TypedKept}
use Rattle.typing.proofs.LineLaws.{fields_long}
use Rattle.typing.proofs.RoomLaws.{most_tasks, most_sections, Room, room_heard, FieldsFit, fit_heard, no_fields_fit}

-- a run of stores: before it, in it, and behind it
sets_before : (old : List ℕ) (at : ℕ) (values : List ℕ) (k : ℕ) → k < at → number_at (sets old at values) k ≡ number_at old k
sets_before old at [] k h = refl
sets_before old at (v ∷ values) k h =
    sets_before (set old at v) (suc at) values k (omega arith) ∙ get_or-set_other old at k v 0 (λ e. omega (arith, e))

sets_behind : (old : List ℕ) (at : ℕ) (values : List ℕ) (k : ℕ) → at + length values ≤ k → number_at (sets old at values) k ≡ number_at old k
sets_behind old at [] k h = refl
sets_behind old at (v ∷ values) k h =
    sets_behind (set old at v) (suc at) values k (omega arith) ∙ get_or-set_other old at k v 0 (λ e. omega (arith, e))

sets_in : (old : List ℕ) (at : ℕ) (values : List ℕ) (j : ℕ) → j < length values → at + length values ≤ length old →
    number_at (sets old at values) (at + j) ≡ get_or values j 0
sets_in old at [] j h room = absurd (omega arith)
sets_in old at (v ∷ values) zero h room =
    let e : at + 0 ≡ at = omega arith in
    ap (number_at (sets (set old at v) (suc at) values)) e
    ∙ sets_before (set old at v) (suc at) values at (omega arith)
    ∙ get_or-set_same old at v 0 (omega arith)
sets_in old at (v ∷ values) (suc j) h room =
    let e : at + suc j ≡ suc at + j = omega arith in
    ap (number_at (sets (set old at v) (suc at) values)) e
    ∙ sets_in (set old at v) (suc at) values j (omega arith) (omega (arith, length-set old at v))

-- one more at the end of a list
each_more : {A : Type 0} (P : A → Type 0) (d x : A) (xs : List A) → ((i : ℕ) → i < length xs → P (get_or xs i d)) → P x →
    (i : ℕ) → i < length (xs ++ (x ∷ [])) → P (get_or (xs ++ (x ∷ [])) i d)
each_more P d x [] each new zero h = new
each_more P d x [] each new (suc i) h = absurd (omega arith)
each_more P d x (y ∷ xs) each new zero h = each 0 (omega arith)
each_more P d x (y ∷ xs) each new (suc i) h = each_more P d x xs (λ j l. each (suc j) (omega arith)) new i (omega arith)

long_more : {A : Type 0} (xs : List A) (x : A) (n : ℕ) → length xs ≡ n → length (xs ++ (x ∷ [])) ≡ n + 1
long_more xs x n e = omega (arith, length-append xs (x ∷ []), e)

-- what is typed, by itself
record Fine (draft : Draft) : Type 0 where
  room : Room draft.state.line draft.state.counts
  six : length draft.fields ≡ 6
  fit : FieldsFit draft.state.line draft.fields
  fits : TypedFits draft.state.counts draft.typed

fine_begun : Fine draft_begun
fine_begun =
    record {
      room = record { tasks = omega arith; sections = omega arith };
      six = refl;
      fit = no_fields_fit Blank (omega arith);
      fits =
          record {
            version = omega arith;
            tasks = omega arith;
            rows = omega arith;
            task_count = refl;
            row_count = refl;
            each_task = λ i h. absurd (omega arith);
            each_row = λ k h. absurd (omega arith);
          };
    }

fine_heard : (draft : Draft) (spelling amount : ℕ) → Fine draft → Fine (draft_by draft (word spelling amount))
unfolding state_heard
fine_heard draft spelling amount f =
    record {
      room = room_heard draft.state.counts draft.state.line spelling amount f.room;
      six = fields_long draft.state.line amount draft.fields f.six;
      fit = fit_heard draft.state.counts draft.state.line spelling amount draft.fields f.fit;
      fits = f.fits;
    }

task_fits : (line : Line) (fields : List ℕ) → FieldsFit line fields → TaskFits (typed_task fields)
task_fits line fields f =
    record {
      priority = f.first;
      period = f.each 1;
      cost = f.each 2;
      deadline = f.each 3;
      earliest = f.each 4;
      latest = f.each 5;
    }

-- a task more, however its delays are typed
fits_task : (delayed : Bool) (line : Line) (number : ℕ) (counts : Counts) (fields : List ℕ) (typed : Typed) → counts.tasks ≤ 199 →
    FieldsFit line fields → TypedFits counts typed → TypedFits (task_added delayed counts) (with_task fields number typed)
fits_task delayed line number counts fields typed room f t =
    record {
      version = t.version;
      tasks = omega (arith, room);
      rows = t.rows;
      task_count = long_more typed.tasks (typed_task fields) counts.tasks t.task_count;
      row_count = t.row_count;
      each_task = each_more TaskFits no_task (typed_task fields) typed.tasks t.each_task (task_fits line fields f);
      each_row = t.each_row;
    }

-- a whole line more
fits_with : (kind : Kind) (count number : ℕ) (counts : Counts) (fields : List ℕ) (typed : Typed) → Room (Filling kind count) counts →
    FieldsFit (Filling kind count) fields → TypedFits counts typed →
    TypedFits (counts_with kind (field fields 0) counts) (typed_with kind fields number typed)
fits_with VersionLine count number counts fields typed r f t =
    record {
      version = f.first;
      tasks = t.tasks;
      rows = t.rows;
      task_count = t.task_count;
      row_count = t.row_count;
      each_task = t.each_task;
      each_row = t.each_row;
    }
fits_with TaskLine count number counts fields typed r f t =
    fits_task counts.delayed (Filling TaskLine count) number counts fields typed r.tasks f t
fits_with JitterLine count number counts fields typed r f t =
    fits_task counts.delayed (Filling JitterLine count) number counts fields typed r.tasks f t
fits_with DelaysLine count number counts fields typed r f t =
    fits_task true (Filling DelaysLine count) number counts fields typed r.tasks f t
fits_with SectionLine count number counts fields typed r f t =
    record {
      version = t.version;
      tasks = t.tasks;
      rows = omega (arith, r.sections);
      task_count = t.task_count;
      row_count = long_more typed.rows (typed_row fields) counts.sections t.row_count;
      each_task = t.each_task;
      each_row = each_more RowFits no_row (typed_row fields) typed.rows t.each_row (record { place = f.first; semaphore = f.second; longest = f.each 2 });
    }

fits_ended : (line : Line) (number : ℕ) (counts : Counts) (fields : List ℕ) (typed : Typed) → Room line counts → FieldsFit line fields →
    TypedFits counts typed → TypedFits (counts_at_end line (field fields 0) counts) (typed_at_end line fields number typed)
fits_ended Blank number counts fields typed r f t = t
fits_ended (Filling kind count) number counts fields typed r f t =
    elim (bool? (is_whole kind count)) [
      | inl p ↦ rw p (fits_with kind count number counts fields typed r f t)
      | inr p ↦ rw p t
    ]
fits_ended (Wrong fault) number counts fields typed r f t = t

-- a line's end leaves no line begun
ended_wide : (line : Line) → (most_tasks (ended_line line) ≡ 200) × (most_sections (ended_line line) ≡ 64)
unfolding ended_line whole_line
ended_wide Blank = (refl, refl)
ended_wide (Filling kind count) = elim (bool? (is_whole kind count)) [ inl p ↦ rw p (refl, refl) | inr p ↦ rw p (refl, refl) ]
ended_wide (Wrong fault) = (refl, refl)

ended_fit : (line : Line) (fields : List ℕ) → FieldsFit line fields → FieldsFit (ended_line line) fields
unfolding ended_line whole_line
ended_fit Blank fields f = f
ended_fit (Filling kind count) fields f =
    elim (bool? (is_whole kind count)) [
      | inl p ↦ rw p (record { first = f.first; second = f.each 1; each = f.each })
      | inr p ↦ rw p (record { first = f.first; second = f.each 1; each = f.each })
    ]
ended_fit (Wrong fault) fields f = f

fine_ended : (draft : Draft) → Fine draft → Fine (draft_by draft line_end)
unfolding state_ended
fine_ended draft f =
    let fits = fits_ended draft.state.line draft.state.number draft.state.counts draft.fields draft.typed f.room f.fit f.fits in
    let wide = ended_wide draft.state.line in
    record {
      room = record { tasks = omega (arith, fits.tasks, wide.0); sections = omega (arith, fits.rows, wide.1) };
      six = f.six;
      fit = ended_fit draft.state.line draft.fields f.fit;
      fits = fits;
    }

fine_after : (draft : Draft) (events : List Event) → Fine draft → Fine (draft_after draft events)
unfolding draft_after
fine_after draft [] f = f
fine_after draft (word spelling amount ∷ events) f = fine_after (draft_by draft (word spelling amount)) events (fine_heard draft spelling amount f)
fine_after draft (line_end ∷ events) f = fine_after (draft_by draft line_end) events (fine_ended draft f)

-- The slices, and what is typed: long enough, and each number in its place.
record Slices (typed : Typed) (counts : Counts) (numbers places : List ℕ) : Type 0 where
  long : length numbers ≡ 1393
  long_places : length places ≡ 265
  holds : Holds typed counts numbers places

-- a number that is not stored to
record Kept (old new : List ℕ) (from to : ℕ) : Type 0 where
  each : (k : ℕ) → from ≤ k → k < to → number_at new k ≡ number_at old k

tasks_kept : (old new : List ℕ) (n : ℕ) → Kept old new 193 (193 + 6 * n) → tabulate (task_kept new) n ≡ tabulate (task_kept old) n
unfolding task_kept
tasks_kept old new n k =
    tabulate_same (task_kept new) (task_kept old) n
    (λ i h.
    λ j.
    record {
      priority = k.each (193 + 6 * i) (omega arith) (omega arith) j;
      period = k.each (193 + 6 * i + 1) (omega arith) (omega arith) j;
      cost = k.each (193 + 6 * i + 2) (omega arith) (omega arith) j;
      deadline = k.each (193 + 6 * i + 3) (omega arith) (omega arith) j;
      earliest = k.each (193 + 6 * i + 4) (omega arith) (omega arith) j;
      latest = k.each (193 + 6 * i + 5) (omega arith) (omega arith) j;
    })

rows_kept : (old new : List ℕ) (n : ℕ) → Kept old new 1 (1 + 3 * n) → tabulate (row_kept new) n ≡ tabulate (row_kept old) n
unfolding row_kept
rows_kept old new n k =
    tabulate_same (row_kept new) (row_kept old) n
    (λ i h.
    λ j.
    record {
      place = k.each (1 + 3 * i) (omega arith) (omega arith) j;
      semaphore = k.each (1 + 3 * i + 1) (omega arith) (omega arith) j;
      longest = k.each (1 + 3 * i + 2) (omega arith) (omega arith) j;
    })

lines_kept : (base : ℕ) (old new : List ℕ) (n : ℕ) → Kept old new base (base + n) →
    tabulate (λ i. number_at new (base + i)) n ≡ tabulate (λ i. number_at old (base + i)) n
lines_kept base old new n k =
    tabulate_same (λ i. number_at new (base + i)) (λ i. number_at old (base + i)) n (λ i h. k.each (base + i) (omega arith) (omega arith))

-- the six fields of a line
six_are : (fields : List ℕ) → length fields ≡ 6 → take 6 fields ≡ fields
six_are fields six = take_all 6 fields (omega (arith, six))

three_long : (fields : List ℕ) → length fields ≡ 6 → length (take 3 fields) ≡ 3
three_long [] six = absurd (omega (arith, six))
three_long (a ∷ []) six = absurd (omega (arith, six))
three_long (a ∷ b ∷ []) six = absurd (omega (arith, six))
three_long (a ∷ b ∷ c ∷ rest) six = refl

one_is : (fields : List ℕ) → length fields ≡ 6 → take 1 fields ≡ field fields 0 ∷ []
one_is [] six = absurd (omega (arith, six))
one_is (a ∷ rest) six = refl

three_are : (fields : List ℕ) → length fields ≡ 6 → (field (take 3 fields) 0 ≡ field fields 0) × (field (take 3 fields) 1 ≡ field fields 1) × (field (take 3 fields) 2 ≡ field fields 2)
three_are [] six = absurd (omega (arith, six))
three_are (a ∷ []) six = absurd (omega (arith, six))
three_are (a ∷ b ∷ []) six = absurd (omega (arith, six))
three_are (a ∷ b ∷ c ∷ rest) six = (refl, refl, refl)

-- a task more
module _ (numbers fields : List ℕ) (n : ℕ) (long : length numbers ≡ 1393) (six : length fields ≡ 6) (room : n ≤ 199) where
  abbrev stored : List ℕ
  stored = sets numbers (193 + 6 * n) fields

  task_new : task_kept stored n ≡ typed_task fields
  unfolding task_kept
  task_new = λ j.
      record {
        priority = (ap (number_at stored) first ∙ at 0 (omega (arith, six))) j;
        period = at 1 (omega (arith, six)) j;
        cost = at 2 (omega (arith, six)) j;
        deadline = at 3 (omega (arith, six)) j;
        earliest = at 4 (omega (arith, six)) j;
        latest = at 5 (omega (arith, six)) j;
      }
    where
      first : 193 + 6 * n ≡ 193 + 6 * n + 0
      first = omega arith

      at : (j : ℕ) → j < length fields → number_at stored (193 + 6 * n + j) ≡ field fields j
      at j h = sets_in numbers (193 + 6 * n) fields j h (omega (arith, six, long))

  tasks_more : tabulate (task_kept stored) (n + 1) ≡ tabulate (task_kept numbers) n ++ (typed_task fields ∷ [])
  tasks_more =
      tabulate_more (task_kept stored) n
      ∙ ap (λ (tasks : List Task). tasks ++ (task_kept stored n ∷ []))
      (tasks_kept numbers stored n (record { each = λ k low h. sets_before numbers (193 + 6 * n) fields k h }))
      ∙ ap (λ (task : Task). tabulate (task_kept numbers) n ++ (task ∷ [])) task_new

  rows_stay : (m : ℕ) → m ≤ 64 → tabulate (row_kept stored) m ≡ tabulate (row_kept numbers) m
  rows_stay m h = rows_kept numbers stored m (record { each = λ k low l. sets_before numbers (193 + 6 * n) fields k (omega arith) })

-- a section more
module _ (numbers fields : List ℕ) (m : ℕ) (long : length numbers ≡ 1393) (six : length fields ≡ 6) (room : m ≤ 63) where
  abbrev stored_row : List ℕ
  stored_row = sets numbers (1 + 3 * m) (take 3 fields)

  row_new : row_kept stored_row m ≡ typed_row fields
  unfolding row_kept
  row_new = λ j.
      record {
        place = (ap (number_at stored_row) first ∙ at 0 (omega (arith, three)) ∙ (three_are fields six).0) j;
        semaphore = (at 1 (omega (arith, three)) ∙ (three_are fields six).1) j;
        longest = (at 2 (omega (arith, three)) ∙ (three_are fields six).2) j;
      }
    where
      three : length (take 3 fields) ≡ 3
      three = three_long fields six

      first : 1 + 3 * m ≡ 1 + 3 * m + 0
      first = omega arith

      at : (j : ℕ) → j < length (take 3 fields) → number_at stored_row (1 + 3 * m + j) ≡ field (take 3 fields) j
      at j h = sets_in numbers (1 + 3 * m) (take 3 fields) j h (omega (arith, three, long))

  rows_more : tabulate (row_kept stored_row) (m + 1) ≡ tabulate (row_kept numbers) m ++ (typed_row fields ∷ [])
  rows_more =
      tabulate_more (row_kept stored_row) m
      ∙ ap (λ (rows : List Row). rows ++ (row_kept stored_row m ∷ []))
      (rows_kept numbers stored_row m (record { each = λ k low h. sets_before numbers (1 + 3 * m) (take 3 fields) k h }))
      ∙ ap (λ (row : Row). tabulate (row_kept numbers) m ++ (row ∷ [])) row_new

  tasks_stay : (n : ℕ) → tabulate (task_kept stored_row) n ≡ tabulate (task_kept numbers) n
  tasks_stay n =
      tasks_kept numbers stored_row n
      (record { each = λ k low l. sets_behind numbers (1 + 3 * m) (take 3 fields) k (omega (arith, three_long fields six)) })

-- a version
module _ (numbers fields : List ℕ) (long : length numbers ≡ 1393) (six : length fields ≡ 6) where
  abbrev stored_version : List ℕ
  stored_version = sets numbers 0 (take 1 fields)

  version_is : stored_version ≡ set numbers 0 (field fields 0)
  version_is = ap (sets numbers 0) (one_is fields six)

  version_new : number_at stored_version 0 ≡ field fields 0
  version_new = ap (λ (xs : List ℕ). number_at xs 0) version_is ∙ get_or-set_same numbers 0 (field fields 0) 0 (omega (arith, long))

  behind_version : (k : ℕ) → 1 ≤ k → number_at stored_version k ≡ number_at numbers k
  behind_version k h =
      ap (λ (xs : List ℕ). number_at xs k) version_is ∙ get_or-set_other numbers 0 k (field fields 0) 0 (λ e. omega (arith, e))

-- a line's number more, from a place on, and those of other places
line_more : (base : ℕ) (places : List ℕ) (n number : ℕ) → base + n < length places →
    tabulate (λ i. number_at (set places (base + n) number) (base + i)) (n + 1) ≡ tabulate (λ i. number_at places (base + i)) n ++ (number ∷ [])
line_more base places n number h =
    tabulate_more (λ i. number_at (set places (base + n) number) (base + i)) n
    ∙ ap (λ (lines : List ℕ). lines ++ (number_at (set places (base + n) number) (base + n) ∷ []))
    (lines_kept base places (set places (base + n) number) n
    (record { each = λ k low l. get_or-set_other places (base + n) k number 0 (λ e. omega (arith, e)) }))
    ∙ ap (λ (line : ℕ). tabulate (λ i. number_at places (base + i)) n ++ (line ∷ [])) (get_or-set_same places (base + n) number 0 h)

lines_stay : (base at : ℕ) (places : List ℕ) (n number : ℕ) → ((k : ℕ) → base ≤ k → k < base + n → k ≡ at → 1 ≤ 0) →
    tabulate (λ i. number_at (set places at number) (base + i)) n ≡ tabulate (λ i. number_at places (base + i)) n
lines_stay base at places n number apart =
    lines_kept base places (set places at number) n
    (record { each = λ k low l. get_or-set_other places at k number 0 (λ e. absurd (omega (arith, apart k low l e))) })

-- what is stored with a whole line of each kind
slices_task : (delayed : Bool) (counts : Counts) (numbers places fields : List ℕ) (number : ℕ) (typed : Typed) → length fields ≡ 6 → counts.tasks ≤ 199 →
    counts.sections ≤ 64 → Slices typed counts numbers places →
    Slices (typed_with TaskLine fields number typed)
    (record { stated = counts.stated; old = counts.old; delayed = delayed; tasks = counts.tasks + 1; sections = counts.sections })
    (sets numbers (193 + 6 * counts.tasks) (take 6 fields)) (set places (65 + counts.tasks) number)
slices_task delayed counts numbers places fields number typed six room few s =
    rw (six_are fields six)
    (record {
      long = length-sets numbers (193 + 6 * counts.tasks) fields ∙ s.long;
      long_places = length-set places (65 + counts.tasks) number ∙ s.long_places;
      holds =
          record {
            tasks =
                tasks_more numbers fields counts.tasks s.long six room
                ∙ ap (λ (tasks : List Task). tasks ++ (typed_task fields ∷ [])) s.holds.tasks;
            rows = rows_stay numbers fields counts.tasks s.long six room counts.sections few ∙ s.holds.rows;
            task_lines =
                line_more 65 places counts.tasks number (omega (arith, s.long_places))
                ∙ ap (λ (lines : List ℕ). lines ++ (number ∷ [])) s.holds.task_lines;
            row_lines =
                lines_stay 1 (65 + counts.tasks) places counts.sections number (λ k low l e. omega (arith, low, l, e)) ∙ s.holds.row_lines;
            version = λ p. sets_before numbers (193 + 6 * counts.tasks) fields 0 (omega arith) ∙ s.holds.version p;
            version_line = get_or-set_other places (65 + counts.tasks) 0 number 0 (λ e. omega (arith, e)) ∙ s.holds.version_line;
          };
    })

slices_section : (counts : Counts) (numbers places fields : List ℕ) (number : ℕ) (typed : Typed) → length fields ≡ 6 → counts.sections ≤ 63 →
    Slices typed counts numbers places →
    Slices (typed_with SectionLine fields number typed) (counts_with SectionLine (field fields 0) counts)
    (sets numbers (1 + 3 * counts.sections) (take 3 fields)) (set places (1 + counts.sections) number)
slices_section counts numbers places fields number typed six room s =
    record {
      long = length-sets numbers (1 + 3 * counts.sections) (take 3 fields) ∙ s.long;
      long_places = length-set places (1 + counts.sections) number ∙ s.long_places;
      holds =
          record {
            tasks = tasks_stay numbers fields counts.sections s.long six room counts.tasks ∙ s.holds.tasks;
            rows =
                rows_more numbers fields counts.sections s.long six room
                ∙ ap (λ (rows : List Row). rows ++ (typed_row fields ∷ [])) s.holds.rows;
            task_lines =
                lines_stay 65 (1 + counts.sections) places counts.tasks number (λ k low l e. omega (arith, low, l, e)) ∙ s.holds.task_lines;
            row_lines =
                line_more 1 places counts.sections number (omega (arith, s.long_places))
                ∙ ap (λ (lines : List ℕ). lines ++ (number ∷ [])) s.holds.row_lines;
            version = λ p. sets_before numbers (1 + 3 * counts.sections) (take 3 fields) 0 (omega arith) ∙ s.holds.version p;
            version_line = get_or-set_other places (1 + counts.sections) 0 number 0 (λ e. omega (arith, e)) ∙ s.holds.version_line;
          };
    }

slices_version : (counts : Counts) (numbers places fields : List ℕ) (number : ℕ) (typed : Typed) → length fields ≡ 6 → Slices typed counts numbers places →
    Slices (typed_with VersionLine fields number typed) (counts_with VersionLine (field fields 0) counts) (sets numbers 0 (take 1 fields)) (set places 0 number)
slices_version counts numbers places fields number typed six s =
    record {
      long = length-sets numbers 0 (take 1 fields) ∙ s.long;
      long_places = length-set places 0 number ∙ s.long_places;
      holds =
          record {
            tasks =
                tasks_kept numbers (sets numbers 0 (take 1 fields)) counts.tasks
                (record { each = λ k low l. behind_version numbers fields s.long six k (omega arith) })
                ∙ s.holds.tasks;
            rows =
                rows_kept numbers (sets numbers 0 (take 1 fields)) counts.sections
                (record { each = λ k low l. behind_version numbers fields s.long six k low })
                ∙ s.holds.rows;
            task_lines = lines_stay 65 0 places counts.tasks number (λ k low l e. omega (arith, low, e)) ∙ s.holds.task_lines;
            row_lines = lines_stay 1 0 places counts.sections number (λ k low l e. omega (arith, low, e)) ∙ s.holds.row_lines;
            version = λ p. version_new numbers fields s.long six;
            version_line = get_or-set_same places 0 number 0 (omega (arith, s.long_places));
          };
    }

slices_with : (kind : Kind) (count number : ℕ) (counts : Counts) (numbers places fields : List ℕ) (typed : Typed) → length fields ≡ 6 →
    Room (Filling kind count) counts → Slices typed counts numbers places →
    Slices (typed_with kind fields number typed) (counts_with kind (field fields 0) counts) (numbers_with kind counts fields numbers) (places_with kind counts number places)
slices_with VersionLine count number counts numbers places fields typed six r s = slices_version counts numbers places fields number typed six s
slices_with TaskLine count number counts numbers places fields typed six r s =
    slices_task counts.delayed counts numbers places fields number typed six r.tasks r.sections s
slices_with JitterLine count number counts numbers places fields typed six r s =
    slices_task counts.delayed counts numbers places fields number typed six r.tasks r.sections s
slices_with DelaysLine count number counts numbers places fields typed six r s =
    slices_task true counts numbers places fields number typed six r.tasks r.sections s
slices_with SectionLine count number counts numbers places fields typed six r s =
    slices_section counts numbers places fields number typed six r.sections s

slices_ended : (line : Line) (number : ℕ) (counts : Counts) (numbers places fields : List ℕ) (typed : Typed) → length fields ≡ 6 → Room line counts →
    Slices typed counts numbers places →
    Slices (typed_at_end line fields number typed) (counts_at_end line (field fields 0) counts) (numbers_at_end line counts fields numbers) (places_at_end line counts number places)
slices_ended Blank number counts numbers places fields typed six r s = s
slices_ended (Filling kind count) number counts numbers places fields typed six r s =
    elim (bool? (is_whole kind count)) [
      | inl p ↦ rw p (slices_with kind count number counts numbers places fields typed six r s)
      | inr p ↦ rw p s
    ]
slices_ended (Wrong fault) number counts numbers places fields typed six r s = s

-- What the code keeps, beside what is typed.
record Agree (draft : Draft) (kept : Memory) : Type 0 where
  state : kept.state ≡ draft.state
  fields : kept.fields ≡ draft.fields
  slices : Slices draft.typed draft.state.counts kept.numbers kept.places

agree_heard : (draft : Draft) (kept : Memory) (spelling amount : ℕ) → Agree draft kept → Agree (draft_by draft (word spelling amount)) (memory_by kept (word spelling amount))
unfolding state_heard
agree_heard draft kept spelling amount a =
    record {
      state = ap (λ (state : State). state_heard state spelling amount) a.state;
      fields =
          ap (λ (state : State). fields_after state.line amount kept.fields) a.state
          ∙ ap (fields_after draft.state.line amount) a.fields;
      slices = a.slices;
    }

agree_ended : (draft : Draft) (kept : Memory) → Fine draft → Agree draft kept → Agree (draft_by draft line_end) (memory_by kept line_end)
unfolding state_ended
agree_ended draft kept f a =
    record {
      state =
          ap (λ (state : State). state_ended state (field kept.fields 0)) a.state
          ∙ ap (λ (fields : List ℕ). state_ended draft.state (field fields 0)) a.fields;
      fields = a.fields;
      slices =
          rw (a.state, a.fields)
          (slices_ended draft.state.line draft.state.number draft.state.counts kept.numbers kept.places draft.fields draft.typed
          f.six f.room a.slices);
    }

agree_after : (draft : Draft) (kept : Memory) (events : List Event) → Fine draft → Agree draft kept → Agree (draft_after draft events) (memory_after kept events)
unfolding draft_after memory_after
agree_after draft kept [] f a = a
agree_after draft kept (word spelling amount ∷ events) f a =
    agree_after (draft_by draft (word spelling amount)) (memory_by kept (word spelling amount)) events (fine_heard draft spelling amount f)
    (agree_heard draft kept spelling amount a)
agree_after draft kept (line_end ∷ events) f a =
    agree_after (draft_by draft line_end) (memory_by kept line_end) events (fine_ended draft f) (agree_ended draft kept f a)

agree_begun : (numbers places : List ℕ) → Ready numbers places → Agree draft_begun (memory state_begun no_fields numbers places)
agree_begun numbers places r =
    record {
      state = refl;
      fields = refl;
      slices =
          record {
            long = r.numbers_long;
            long_places = r.places_long;
            holds =
                record {
                  tasks = tabulate_none (task_kept numbers);
                  rows = tabulate_none (row_kept numbers);
                  task_lines = tabulate_none (task_line_kept places);
                  row_lines = tabulate_none (row_line_kept places);
                  version = λ p. no_version_law p;
                  version_line = r.no_version;
                };
          };
    }
  where
    no_version_law : false ≡ true → number_at numbers 0 ≡ 0
    no_version_law p = absurd (clash true refl (sym p))

pub typed_kept : TypedKept
typed_kept =
    record {
      same = λ numbers places events r. (agree_after draft_begun (memory state_begun no_fields numbers places) events fine_begun (agree_begun numbers places r)).state;
      holds = λ numbers places events r.
          (agree_after draft_begun (memory state_begun no_fields numbers places) events fine_begun (agree_begun numbers places r)).slices.holds;
      fits = λ events. (fine_after draft_begun events fine_begun).fits;
    }
