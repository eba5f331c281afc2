-- A line that is begun has room for its numbers, and its numbers fit into their fields.
-- Assumes nothing.
use Prim.Native.Nat.{ℕ, zero, suc, ◌+◌, ◌≤◌}
use native.Mathlib.Omega.{arith}
use mathlib.Core.Path.{◌≡◌, refl, ap}
use mathlib.Core.Bool.{Bool, true}
use mathlib.Core.Logic.{inl, inr}
use mathlib.Core.List.{List, [], ◌∷◌}
use lib.Dec.{eqb, leb, ltb}
use lib.ListN.{set}
use borrow.Author.Tests.{leb-true}
use Rattle.model.specs.Choice.{either}
use Rattle.model.proofs.Tests.{bool?, leb?, both_true}
use Rattle.words.specs.Words.{spelling_of, not_whole}
use Rattle.printing.specs.Text.{bytes_of}
use Rattle.typing.specs.declared.lines.Kind.{Kind}
use Rattle.typing.specs.declared.lines.Kind.TheVariants.{VersionLine, TaskLine, JitterLine, DelaysLine, SectionLine}
use Rattle.typing.specs.declared.lines.Line.{Line}
use Rattle.typing.specs.declared.lines.Line.TheVariants.{Blank, Filling, Wrong}
use Rattle.typing.specs.declared.lines.Counts.{Counts}
use Rattle.typing.specs.Lines.{needed_for, limit_for, field_for, task_begun, section_begun, version_begun, begun_by, number_line, delays_behind, behind_of, went_on, line_after, is_taken, no_fields, fields_after}
use Rattle.typing.specs.Reading.{field}
use Rattle.typing.proofs.LineLaws.{limit_small}

-- how many tasks and sections may stand before a line, for it to have room
abbrev pub most_tasks : Line → ℕ
most_tasks Blank = 200
most_tasks (Filling VersionLine count) = 200
most_tasks (Filling TaskLine count) = 199
most_tasks (Filling JitterLine count) = 199
most_tasks (Filling DelaysLine count) = 199
most_tasks (Filling SectionLine count) = 200
most_tasks (Wrong fault) = 200

abbrev pub most_sections : Line → ℕ
most_sections Blank = 64
most_sections (Filling VersionLine count) = 64
most_sections (Filling TaskLine count) = 64
most_sections (Filling JitterLine count) = 64
most_sections (Filling DelaysLine count) = 64
most_sections (Filling SectionLine count) = 63
most_sections (Wrong fault) = 64

-- the largest second field of a line
abbrev pub second_most : Line → ℕ
second_most Blank = 4294967295
second_most (Filling VersionLine count) = 4294967295
second_most (Filling TaskLine count) = 4294967295
second_most (Filling JitterLine count) = 4294967295
second_most (Filling DelaysLine count) = 4294967295
second_most (Filling SectionLine count) = 255
second_most (Wrong fault) = 4294967295

-- what a line of a kind has, whatever its count
record Alike (first second : Line) : Type 0 where
  tasks : most_tasks first ≤ most_tasks second
  sections : most_sections first ≤ most_sections second
  fields : second_most first ≤ second_most second

alike_wrong : (kind : Kind) (count : ℕ) (line : Line) → most_tasks line ≡ 200 → most_sections line ≡ 64 → second_most line ≡ 4294967295 → Alike (Filling kind count) line
alike_wrong VersionLine count line p q r = record { tasks = omega (arith, p); sections = omega (arith, q); fields = omega (arith, r) }
alike_wrong TaskLine count line p q r = record { tasks = omega (arith, p); sections = omega (arith, q); fields = omega (arith, r) }
alike_wrong JitterLine count line p q r = record { tasks = omega (arith, p); sections = omega (arith, q); fields = omega (arith, r) }
alike_wrong DelaysLine count line p q r = record { tasks = omega (arith, p); sections = omega (arith, q); fields = omega (arith, r) }
alike_wrong SectionLine count line p q r = record { tasks = omega (arith, p); sections = omega (arith, q); fields = omega (arith, r) }

alike_more : (kind : Kind) (count other : ℕ) → Alike (Filling kind count) (Filling kind other)
alike_more VersionLine count other = record { tasks = omega arith; sections = omega arith; fields = omega arith }
alike_more TaskLine count other = record { tasks = omega arith; sections = omega arith; fields = omega arith }
alike_more JitterLine count other = record { tasks = omega arith; sections = omega arith; fields = omega arith }
alike_more DelaysLine count other = record { tasks = omega arith; sections = omega arith; fields = omega arith }
alike_more SectionLine count other = record { tasks = omega arith; sections = omega arith; fields = omega arith }

alike_number : (kind : Kind) (count amount : ℕ) → Alike (Filling kind count) (number_line kind count amount)
unfolding number_line
alike_number kind count amount =
    elim (bool? (eqb amount not_whole)) [
      | inl p ↦ rw p (alike_wrong kind count _ refl refl refl)
      | inr p ↦
          elim (bool? (ltb (limit_for kind count) amount)) [
            | inl q ↦ rw (p, q) (alike_wrong kind count _ refl refl refl)
            | inr q ↦ rw (p, q) (alike_more kind count (count + 1))
          ]
    ]

alike_behind : (old : Bool) (kind : Kind) (count spelling : ℕ) → Alike (Filling kind count) (behind_of old kind spelling)
unfolding delays_behind
alike_behind old VersionLine count spelling = alike_wrong VersionLine count _ refl refl refl
alike_behind old TaskLine count spelling =
    elim (bool? (eqb spelling (spelling_of (bytes_of "jitter")))) [
      | inl p ↦ rw p (record { tasks = omega arith; sections = omega arith; fields = omega arith })
      | inr p ↦
          elim (bool? (eqb spelling (spelling_of (bytes_of "delays")))) [
            | inl q ↦
                elim (bool? old) [
                  | inl r ↦ rw (p, q, r) (alike_wrong TaskLine count _ refl refl refl)
                  | inr r ↦ rw (p, q, r) (record { tasks = omega arith; sections = omega arith; fields = omega arith })
                ]
            | inr q ↦ rw (p, q) (alike_wrong TaskLine count _ refl refl refl)
          ]
    ]
alike_behind old JitterLine count spelling = alike_wrong JitterLine count _ refl refl refl
alike_behind old DelaysLine count spelling = alike_wrong DelaysLine count _ refl refl refl
alike_behind old SectionLine count spelling = alike_wrong SectionLine count _ refl refl refl

alike_on : (old : Bool) (kind : Kind) (count spelling amount : ℕ) → Alike (Filling kind count) (went_on old kind count spelling amount)
unfolding went_on
alike_on old kind count spelling amount =
    elim (bool? (ltb count (needed_for kind))) [
      | inl p ↦ rw p (alike_number kind count amount)
      | inr p ↦
          elim (bool? (eqb amount not_whole)) [
            | inl q ↦ rw (p, q) (alike_behind old kind count spelling)
            | inr q ↦ rw (p, q) (alike_wrong kind count _ refl refl refl)
          ]
    ]

-- there is room for the line's numbers
pub record Room (line : Line) (counts : Counts) : Type 0 where
  pub tasks : counts.tasks ≤ most_tasks line
  pub sections : counts.sections ≤ most_sections line

room_begun : (counts : Counts) (spelling : ℕ) → counts.tasks ≤ 200 → counts.sections ≤ 64 → Room (begun_by counts spelling) counts
unfolding begun_by task_begun section_begun version_begun
room_begun counts spelling h k =
    elim (bool? (eqb spelling (spelling_of (bytes_of "task")))) [
      | inl p ↦
          elim (bool? (ltb 0 counts.sections)) [
            | inl q ↦ rw (p, q) (record { tasks = h; sections = k })
            | inr q ↦
                elim (leb? 200 counts.tasks) [
                  | inl r ↦ rw (p, q, r.0) (record { tasks = h; sections = k })
                  | inr r ↦ rw (p, q, r.0) (record { tasks = omega (arith, r.1); sections = k })
                ]
          ]
      | inr p ↦
          elim (bool? (eqb spelling (spelling_of (bytes_of "section")))) [
            | inl q ↦
                elim (leb? 64 counts.sections) [
                  | inl r ↦ rw (p, q, r.0) (record { tasks = h; sections = k })
                  | inr r ↦ rw (p, q, r.0) (record { tasks = h; sections = omega (arith, r.1) })
                ]
            | inr q ↦
                elim (bool? (eqb spelling (spelling_of (bytes_of "version")))) [
                  | inl r ↦
                      elim (bool? (either counts.stated (either (ltb 0 counts.tasks) (ltb 0 counts.sections)))) [
                        | inl s ↦ rw (p, q, r, s) (record { tasks = h; sections = k })
                        | inr s ↦ rw (p, q, r, s) (record { tasks = h; sections = k })
                      ]
                  | inr r ↦ rw (p, q, r) (record { tasks = h; sections = k })
                ]
          ]
    ]

pub room_heard : (counts : Counts) (line : Line) (spelling amount : ℕ) → Room line counts → Room (line_after counts line spelling amount) counts
unfolding line_after
room_heard counts Blank spelling amount r = room_begun counts spelling r.tasks r.sections
room_heard counts (Filling kind count) spelling amount r =
    let a = alike_on counts.old kind count spelling amount in
    record { tasks = omega (arith, r.tasks, a.tasks); sections = omega (arith, r.sections, a.sections) }
room_heard counts (Wrong fault) spelling amount r = r

-- the fields of a line fit
pub record FieldsFit (line : Line) (fields : List ℕ) : Type 0 where
  pub first : field fields 0 ≤ 255
  pub second : field fields 1 ≤ second_most line
  pub each : (at : ℕ) → field fields at ≤ 4294967295

no_field : (at : ℕ) → field no_fields at ≡ 0
no_field zero = refl
no_field (suc zero) = refl
no_field (suc (suc zero)) = refl
no_field (suc (suc (suc zero))) = refl
no_field (suc (suc (suc (suc zero)))) = refl
no_field (suc (suc (suc (suc (suc zero))))) = refl
no_field (suc (suc (suc (suc (suc (suc at)))))) = refl

pub no_fields_fit : (line : Line) → 0 ≤ second_most line → FieldsFit line no_fields
no_fields_fit line h = record { first = omega arith; second = h; each = λ at. omega (arith, no_field at) }

set_small : (fields : List ℕ) (at place amount most : ℕ) → field fields at ≤ most → (at ≡ place → amount ≤ most) → field (set fields place amount) at ≤ most
set_small [] at place amount most h small = h
set_small (x ∷ fields) zero zero amount most h small = small refl
set_small (x ∷ fields) (suc at) zero amount most h small = h
set_small (x ∷ fields) zero (suc place) amount most h small = h
set_small (x ∷ fields) (suc at) (suc place) amount most h small = set_small fields at place amount most h (λ e. small (ap suc e))

-- which field a number goes to, and how large it may be
first_limit : (kind : Kind) (count : ℕ) → 0 ≡ field_for kind count → limit_for kind count ≤ 255
first_limit VersionLine count e = omega arith
first_limit TaskLine count e = rw (← e) (omega arith)
first_limit JitterLine count e = absurd (omega (arith, e))
first_limit DelaysLine count e = rw (← e) (omega arith)
first_limit SectionLine count e = rw (← e) (omega arith)

second_limit : (kind : Kind) (count : ℕ) → 1 ≡ field_for kind count → limit_for kind count ≤ second_most (Filling kind count)
second_limit VersionLine count e = omega arith
second_limit TaskLine count e = limit_small TaskLine count
second_limit JitterLine count e = limit_small JitterLine count
second_limit DelaysLine count e = limit_small DelaysLine count
second_limit SectionLine count e = rw (← e) (omega arith)

taken_limit : (kind : Kind) (count amount : ℕ) → is_taken kind count amount ≡ true → amount ≤ limit_for kind count
unfolding is_taken
taken_limit kind count amount p =
    leb-true amount (limit_for kind count) (both_true (ltb count (needed_for kind)) (leb amount (limit_for kind count)) p).1

fit_taken : (kind : Kind) (count amount : ℕ) (fields : List ℕ) → FieldsFit (Filling kind count) fields →
    FieldsFit (Filling kind count) (fields_after (Filling kind count) amount fields)
unfolding fields_after
fit_taken kind count amount fields f =
    elim (bool? (is_taken kind count amount)) [
      | inl p ↦
          let small = taken_limit kind count amount p in
          rw p
          (record {
            first = set_small fields 0 (field_for kind count) amount 255 f.first (λ e. omega (arith, small, first_limit kind count e));
            second =
                set_small fields 1 (field_for kind count) amount (second_most (Filling kind count)) f.second
                (λ e. omega (arith, small, second_limit kind count e));
            each = λ at.
                set_small fields at (field_for kind count) amount 4294967295 (f.each at) (λ e. omega (arith, small, limit_small kind count));
          })
      | inr p ↦ rw p f
    ]

second_none : (line : Line) → 0 ≤ second_most line
second_none line = omega arith

none_fit : (line : Line) (amount : ℕ) (fields : List ℕ) → FieldsFit line (fields_after Blank amount fields)
unfolding fields_after
none_fit line amount fields = no_fields_fit line (second_none line)

pub fit_heard : (counts : Counts) (line : Line) (spelling amount : ℕ) (fields : List ℕ) → FieldsFit line fields →
    FieldsFit (line_after counts line spelling amount) (fields_after line amount fields)
unfolding line_after fields_after
fit_heard counts Blank spelling amount fields f = none_fit (begun_by counts spelling) amount fields
fit_heard counts (Filling kind count) spelling amount fields f =
    let a = alike_on counts.old kind count spelling amount in
    let g = fit_taken kind count amount fields f in
    record { first = g.first; second = omega (arith, g.second, a.fields); each = g.each }
fit_heard counts (Wrong fault) spelling amount fields f = f
