-- The parts of a table's text: late, open or neither, a deadline that is there or not, one line more.
-- Assumes nothing.
use Prim.Native.Nat.{ℕ, ◌+◌, ◌*◌, ◌≤◌, ◌<◌}
use native.Mathlib.Omega.{arith}
use native.Mathlib.Nat.{mul-le-mul}
use native.Mathlib.Numerals.{add-one}
use mathlib.Core.Path.{◌≡◌, refl, sym, ◌∙◌, ap}
use mathlib.Core.Logic.{inl, inr}
use mathlib.Core.List.{List, [], ◌∷◌, ◌++◌}
use lib.ListN.{length, get_or}
use Rattle.model.proofs.Tests.{ltb?, eqb?}
use Rattle.tables.specs.declared.layout.Layout.{Layout}
use Rattle.tables.specs.Layout.{word_at, layout_for, layout_of, task_count, record_start, deadline_at}
use Rattle.tables.proofs.LayoutLaws.{size_small}
use Rattle.printing.specs.declared.page.Page.{Page}
use Rattle.printing.specs.Page.{Wrote}
use Rattle.model.specs.Tables.{open_word}
use Rattle.printing.specs.Text.{bytes_of, with_number, line_with_number, response_text, task_line, task_lines, tasks_text, deadline_shown}
use Rattle.printing.proofs.PageLaws.{both, none, as_wrote}

pub response_late : (answer : ℕ) → answer ≡ 0 → bytes_of " late" ≡ response_text answer
response_late answer e = rw e

pub response_open : (answer : ℕ) → answer ≡ open_word → bytes_of " open" ≡ response_text answer
response_open answer e = rw e

pub response_told : (answer : ℕ) → (answer ≡ 0 → ⊥) → (answer ≡ open_word → ⊥) →
    with_number (bytes_of " response ") answer ≡ response_text answer
response_told answer not_late not_open =
    elim (eqb? answer 0) [
      | inl p ↦ absurd (not_late p.1)
      | inr p ↦
          elim (eqb? answer open_word) [
            | inl q ↦ absurd (not_open q.1)
            | inr q ↦ rw (p.0, q.0)
          ]
    ]

-- where the code looks for a deadline is where the layout has it
module _ (bytes : List ℕ) (layout : Layout) (decided : layout ≡ layout_of bytes) (place : ℕ) where
  there : 5 + layout.size * place + 9 ≡ record_start (layout_of bytes) place + deadline_at
  there = ap (λ (l : Layout). record_start l place + deadline_at) decided

  -- the bytes end before the first record, or before the deadline
  pub table_short : length bytes < 5 → 0 ≡ deadline_shown bytes place
  table_short h =
      elim (ltb? (length bytes) (record_start (layout_of bytes) place + deadline_at + 4)) [
        | inl p ↦ rw p.0 refl
        | inr p ↦ absurd (omega (arith, p.1))
      ]

  pub deadline_missing : length bytes < 5 + layout.size * place + 9 + 4 → 0 ≡ deadline_shown bytes place
  deadline_missing h =
      elim (ltb? (length bytes) (record_start (layout_of bytes) place + deadline_at + 4)) [
        | inl p ↦ rw p.0 refl
        | inr p ↦ absurd (omega (arith, p.1, there))
      ]

  pub deadline_read : (found : ℕ) → 5 + layout.size * place + 9 + 4 ≤ length bytes → found ≡ word_at bytes (5 + layout.size * place + 9) →
      found ≡ deadline_shown bytes place
  deadline_read found h e =
      elim (ltb? (length bytes) (record_start (layout_of bytes) place + deadline_at + 4)) [
        | inl p ↦ absurd (omega (arith, p.1, there))
        | inr p ↦ rw p.0 (e ∙ ap (word_at bytes) there)
      ]

-- a place that a byte can name is not far on
pub deadline_near : {layout : Layout} {place : ℕ} (version : ℕ) → layout ≡ layout_for version → place < 256 → layout.size * place ≤ 5376
deadline_near {layout} {place} version decided h =
    omega (arith, mul-le-mul {n₁ = layout.size} {m₁ = place} {n₂ = 21} {m₂ = 256} (size_small (version ∷ []) layout decided) (omega arith))

-- the lines of the first i tasks, whatever word stands in front of their last number
pub lines_none : (page : Page) (word bytes answers counts : List ℕ) → Wrote page (task_lines word bytes answers counts 0) page
unfolding task_lines
lines_none page word bytes answers counts = none page

one_more : (word bytes answers counts : List ℕ) (i answer deadline count : ℕ) → answer ≡ get_or answers i 0 → deadline ≡ deadline_shown bytes i →
    count ≡ get_or counts i 0 →
    task_lines word bytes answers counts i ++ task_line word i answer deadline count ≡ task_lines word bytes answers counts (i + 1)
unfolding task_lines
one_more word bytes answers counts i answer deadline count a d r =
    ap (λ (x : ℕ). task_lines word bytes answers counts i ++ task_line word i x deadline count) a
    ∙ ap (λ (x : ℕ). task_lines word bytes answers counts i ++ task_line word i (get_or answers i 0) x count) d
    ∙ ap (λ (x : ℕ). task_lines word bytes answers counts i ++ task_line word i (get_or answers i 0) (deadline_shown bytes i) x) r
    ∙ ap (task_lines word bytes answers counts) (sym (add-one i))

pub lines_more_law : (word bytes answers counts : List ℕ) (i : ℕ) {old middle new : Page} {answer deadline count : ℕ} →
    Wrote old (task_lines word bytes answers counts i) middle → answer ≡ get_or answers i 0 → deadline ≡ deadline_shown bytes i →
    count ≡ get_or counts i 0 → Wrote middle (task_line word i answer deadline count) new → Wrote old (task_lines word bytes answers counts (i + 1)) new
lines_more_law word bytes answers counts i {answer = answer} {deadline = deadline} {count = count} lines a d r line =
    as_wrote (both lines line) (one_more word bytes answers counts i answer deadline count a d r)

pub lines_all : (word bytes answers counts : List ℕ) {old middle new : Page} {n i : ℕ} → Wrote old (line_with_number (bytes_of "tasks ") n) middle →
    Wrote middle (task_lines word bytes answers counts i) new → i ≡ n → n ≡ task_count bytes → Wrote old (tasks_text word bytes answers counts) new
lines_all word bytes answers counts {n = n} {i = i} first lines e counted =
    as_wrote (both first lines)
    (ap (λ (x : ℕ). line_with_number (bytes_of "tasks ") n ++ task_lines word bytes answers counts x) e
    ∙ ap (λ (x : ℕ). line_with_number (bytes_of "tasks ") x ++ task_lines word bytes answers counts x) counted)
