-- What is counted fits into the machine's words, and the parts of the slices lie within them.
-- Assumes nothing.
use Prim.Native.Nat.{ℕ, ◌+◌, ◌*◌, ◌-◌, ◌≤◌, ◌<◌, min}
use native.Mathlib.Omega.{arith}
use mathlib.Core.Path.{◌≡◌, refl, sym, ◌∙◌, ap, subst}
use mathlib.Core.Logic.{inl, inr}
use mathlib.Core.List.{List, [], ◌∷◌, ◌++◌, flatten, append_assoc, append-nil}
use lib.Dec.{ltb}
use lib.ListN.{length, take, length-append, length-take}
use lib.Seq.{take_all}
use Rattle.model.specs.Choice.{pick}
use Rattle.model.proofs.Tests.{ltb?}
use Rattle.printing.specs.Appended.{Appended}
use Rattle.printing.proofs.AppendLaws.{ends_within, part_length}
use Rattle.reporting.specs.declared.Report.{Report}
use Rattle.printing.specs.declared.page.Page.{Page}
use Rattle.reporting.specs.Cutting.{tables_in, left_in, AllStated}
use Rattle.reporting.specs.Streaming.{begun, store_size, Tells, Countable, CountableBegun, counted_in}
use Rattle.reporting.proofs.CuttingLaws.{is_cut}
use Rattle.reporting.proofs.StreamLaws.{behind_none, counted_tables, new_long, come_head, goes_none, goes_then}

-- each table has five bytes at least
tables_few : (tables : List (List ℕ)) → AllStated tables → 5 * length tables ≤ length (flatten tables)
unfolding flatten
tables_few [] s = omega arith
tables_few (table ∷ tables) s =
    omega (arith, s.0.low, tables_few tables s.1, length-append table (flatten tables))

bytes_long : (bytes : List ℕ) → 5 * length (tables_in bytes) + length (left_in bytes) ≤ length bytes
bytes_long bytes =
    let c = is_cut bytes in
    omega (
      arith,
      tables_few (tables_in bytes) c.stated,
      ap (λ (xs : List ℕ). length xs) c.whole,
      length-append (flatten (tables_in bytes)) (left_in bytes),
    )

module _ (report : Report) {store : List ℕ} (more : List ℕ) (c : Countable report store (length more)) where
  pub come_fits : report.come + length more < 18446744073709551616
  come_fits = omega (arith, c.few, c.behind.come, bytes_long c.bytes)

  module _ {kept : ℕ} {new : List ℕ} (a : Appended store report.kept more kept new) where
    pub head_there : 5 ≤ length new
    head_there = omega (arith, new_long c.behind more a)

    pub kept_within : kept ≤ length new
    kept_within = ends_within a (ends_within c.behind.stored (omega arith))

    pub kept_long : kept ≡ length (take kept new)
    kept_long = part_length kept new kept_within

    -- one table more can be counted, once it is whole
    pub counted_fits : (report.come < report.due → report.come + length more ≤ report.due) → report.come + length more ≡ report.due →
        counted_in report + 1 < 18446744073709551616
    counted_fits fits e =
        omega (
          arith,
          c.few,
          bytes_long c.bytes,
          counted_tables c.behind,
          come_head report a fits e c.behind,
          length-append (left_in c.bytes) more,
        )

-- how many bytes are taken: no more than are left, or are due, and some
module _ (come due left : ℕ) {count : ℕ} (e : count ≡ pick (ltb come due) (min (due - come) left) left) where
  pub taken_left : count ≤ left
  taken_left =
      elim (ltb? come due) [
        | inl p ↦ omega (arith, rw p.0 at e)
        | inr p ↦ omega (arith, rw p.0 at e)
      ]

  pub taken_due : come < due → come + count ≤ due
  taken_due h =
      elim (ltb? come due) [
        | inl p ↦ omega (arith, rw p.0 at e, h)
        | inr p ↦ absurd (omega (arith, h, p.1))
      ]

  pub taken_some : 1 ≤ left → 1 ≤ count
  taken_some h =
      elim (ltb? come due) [
        | inl p ↦ omega (arith, rw p.0 at e, h, p.1)
        | inr p ↦ omega (arith, rw p.0 at e, h)
      ]

-- The loop of `take_all`: these bytes are taken.
pub record Going (more store₀ : List ℕ) (report₀ : Report) (page₀ : Page) (store : List ℕ) (report : Report) (page : Page) (left : List ℕ) : Type 0 where
  pub taken : List ℕ
  pub whole : taken ++ left ≡ more
  pub tells : Tells report₀ store₀ taken page₀ report store page
  pub countable : Countable report₀ store₀ (length more)

pub going_none : (more store : List ℕ) (report : Report) (page : Page) → Countable report store (length more) →
    Going more store report page store report page more
going_none more store report page c =
    record {
      taken = [];
      whole = refl;
      tells = record { goes = goes_none report store page.out.now page.at; same_buffer = refl };
      countable = c;
    }

module _ {more store₀ store left : List ℕ} {report₀ report : Report} {page₀ page : Page} (g : Going more store₀ report₀ page₀ store report page left) where
  -- what is left can still be counted
  pub going_countable : (count : ℕ) → count ≤ length left → Countable report store (length (take count left))
  going_countable count h =
      let c = g.countable in
      record {
        old = c.old;
        bytes = c.bytes ++ g.taken;
        behind = g.tells.goes.behind c.old c.bytes c.behind;
        few =
            omega (
              arith,
              length-append c.bytes g.taken,
              length-append g.taken left,
              ap (λ (xs : List ℕ). length xs) g.whole,
              length-take count left,
              c.few,
              h,
            );
      }

  pub going_more : (now later : List ℕ) → left ≡ now ++ later → {kept : List ℕ} {told : Report} {new : Page} →
      Tells report store now page told kept new → Going more store₀ report₀ page₀ kept told new later
  going_more now later e t =
      record {
        taken = g.taken ++ now;
        whole = append_assoc g.taken now later ∙ ap (λ (xs : List ℕ). g.taken ++ xs) (sym e) ∙ g.whole;
        tells = record { goes = goes_then now g.tells.goes t.goes; same_buffer = t.same_buffer ∙ g.tells.same_buffer };
        countable = g.countable;
      }

  pub going_all : length left ≤ 0 → Tells report₀ store₀ more page₀ report store page
  going_all h =
      subst (λ (xs : List ℕ). Tells report₀ store₀ xs page₀ report store page)
      (sym (append-nil g.taken) ∙ ap (λ (xs : List ℕ). g.taken ++ xs) (take_all 0 left h) ∙ g.whole) g.tells

pub countable_begun : CountableBegun
countable_begun store more room few =
    record { old = store; bytes = []; behind = behind_none store room; few = omega (arith, few) }

-- `report_text`: all bytes at once, from the beginning
pub countable_begun_law : {report : Report} (store : List ℕ) (count : ℕ) → report ≡ begun → length store ≡ store_size → count < 18446744073709551616 →
    Countable report store count
countable_begun_law {report} store count e room few =
    subst (λ (r : Report). Countable r store count) (sym e) (countable_begun store count room few)
