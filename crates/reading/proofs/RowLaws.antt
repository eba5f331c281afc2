-- One turn of the reader of rows: what is known before it, and the two ways in which it goes on.
-- Assumes nothing.
use Rattle.std.specs.Prelude.{Ok}
use Prim.Native.Nat.{ℕ, zero, suc, ◌+◌, ◌-◌, ◌*◌, ◌≤◌, ◌<◌}
use native.Mathlib.Omega.{arith}
use native.Mathlib.Numerals.{add-one}
use native.Mathlib.Decide.{ℕ_discrete}
use mathlib.Core.Path.{◌≡◌, refl, sym, ◌∙◌, ap, subst}
use mathlib.Core.Bool.{Bool, true, false}
use mathlib.Core.List.{List}
use mathlib.Core.Logic.{inl, inr}
use lib.Dec.{eqb, ltb}
use lib.ListN.{length}
use borrow.Author.Tests.{ne_eqb, eq-eqb, lt-ltb, le-ltb, ltb-true}
use Rattle.model.specs.Choice.{either}
use Rattle.model.specs.Tables.{Row}
use Rattle.model.specs.Search.{first_of}
use Rattle.model.proofs.Tests.{ltb?}
use Rattle.model.proofs.First as first_laws
use Rattle.tables.specs.declared.layout.Layout.{Layout}
use Rattle.tables.specs.declared.Refusal.{Refusal}
use Rattle.tables.specs.Layout.{layout_of, task_count, row_count, record_start, row_start, row_from, row_at, cost_in, place_in, semaphore_in}
use Rattle.tables.specs.Refusals.{Check, is_clean, unless, or_else, first_in, fields_check}
use Rattle.tables.specs.Fields.{row_order, row_refusal}
use Rattle.tables.specs.Rules.{between, row_in_order, row_after, row_test}
use Rattle.tables.specs.Checks.{row_check, rows_check, rows_read}
use Rattle.records.specs.Columns.{Holds}
use Rattle.records.specs.Reading.{HeadRead}
use Rattle.reading.specs.Rows.{row_key, at_row, row_fault}
use Rattle.tables.proofs.LayoutLaws.{start_small}
use Rattle.tables.proofs.FieldLaws.{stops_at, goes_on, goes_through}
use Rattle.tables.proofs.MeaningLaws.{between_means}
use Rattle.records.proofs.ColumnLaws.{sound, few_tasks_law, few_rows_law, rows_end}

-- the key of the row before row k: 0 before the first, which is below every key
pub key_before : List ℕ → ℕ → ℕ
key_before bytes zero = 0
key_before bytes (suc k) = row_key (row_at bytes k)

-- before row k is read
pub record Scanning (bytes : List ℕ) (n m : ℕ) (costs : List ℕ) (k start before : ℕ) : Type 0 where
  pub head : HeadRead bytes (layout_of bytes) n
  pub few_tasks : n < 256
  pub few_rows : m ≤ 64
  pub counted : m ≡ row_count bytes
  pub fits : row_start (layout_of bytes) n m ≤ length bytes
  pub held : Holds costs n (cost_in bytes)
  pub within : k ≤ m
  pub here : start ≡ row_start (layout_of bytes) n k
  pub clean : first_of is_clean (Ok tt) (row_check bytes) k ≡ Ok tt
  pub last : before ≡ key_before bytes k
  pub byte : (j : ℕ) → suc j ≡ k → semaphore_in bytes j < 256

-- one number orders the rows as the document does
key_order : (before row : Row) → before.semaphore < 256 → row.semaphore < 256 → ltb (row_key before) (row_key row) ≡ row_after before row
unfolding row_after
key_order before row h g =
    elim (ltb? before.place row.place) [
      | inl y ↦ rw y.0 (lt-ltb (row_key before) (row_key row) (omega (arith, y.1)))
      | inr x ↦
          elim (ℕ_discrete before.place row.place) [
            | yes e ↦
                elim (ltb? before.semaphore row.semaphore) [
                  | inl y ↦ rw (x.0, eq-eqb before.place row.place e, y.0) (lt-ltb (row_key before) (row_key row) (omega (arith, y.1)))
                  | inr z ↦ rw (x.0, eq-eqb before.place row.place e, z.0) (le-ltb (row_key before) (row_key row) (omega (arith, z.1)))
                ]
            | no e ↦ rw (x.0, ne_eqb before.place row.place e) (le-ltb (row_key before) (row_key row) (omega (arith, x.1)))
          ]
    ]

-- two checks in a row agree where the second agree wherever the first is clean
then_same : (test : Bool) (r : Refusal) {later later' : Check} → (test ≡ true → later ≡ later') →
    or_else (unless test r) later ≡ or_else (unless test r) later'
unfolding or_else unless
then_same true r h = h refl
then_same false r h = refl

-- the rules of a row agree where the cost agrees at a place below n, and the order at a semaphore of at least 1
row_same : (n start : ℕ) {cost cost' : ℕ} {in_order in_order' : Bool} (row : Row) → (row.place < n → cost ≡ cost') →
    (1 ≤ row.semaphore → in_order ≡ in_order') →
    fields_check (row_test n cost in_order row) (row_refusal start) row_order ≡ fields_check (row_test n cost' in_order' row) (row_refusal start) row_order
unfolding fields_check first_in row_test
row_same n start {cost} {cost'} {in_order} {in_order'} row costs orders =
    then_same (ltb row.place n) _
    (λ inside.
    rw (costs (ltb-true row.place n inside))
    (then_same (between 1 16 row.semaphore) _
    (λ right. rw (orders (between_means 1 16 row.semaphore right).low))))

-- the costs at hand, in whatever slice they are lent
pub costs_long : {n : ℕ} {f : ℕ → ℕ} {costs held : List ℕ} → costs ≡ held → Holds held n f → n ≤ length costs
costs_long {n} e h = subst (λ (words : List ℕ). n ≤ length words) (sym e) h.long

pub fault_of : (row : Row) (start n before : ℕ) (costs held : List ℕ) {checked : Check} → checked ≡ row_fault (at_row start n costs before) row → costs ≡ held →
    checked ≡ row_fault (at_row start n held before) row
fault_of row start n before costs held found e = found ∙ ap (λ (words : List ℕ). row_fault (at_row start n words before) row) e

module _ (bytes : List ℕ) (n m : ℕ) (costs : List ℕ) where
  pub scanning_none : (layout : Layout) → HeadRead bytes layout n → m ≡ row_count bytes → Holds costs n (cost_in bytes) →
      Scanning bytes n m costs 0 (5 + layout.size * n) 0
  unfolding key_before
  scanning_none layout h counted held =
      let own : HeadRead bytes (layout_of bytes) n = record { head = h.head; decided = refl; counted = h.counted } in
      record {
        head = own;
        few_tasks = few_tasks_law bytes layout n h;
        few_rows = omega (arith, few_rows_law bytes layout n h, counted);
        counted = counted;
        fits = omega (arith, rows_end bytes (layout_of bytes) n own, counted);
        held = held;
        within = omega arith;
        here = ap (λ (l : Layout). record_start l n) h.decided ∙ omega arith;
        clean = first_laws.first_none is_clean (Ok tt) refl (row_check bytes);
        last = refl;
        byte = λ j e. absurd (omega arith);
      }

  module _ (k start before : ℕ) (s : Scanning bytes n m costs k start before) (h : k < m) (row : Row) (is : row ≡ row_from bytes start)
      (small : row.semaphore < 256) where
    here : start ≡ row_start (layout_of bytes) (task_count bytes) k
    here = s.here ∙ ap (λ (t : ℕ). row_start (layout_of bytes) t k) s.head.counted

    -- the row begins near the start of the bytes
    pub row_near : start < 65536
    row_near = omega (arith, s.here, start_small (layout_of bytes) (sound bytes (layout_of bytes) n s.head) s.few_tasks, s.few_rows)

    -- what was read is the row of that number
    pub as_row : row ≡ row_at bytes k
    as_row = is ∙ ap (row_from bytes) here

    semaphore_small : semaphore_in bytes k < 256
    semaphore_small = subst (λ (r : Row). r.semaphore < 256) as_row small

    -- the order test of the code is the rule's
    order_test : 1 ≤ semaphore_in bytes k → ltb before (row_key (row_at bytes k)) ≡ row_in_order bytes k (row_at bytes k)
    unfolding key_before
    order_test one = go k s.last s.byte
      where
        go : (j : ℕ) → before ≡ key_before bytes j → ((i : ℕ) → suc i ≡ j → semaphore_in bytes i < 256) →
            ltb before (row_key (row_at bytes k)) ≡ either (eqb j 0) (row_after (row_at bytes (j - 1)) (row_at bytes k))
        go zero e b = lt-ltb before (row_key (row_at bytes k)) (omega (arith, e))
        go (suc j) e b =
            let back : suc j - 1 ≡ j = omega arith in
            rw (e, back, ne_eqb (suc j) 0 (λ (z : suc j ≡ 0). omega arith))
            (key_order (row_at bytes j) (row_at bytes k) (b j refl) semaphore_small)

    -- what the code finds in the row is what the check of row k finds
    fault_same : row_fault (at_row start n costs before) row ≡ row_check bytes k
    unfolding row_check
    fault_same =
        ap (λ (r : Row). row_fault (at_row start n costs before) r) as_row
        ∙ ap (λ (o : ℕ). row_fault (at_row o n costs before) (row_at bytes k)) here
        ∙ row_same n (row_start (layout_of bytes) (task_count bytes) k) (row_at bytes k) (λ inside. s.held.read (place_in bytes k) inside) order_test
        ∙ ap
        (λ (t : ℕ).
        fields_check (row_test t (cost_in bytes (place_in bytes k)) (row_in_order bytes k (row_at bytes k)) (row_at bytes k))
        (row_refusal (row_start (layout_of bytes) (task_count bytes) k)) row_order)
        s.head.counted

    module _ (checked : Check) (found : checked ≡ row_fault (at_row start n costs before) row) where
      pub row_wrong : is_clean checked ≡ false → (checked ≡ rows_check bytes) × (rows_read bytes ≡ k)
      unfolding rows_check
      row_wrong wrong =
          stops_at (row_check bytes) k s.clean (row_count bytes) (omega (arith, s.counted)) checked (sym fault_same ∙ sym found) wrong

      pub scanning_more : checked ≡ Ok tt → (next : ℕ) → next ≡ row_key row → Scanning bytes n m costs (k + 1) (start + 6) next
      unfolding key_before
      scanning_more e next key =
          record {
            head = s.head;
            few_tasks = s.few_tasks;
            few_rows = s.few_rows;
            counted = s.counted;
            fits = s.fits;
            held = s.held;
            within = omega arith;
            here = omega (arith, s.here);
            clean = goes_on (row_check bytes) k s.clean (sym fault_same ∙ sym found ∙ e);
            last = rw add-one (key ∙ ap row_key as_row);
            byte = λ j p.
                let same : j ≡ k = omega arith in
                rw same semaphore_small;
          }

  pub scanning_all : {k start before : ℕ} → Scanning bytes n m costs k start before → m ≤ k → (Ok tt ≡ rows_check bytes) × (rows_read bytes ≡ k)
  unfolding rows_check
  scanning_all {k} s h = goes_through (row_check bytes) k s.clean (row_count bytes) (omega (arith, s.counted, s.within))
