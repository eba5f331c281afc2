-- One turn of the loop that joins the periods.
-- Assumes nothing.
use Rattle.std.specs.Prelude.{Some, None}
use Prim.Native.Nat.{ℕ, zero, suc, ◌+◌, ◌≤◌, ◌<◌, ◌∣◌}
use native.Mathlib.Omega.{arith}
use mathlib.Core.Path.{◌≡◌, refl, sym, ◌∙◌, ap, subst}
use mathlib.Core.List.{List, [], ◌∷◌, map, map-append}
use lib.ListN.{length, get_or}
use borrow.Author.Tests.{le-leb, lt-leb}
use Rattle.model.specs.Lists.{tabulate}
use Rattle.model.proofs.Lists.{tabulate_more, tabulate_none, length_tabulate, get_d_tabulate}
use Rattle.tables.specs.Layout.{word_at, task_count, task_at, tasks_of, period_in}
use Rattle.tables.specs.Fields.{period_field}
use Rattle.tables.specs.Meaning.{TableRight}
use Rattle.tables.proofs.WalkLaws.{Walking, Turn, walked, period_is, period_within, walking_more}
use Rattle.multiples.specs.Multiples.{least_multiple, AllDivide, IsLeastMultiple, AllPositive, shown, period_of, hyperperiod_of, TablePeriods, ShownDrawn}
use Rattle.multiples.proofs.MultipleLaws.{least_multiple_right, is_found, least_none, pair_right, least_more}

-- the periods of the first i tasks
abbrev periods : List ℕ → ℕ → List ℕ
periods bytes i = tabulate (period_in bytes) i

map_tabulate : {A B : Type 0} (g : A → B) (f : ℕ → A) (h : ℕ → B) → ((k : ℕ) → h k ≡ g (f k)) → (n : ℕ) → map g (tabulate f n) ≡ tabulate h n
unfolding tabulate
map_tabulate g f h same zero = refl
map_tabulate g f h same (suc n) =
    map-append g (tabulate f n) (f n ∷ []) ∙ rw (map_tabulate g f h same n, same n)

module _ (bytes : List ℕ) where
  periods_are : map period_of (tasks_of bytes) ≡ periods bytes (task_count bytes)
  periods_are = map_tabulate period_of (task_at bytes) (period_in bytes) (λ k. refl) (task_count bytes)

  period_at : (n i : ℕ) → i < length (periods bytes n) → get_or (periods bytes n) i 1 ≡ period_in bytes i
  period_at n i l = get_d_tabulate (period_in bytes) n i 1 (omega (arith, length_tabulate (period_in bytes) n))

  all_positive : TableRight bytes → AllPositive (periods bytes (task_count bytes))
  all_positive right i l =
      rw (period_at (task_count bytes) i l)
      (right.records i (omega (arith, length_tabulate (period_in bytes) (task_count bytes))) period_field).low

  -- what all periods divide, the first ones divide
  first_divide : (n i w : ℕ) → i ≤ n → AllDivide (periods bytes n) w → AllDivide (periods bytes i) w
  first_divide n i w within all k l =
      let there : k < length (periods bytes n) =
      omega (arith, length_tabulate (period_in bytes) n, length_tabulate (period_in bytes) i) in
      subst (λ (p : ℕ). p ∣ w) (period_at n k there ∙ sym (period_at i k l)) (all k there)

  -- so that the multiple of all is no less than that of the first ones
  first_less : TableRight bytes → (i m : ℕ) → i ≤ task_count bytes → IsLeastMultiple (periods bytes i) m → m ≤ least_multiple (map period_of (tasks_of bytes))
  first_less right i m within least =
      let all = least_multiple_right (periods bytes (task_count bytes)) (all_positive right) in
      rw periods_are
      (least.least (least_multiple (periods bytes (task_count bytes))) all.positive
      (first_divide (task_count bytes) i (least_multiple (periods bytes (task_count bytes))) within all.multiple))

pub shown_drawn : ShownDrawn
shown_drawn = (refl, refl)

pub table_periods : TablePeriods
table_periods bytes right = rw (periods_are bytes) (all_positive bytes right)

-- what is shown of a multiple
shown_over : (m : ℕ) → 1000000000000 < m → None ≡ shown m
shown_over m h = rw (lt-leb m 1000000000000 h)

shown_number : (m : ℕ) → m ≤ 1000000000000 → Some m ≡ shown m
shown_number m h = rw (le-leb m 1000000000000 h)

-- before the period of task i is joined to those before it
pub record Joining (bytes : List ℕ) (size left i : ℕ) (rest : List ℕ) (common : ℕ) : Type 0 where
  pub walk : Walking bytes size left i rest
  pub least : IsLeastMultiple (periods bytes i) common
  pub small : common ≤ 1000000000000

pub joining_first : {bytes rest : List ℕ} {size left : ℕ} → Walking bytes size left 0 rest → Joining bytes size left 0 rest 1
joining_first {bytes} walk =
    record {
      walk = walk;
      least = rw (tabulate_none (period_in bytes)) least_none;
      small = omega arith;
    }

module _ {bytes : List ℕ} {size left i : ℕ} {rest : List ℕ} {common : ℕ} (j : Joining bytes size left i rest common) where
  -- behind the last period
  pub joining_all : (0 < left → length rest < size) → Some common ≡ hyperperiod_of (tasks_of bytes)
  joining_all none =
      let same : common ≡ least_multiple (map period_of (tasks_of bytes)) =
      is_found (periods bytes i) common j.least
      ∙ ap (λ (k : ℕ). least_multiple (periods bytes k)) (walked j.walk none)
      ∙ ap least_multiple (sym (periods_are bytes)) in
      shown_number common j.small ∙ ap shown same

  module _ {found after : List ℕ} {kept less : ℕ} (t : Turn size left rest found kept less after)
      {period next : ℕ} (p : period ≡ word_at found 1) (e : next ≡ least_multiple (common ∷ (period ∷ []))) where
    next_least : IsLeastMultiple (periods bytes (i + 1)) next
    next_least =
        rw (tabulate_more (period_in bytes) i, e, period_is j.walk t p)
        (least_more (periods bytes i) (period_in bytes i) common (least_multiple (common ∷ (period_in bytes i ∷ []))) j.least
        (pair_right common (period_in bytes i) j.least.positive (period_within j.walk t).low))

    pub joining_over : 1000000000000 < next → None ≡ hyperperiod_of (tasks_of bytes)
    joining_over far =
        shown_over (least_multiple (map period_of (tasks_of bytes)))
        (omega (arith, first_less bytes j.walk.right (i + 1) next (omega (arith, j.walk.counted, t.taken)) next_least))

    pub joining_more : {n : ℕ} → n ≡ i + 1 → next ≤ 1000000000000 → Joining bytes kept less n after next
    joining_more e near = rw e (record { walk = walking_more j.walk t; least = next_least; small = near })
