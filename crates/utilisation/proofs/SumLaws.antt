-- One turn of the loop that sums the shares.
-- Assumes nothing.
use Prim.Native.Nat.{ℕ, zero, suc, ◌+◌, ◌*◌, ◌≤◌, ◌<◌}
use native.Mathlib.Numerals.{add-one}
use native.Mathlib.Omega.{arith}
use mathlib.Core.Path.{◌≡◌, refl, ◌∙◌, ap}
use mathlib.Core.List.{List, [], ◌∷◌}
use lib.ListN.{length}
use Rattle.model.specs.Lists.{sum_of, tabulate}
use Rattle.model.proofs.Lists.{sum_append}
use Rattle.equation.proofs.RoundingLaws.{at_most}
use Rattle.tables.specs.Layout.{word_at, task_count, task_at, tasks_of, period_in, cost_in}
use Rattle.tables.specs.Fields.{task_count_field, period_field, cost_field}
use Rattle.tables.specs.Meaning.{TableRight}
use Rattle.tables.proofs.LayoutLaws.{layout_sound}
use Rattle.tables.proofs.WalkLaws.{Walking, Turn, walked, cost_is, period_is, walking_more}
use Rattle.utilisation.specs.Utilisation.{share_of, task_share, utilisation_of}

-- the sum over the first i tasks
abbrev summed : List ℕ → ℕ → ℕ
summed bytes i = sum_of task_share (tabulate (task_at bytes) i)

module _ (bytes : List ℕ) where
  sum_more : (i : ℕ) → summed bytes (suc i) ≡ summed bytes i + share_of (cost_in bytes i) (period_in bytes i)
  unfolding sum_of tabulate
  sum_more i = sum_append task_share (tabulate (task_at bytes) i) (task_at bytes i ∷ []) ∙ omega arith

  module _ (right : TableRight bytes) where
    -- no share of an accepted table is above that of 1,000,000 ticks in each one
    share_small : (i : ℕ) → i < task_count bytes → share_of (cost_in bytes i) (period_in bytes i) ≤ 1000000000000
    share_small i inside =
        omega (
          arith,
          at_most (1000000 * cost_in bytes i) (period_in bytes i) (right.records i inside period_field).low,
          (right.records i inside cost_field).high,
        )

    sum_small : (i : ℕ) → i ≤ task_count bytes → summed bytes i ≤ i * 1000000000000
    unfolding sum_of tabulate
    sum_small zero within = omega arith
    sum_small (suc i) within = omega (arith, sum_more i, sum_small i (omega arith), share_small i within)

    -- so that every sum fits 64 bits
    pub sum_fits : (i : ℕ) → i ≤ task_count bytes → summed bytes i ≤ 200000000000000
    sum_fits i within =
        omega (
          arith,
          sum_small i within,
          (right.head.counts task_count_field).high,
          (layout_sound bytes right.head.version).few,
        )

-- before the share of task i is added
pub record Summing (bytes : List ℕ) (size left i : ℕ) (rest : List ℕ) (sum : ℕ) : Type 0 where
  pub walk : Walking bytes size left i rest
  pub added : sum ≡ summed bytes i

pub summing_first : {bytes rest : List ℕ} {size left : ℕ} → Walking bytes size left 0 rest → Summing bytes size left 0 rest 0
unfolding sum_of tabulate
summing_first walk = record { walk = walk; added = refl }

module _ {bytes : List ℕ} {size left i : ℕ} {rest : List ℕ} {sum : ℕ} (s : Summing bytes size left i rest sum) where
  pub summing_all : (0 < left → length rest < size) → sum ≡ utilisation_of (tasks_of bytes)
  summing_all none = s.added ∙ ap (summed bytes) (walked s.walk none)

  module _ {found after : List ℕ} {kept less : ℕ} (t : Turn size left rest found kept less after)
      {cost period share : ℕ} (c : cost ≡ word_at found 5) (p : period ≡ word_at found 1) (e : share ≡ share_of cost period) where
    next_sum : sum + share ≡ summed bytes (i + 1)
    next_sum =
        let same : share ≡ share_of (cost_in bytes i) (period_in bytes i) = rw (e, cost_is s.walk t c, period_is s.walk t p) in
        rw (add-one i) (omega (arith, s.added, sum_more bytes i))

    pub next_fits : sum + share ≤ 200000000000000
    next_fits = omega (arith, next_sum, sum_fits bytes s.walk.right (i + 1) (omega (arith, s.walk.counted, t.taken)))

    pub summing_more : {next : ℕ} → next ≡ i + 1 → Summing bytes kept less next after (sum + share)
    summing_more e = rw e (record { walk = walking_more s.walk t; added = next_sum })
