-- One turn of the loop over the tasks of a decoded table.
-- Assumes nothing.
use Prim.Native.Nat.{ℕ, ◌+◌, ◌-◌, ◌<◌}
use native.Mathlib.Omega.{arith}
use native.Mathlib.Numerals.{add-one}
use mathlib.Core.Path.{◌≡◌, refl, sym, ◌∙◌, ap, subst}
use lib.ListN.{get_or}
use Rattle.model.specs.Choice.{pick}
use Rattle.model.specs.Search.{first_of}
use Rattle.model.proofs.First.{first_none}
use Rattle.tables.specs.Refusals.{at}
use Rattle.equation.specs.declared.Start.TheVariants.{EveryCost}
use Rattle.marks.specs.Marks.{PeriodsHigh, first_mark_at, least_from, never}
use Rattle.marks.proofs.PassLaws.{least_low_law}
use Rattle.answering.specs.Slices.{Decoded, DecodedFits, GroupFound}
use Rattle.answering.proofs.AnsweringLaws.{loads_are, loads_fit_law, solvable, begun}
use Rattle.overlaps.specs.declared.Found.{Found}
use Rattle.overlaps.specs.declared.Found.TheVariants.{Schedulable}
use Rattle.overlaps.specs.Outcome.{is_schedulable, said_by, said_at, result_of}
use Rattle.jobs.specs.Slices.{studied_from, Beginnable, LongestBy}
use Rattle.overlaps.specs.Columns.{longest_in, tried_in}

module _ (d : Decoded) (n : ℕ) where
  pub result_none : Schedulable ≡ result_of (longest_in d n) 0
  result_none = sym (first_none is_schedulable Schedulable refl (said_at (longest_in d n)))

  pub result_more : (i : ℕ) (found next : Found) (word : ℕ) → found ≡ result_of (longest_in d n) i → word ≡ longest_in d n i →
      next ≡ pick (is_schedulable found) (said_by word (at i)) found → next ≡ result_of (longest_in d n) (i + 1)
  unfolding first_of
  result_more i found next word before e step =
      rw add-one
      (step
      ∙ ap (λ (w : ℕ). pick (is_schedulable found) (said_by w (at i)) found) e
      ∙ ap (λ (f : Found). pick (is_schedulable f) (said_by (longest_in d n i) (at i)) f) before)

  pub result_all : (i : ℕ) (found : Found) → found ≡ result_of (longest_in d n) i → n ≡ i → found ≡ result_of (longest_in d n) n
  result_all i found is all = subst (λ (k : ℕ). found ≡ result_of (longest_in d n) k) (sym all) is

  module _ (i : ℕ) (f : DecodedFits d n) (h : i < n) (before_end before_sum count all end sum : ℕ)
      (group : GroupFound d.priorities d.costs n i before_end before_sum count all end sum) where
    -- the task may be begun: its first term is the first analysis's default
    pub beginnable : PeriodsHigh d.periods n → (least : ℕ) → least ≡ least_from never (first_mark_at d.periods d.spreads) n →
        Beginnable d.periods d.costs d.spreads i count
        (studied_from d.periods d.costs d.spreads i count (get_or d.held i 0) (get_or d.costs i 0) (get_or d.periods i 0) (get_or d.deadlines i 0))
        (all - get_or d.costs i 0) least
    beginnable tall least e =
        let first = get_or d.costs i 0 + get_or d.held i 0 + (all - get_or d.costs i 0) in
        record {
          fit = loads_fit_law d n i f h before_end before_sum count all end sum group;
          numbers =
              record {
                blocking_high = f.held_high i h;
                cost_low = f.cost_low i h;
                cost_high = f.ranked.cost_high i h;
                period_high = tall i h;
                deadline_high = f.deadline_high i h;
              };
          begun = begun d n i f h before_end before_sum count all end sum group EveryCost first refl tall least e;
          not_above = (solvable d n i f h before_end before_sum count all end sum group EveryCost first refl).not_above;
          least_own = omega (arith, e, least_low_law never (first_mark_at d.periods d.spreads) n i h);
        }

    module _ (word spent : ℕ)
        (found : LongestBy
        (studied_from d.periods d.costs d.spreads i count (get_or d.held i 0) (get_or d.costs i 0) (get_or d.periods i 0) (get_or d.deadlines i 0))
        word spent) where
      pub word_is_law : word ≡ longest_in d n i
      unfolding longest_in
      word_is_law = rw (loads_are d n i f h before_end before_sum count all end sum group) at found.word_is

      pub tried_is_law : spent ≡ tried_in d n i
      unfolding tried_in
      tried_is_law = rw (loads_are d n i f h before_end before_sum count all end sum group) at found.tried_is
