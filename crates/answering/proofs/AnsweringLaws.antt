-- One turn of the loop over the tasks of a decoded table.
-- Assumes nothing.
use Prim.Native.Nat.{ℕ, ◌+◌, ◌-◌, ◌≤◌, ◌<◌}
use native.Mathlib.Omega.{arith}
use native.Mathlib.Numerals.{add-one}
use mathlib.Core.Path.{◌≡◌, refl, sym, ◌∙◌, ap, subst}
use lib.ListN.{get_or}
use mathlib.Core.Bool.{Bool, true, false}
use lib.Dec.{eqb}
use Rattle.model.specs.declared.Place.{Place}
use Rattle.model.specs.Choice.{pick}
use Rattle.model.specs.Lists.{sum_of, total, word_of}
use Rattle.model.specs.Tables.{interferes}
use Rattle.model.specs.Search.{first_of}
use Rattle.model.proofs.First.{first_none}
use Rattle.tables.specs.Refusals.{at}
use Rattle.equation.specs.declared.Start.{Start}
use Rattle.equation.specs.declared.Start.TheVariants.{EveryCost, OwnCost}
use Rattle.equation.specs.Slices.{loads, load_at, LoadsFit}
use Rattle.marks.specs.Marks.{PeriodsHigh, first_mark_at, least_from, never, Begun}
use Rattle.equation.proofs.SliceLaws.{loads_less}
use Rattle.marks.proofs.PassLaws.{least_low_law}
use Rattle.marks.proofs.MarkLaws.{marks_fit}
use Rattle.equation.specs.Laws.{NotAbove, cost_of}
use Rattle.solver.specs.Solver.{Solvable, SolvedBy}
use Rattle.equation.specs.Starts.{first_term, start_from}
use Rattle.equation.proofs.StartLaws.{both_starts, periods_low, costs_others}
use Rattle.answering.specs.declared.Verdict.{Verdict}
use Rattle.answering.specs.declared.Verdict.TheVariants.{Refused, Schedulable, Late}
use Rattle.answering.specs.Results.{is_schedulable, late_if, late_at, result_of}
use Rattle.answering.specs.Slices.{Decoded, DecodedFits, loads_in, answer_in, rounds_in, group_end, GroupBefore, GroupFound}
use Rattle.answering.proofs.GroupLaws.{own_inside, end_within, loads_around, costs_high, group_first, group_next, found_loads, count_within, own_within, cost_inside}

-- the verdict with one answer more is that of the first late place
with_answer : (late : Bool) (verdict : Verdict) (place : Place) →
    pick late (pick (is_schedulable verdict) (Late place) verdict) verdict ≡ pick (is_schedulable verdict) (pick late (Late place) Schedulable) verdict
with_answer true verdict place = refl
with_answer false (Refused refusal) place = refl
with_answer false Schedulable place = refl
with_answer false (Late first) place = refl

-- before task i is looked at: the last group that was looked for, and `reached`, one cost of every task before i
pub record Walking (d : Decoded) (n i end sum reached : ℕ) : Type 0 where
  pub fits : DecodedFits d n
  pub within : i ≤ n
  pub summed : reached ≡ total (word_of d.costs) i
  pub group : GroupBefore d.priorities d.costs n i end sum

module _ (d : Decoded) (n : ℕ) where
  pub walking_none : DecodedFits d n → Walking d n 0 0 0 0
  unfolding total
  walking_none f =
      record {
        fits = f;
        within = omega arith;
        summed = refl;
        group = group_first d.priorities d.costs n;
      }

  pub result_none : Schedulable ≡ result_of (answer_in d n) 0
  result_none = sym (first_none is_schedulable Schedulable refl (late_at (answer_in d n)))

  -- cost and blocking fit a word
  pub base_fits : (i : ℕ) → DecodedFits d n → i < n → get_or d.costs i 0 + get_or d.held i 0 ≤ 2000000
  base_fits i f h = omega (arith, f.held_high i h, f.loads_fit.each i h)

  -- the group of the task, as it was found
  module _ (i : ℕ) (f : DecodedFits d n) (h : i < n) (before_end before_sum count all end sum : ℕ)
      (found : GroupFound d.priorities d.costs n i before_end before_sum count all end sum) where
    -- the loads of so many places, without the own one, are the task's
    pub loads_are : loads d.periods d.costs d.spreads i count ≡ loads_in d n i
    loads_are =
        found_loads d.priorities d.costs n f.ranked i before_end before_sum count all end sum h found (load_at d.periods d.costs d.spreads)

    -- one cost of each
    others_are_law : all - get_or d.costs i 0 ≡ sum_of cost_of (loads_in d n i)
    others_are_law =
        omega (
          arith,
          found.all_is,
          ap (sum_of cost_of) (loads_around d.priorities d.costs n f.ranked i (load_at d.periods d.costs d.spreads)),
          costs_others d.periods d.costs d.spreads i (group_end d.priorities n i) (own_inside d.priorities d.costs n f.ranked i h),
        )

    pub others_once : all - get_or d.costs i 0 ≡ sum_of cost_of (loads d.periods d.costs d.spreads i count)
    others_once = others_are_law ∙ ap (sum_of cost_of) (sym loads_are)

    pub own_cost : get_or d.costs i 0 ≤ all
    own_cost = cost_inside d.priorities d.costs n f.ranked i before_end before_sum count all end sum h found

    all_high : all ≤ 200000000
    all_high =
        omega (
          arith,
          found.all_is,
          costs_high d.priorities d.costs n f.ranked (group_end d.priorities n i) (end_within d.priorities d.costs n f.ranked i),
        )

    pub count_high : count ≤ n
    count_high = count_within d.priorities d.costs n f.ranked i before_end before_sum count all end sum h found

    pub own_first : i ≤ count
    own_first = own_within d.priorities d.costs n f.ranked i before_end before_sum count all end sum h found

    pub loads_fit_law : LoadsFit d.periods d.costs d.spreads count
    loads_fit_law = loads_less f.loads_fit count_high

    -- the first term fits a word
    pub first_fits : get_or d.costs i 0 + get_or d.held i 0 + (all - get_or d.costs i 0) ≤ 1000000000
    first_fits = omega (arith, base_fits i f h, all_high)

    module _ (start : Start) (first : ℕ) (first_is : first ≡ first_term start (get_or d.costs i 0 + get_or d.held i 0) (all - get_or d.costs i 0)) where
      -- the sum of costs is that of the definition
      first_is_law : first ≡ start_from start (get_or d.costs i 0 + get_or d.held i 0) (loads_in d n i)
      first_is_law =
          rw others_are_law at first_is

      first_high : (s : Start) → first_term s (get_or d.costs i 0 + get_or d.held i 0) (all - get_or d.costs i 0) ≤ 1000000000
      first_high EveryCost = first_fits
      first_high OwnCost = omega (arith, base_fits i f h)

      -- the sequence may start at either: every solution is at least that
      pub solvable : Solvable (get_or d.costs i 0 + get_or d.held i 0) (loads d.periods d.costs d.spreads i count) first (get_or d.latest i 0) (get_or d.deadlines i 0)
      solvable =
          let base = get_or d.costs i 0 + get_or d.held i 0 in
          rw loads_are
          (record {
            base_positive = omega (arith, f.cost_low i h);
            not_above =
                subst (NotAbove base (loads_in d n i)) (sym first_is_law)
                (both_starts.not_above start base (loads_in d n i)
                (periods_low (interferes (word_of d.priorities) i) (load_at d.periods d.costs d.spreads) n
                (λ k l. (f.loads_fit.each k l).period_low)));
            start_high = omega (arith, first_is, first_high start);
            late_high = f.latest_high i h;
            deadline_high = omega (arith, f.deadline_high i h);
          })

      -- either start is at least the own cost
      first_low : (s : Start) → 1 ≤ first_term s (get_or d.costs i 0 + get_or d.held i 0) (all - get_or d.costs i 0)
      first_low EveryCost = omega (arith, f.cost_low i h)
      first_low OwnCost = omega (arith, f.cost_low i h)

      -- what the solver knows before its first round
      pub begun : PeriodsHigh d.periods n → (least : ℕ) → least ≡ least_from never (first_mark_at d.periods d.spreads) n →
          Begun d.periods d.spreads count (loads d.periods d.costs d.spreads i count) (get_or d.costs i 0 + get_or d.held i 0)
          (all - get_or d.costs i 0) first least
      begun tall least e =
          record {
            period_high = λ k l. tall k (omega (arith, count_high));
            others_are = others_once;
            once_high = first_fits;
            start_low = omega (arith, first_is, first_low start);
            least_high =
                omega (
                  arith,
                  e,
                  least_low_law never (first_mark_at d.periods d.spreads) n i h,
                  marks_fit.first (get_or d.periods i 0) (get_or d.spreads i 0) (tall i h),
                );
            least_low = λ k l. omega (arith, e, count_high, least_low_law never (first_mark_at d.periods d.spreads) n k (omega (arith, count_high)));
          }

      module _ (late : Bool) (response spent : ℕ)
          (solved : SolvedBy (get_or d.costs i 0 + get_or d.held i 0) (loads d.periods d.costs d.spreads i count) first (get_or d.latest i 0) (get_or d.deadlines i 0) late response spent) where
        pub response_is : response ≡ answer_in d n i
        unfolding answer_in
        response_is = rw loads_are at solved.response

        pub rounds_are_law : spent ≡ rounds_in start d n i
        unfolding rounds_in
        rounds_are_law = rw loads_are at (rw first_is_law at solved.rounds)

    pub walking_more : (before reached : ℕ) → Walking d n i before_end before_sum before → reached ≡ total (word_of d.costs) (i + 1) →
        Walking d n (i + 1) end sum reached
    walking_more before reached a is =
        record {
          fits = f;
          within = omega arith;
          summed = is;
          group = group_next d.priorities d.costs n f.ranked i before_end before_sum count all end sum h found a.group;
        }

  pub result_more : (i : ℕ) (verdict next : Verdict) (late : Bool) (response : ℕ) → verdict ≡ result_of (answer_in d n) i →
      response ≡ answer_in d n i → late ≡ eqb response 0 → next ≡ pick late (pick (is_schedulable verdict) (Late (at i)) verdict) verdict →
      next ≡ result_of (answer_in d n) (i + 1)
  unfolding first_of
  result_more i verdict next late response before e late_is step =
      rw add-one
      (step
      ∙ with_answer late verdict (at i)
      ∙ ap (λ (b : Bool). pick (is_schedulable verdict) (pick b (Late (at i)) Schedulable) verdict) (late_is ∙ ap (λ (x : ℕ). eqb x 0) e)
      ∙ ap (λ (v : Verdict). pick (is_schedulable v) (late_if (answer_in d n i) (at i)) v) before)

  -- once no task is left, i is their number
  pub walked_all : (i end sum reached : ℕ) → Walking d n i end sum reached → n ≤ i → n ≡ i
  walked_all i end sum reached a h = omega (arith, a.within)

  pub result_all : (i : ℕ) (verdict : Verdict) → verdict ≡ result_of (answer_in d n) i → n ≡ i → verdict ≡ result_of (answer_in d n) n
  result_all i verdict is all = subst (λ (k : ℕ). verdict ≡ result_of (answer_in d n) k) (sym all) is
