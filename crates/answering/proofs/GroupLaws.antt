-- Where priorities do not rise, the tasks that are at least as urgent as a task stand before all others: its group ends where they do.
-- Assumes nothing.
use Prim.Native.Nat.{ℕ, zero, suc, ◌+◌, ◌≤◌, ◌<◌}
use native.Mathlib.Omega.{arith}
use native.Mathlib.Decide.{ℕ_discrete, dec_lt}
use native.Mathlib.Nat.{le_refl}
use native.Mathlib.Numerals.{add-one}
use mathlib.Core.Path.{◌≡◌, refl, sym, ◌∙◌, ap}
use mathlib.Core.Logic.{inl, inr}
use mathlib.Core.List.{List}
use lib.Dec.{leb}
use borrow.Author.Tests.{le-leb, lt-leb, eq-eqb, ne_eqb}
use Rattle.model.specs.Choice.{on}
use Rattle.model.specs.Lists.{total, gather, word_of}
use Rattle.model.specs.Tables.{Load, interferes, is_other}
use Rattle.model.proofs.Tests.{leb?, eqb?, both_fail, both_unit}
use Rattle.model.proofs.Gather.{gather_same, gather_rest, gather_fail}
use Rattle.model.proofs.Loads.{total_other, other_own}
use Rattle.model.proofs.Totals.{total_high}
use Rattle.answering.specs.Slices.{group_end, Ranked, GroupBefore, GroupFound}

-- the first `end` of n tasks are at least as urgent as the one at place i, and the others are not
record Cut (priorities : List ℕ) (n i end : ℕ) : Type 0 where
  within : end ≤ n
  passes : (k : ℕ) → k < end → word_of priorities i ≤ word_of priorities k
  fails : (k : ℕ) → end ≤ k → k < n → word_of priorities k < word_of priorities i

module _ (priorities costs : List ℕ) where
  -- no later task is more urgent
  not_above_law : (n : ℕ) → Ranked priorities costs n → (k l : ℕ) → k ≤ l → l < n → word_of priorities l ≤ word_of priorities k
  not_above_law n r k zero h m = let same : k ≡ 0 = omega arith in rw same (le_refl (word_of priorities 0))
  not_above_law n r k (suc l) h m =
      elim (ℕ_discrete k (suc l)) [
        | yes e ↦ rw e (le_refl (word_of priorities (suc l)))
        | no d ↦ omega (arith, not_above_law n r k l (omega arith) (omega arith), r.not_rising l m)
      ]

  -- the costs up to a place fit a word
  pub costs_high : (n : ℕ) → Ranked priorities costs n → (k : ℕ) → k ≤ n → total (word_of costs) k ≤ 200000000
  costs_high n r k h = omega (arith, total_high (word_of costs) k 1000000 (λ j l. r.cost_high j (omega arith)), r.few)

  -- one cost more, and it fits a word
  pub reached_more : (i before : ℕ) → before ≡ total (word_of costs) i → before + word_of costs i ≡ total (word_of costs) (i + 1)
  unfolding total
  reached_more i before is = rw add-one (omega (arith, is))

  pub reached_fits : (n : ℕ) → Ranked priorities costs n → (i before : ℕ) → i < n → before ≡ total (word_of costs) i →
      before + word_of costs i ≤ 200000000
  reached_fits n r i before h is = omega (arith, reached_more i before is, costs_high n r (i + 1) (omega arith))

  module _ (n : ℕ) (r : Ranked priorities costs n) (i : ℕ) where
    -- where they end is how many they are
    count_cut : (m : ℕ) → m ≤ n → Cut priorities m i (group_end priorities m i)
    unfolding total
    count_cut zero h = record { within = omega arith; passes = λ k l. absurd (omega arith); fails = λ k l u. absurd (omega arith) }
    count_cut (suc m) h =
        let before = count_cut m (omega arith) in
        let end : ℕ = group_end priorities m i in
        elim (leb? (word_of priorities i) (word_of priorities m)) [
          | inl p ↦
              let all : end ≡ m =
              elim (dec_lt end m) [
                | yes l ↦ absurd (omega (arith, before.fails end (omega arith) l, not_above_law n r end m (omega arith) (omega arith), p.1))
                | no l ↦ omega (arith, before.within)
              ] in
              rw p.0
              (record {
                within = omega arith;
                passes = λ k l. omega (arith, not_above_law n r k m (omega arith) (omega arith), p.1);
                fails = λ k l u. absurd (omega arith);
              })
          | inr p ↦
              rw p.0
              (record {
                within = omega (arith, before.within);
                passes = λ k l. before.passes k (omega arith);
                fails = λ k l u.
                    elim (ℕ_discrete k m) [ yes e ↦ rw e p.1 | no d ↦ before.fails k (omega arith) (omega arith) ];
              })
        ]

    cut : Cut priorities n i (group_end priorities n i)
    cut = count_cut n (le_refl n)

    -- the task itself is of its group
    pub own_inside : i < n → i < group_end priorities n i
    own_inside h =
        elim (dec_lt i (group_end priorities n i)) [
          | yes l ↦ l
          | no l ↦ absurd (omega (arith, cut.fails i (omega arith) h))
        ]

    pub end_within : group_end priorities n i ≤ n
    end_within = cut.within

    -- a place that parts those that are as urgent from those that are not is where they end
    only_cut : (end : ℕ) → Cut priorities n i end → end ≡ group_end priorities n i
    only_cut end c =
        elim (dec_lt end (group_end priorities n i)) [
          | yes l ↦ absurd (omega (arith, cut.passes end l, c.fails end (omega arith) (omega (arith, cut.within))))
          | no l ↦ elim (dec_lt (group_end priorities n i) end) [
            | yes m ↦
                absurd (omega (
                  arith,
                  c.passes (group_end priorities n i) m,
                  cut.fails (group_end priorities n i) (omega arith) (omega (arith, c.within)),
                ))
            | no m ↦ omega arith
          ]
        ]

    -- so the tasks that interfere are the others before that end
    pub loads_around : (load : ℕ → Load) →
        gather (interferes (word_of priorities) i) load n ≡ gather (is_other i) load (group_end priorities n i)
    loads_around load =
        gather_rest (interferes (word_of priorities) i) load (group_end priorities n i) n cut.within
        (λ k l u. both_fail (is_other i k) _ (lt-leb (word_of priorities i) (word_of priorities k) (cut.fails k l u)))
        ∙ gather_same (interferes (word_of priorities) i) (is_other i) load load (group_end priorities n i)
        (λ k l. passing k l) (λ k l. refl)
      where
        passing : (k : ℕ) → k < group_end priorities n i → interferes (word_of priorities) i k ≡ is_other i k
        passing k l = rw (le-leb (word_of priorities i) (word_of priorities k) (cut.passes k l)) (both_unit (is_other i k))

  -- the next byte is another: the task is the last of its group
  alone_end : (n : ℕ) → Ranked priorities costs n → (i : ℕ) → i < n → (word_of priorities (i + 1) ≡ word_of priorities i → ⊥) →
      group_end priorities n i ≡ suc i
  alone_end n r i h differs =
      sym (only_cut n r i (suc i)
      (record {
        within = omega arith;
        passes = λ j m. not_above_law n r j i (omega arith) h;
        fails = λ j m u.
            let next : word_of priorities (i + 1) ≤ word_of priorities i = rw add-one (r.not_rising i (omega arith)) in
            let later : word_of priorities j ≤ word_of priorities (i + 1) = rw add-one (not_above_law n r (suc i) j m u) in
            omega (arith, differs);
      }))

  -- before place k is looked at: all before it are as urgent as i
  pub record Scanning (n i own k sum : ℕ) : Type 0 where
    pub within : k ≤ n
    pub own_is : own ≡ word_of priorities i
    pub passes : (j : ℕ) → j < k → own ≤ word_of priorities j
    pub summed : sum ≡ total (word_of costs) k

  module _ (n : ℕ) (r : Ranked priorities costs n) (i : ℕ) (h : i < n) where
    -- the places up to the last end are
    pub scan_first : (end sum : ℕ) → GroupBefore priorities costs n i end sum → end ≤ i → Scanning n i (word_of priorities i) end sum
    scan_first end sum b l =
        record {
          within = b.within;
          own_is = refl;
          passes = λ j m. not_above_law n r j i (omega arith) h;
          summed = b.summed;
        }

    module _ (own k sum : ℕ) (s : Scanning n i own k sum) where
      -- the sum fits a word
      pub scan_high : sum ≤ 200000000
      scan_high = omega (arith, s.summed, costs_high n r k s.within)

      pub scan_more : k < n → own ≤ word_of priorities k → Scanning n i own (k + 1) (sum + word_of costs k)
      unfolding total
      scan_more l e =
          record {
            within = omega arith;
            own_is = s.own_is;
            passes = λ j m. elim (ℕ_discrete j k) [ yes same ↦ rw same e | no d ↦ s.passes j (omega arith) ];
            summed = rw add-one (omega (arith, s.summed));
          }

      -- the group ends at a lower priority, and with the table
      pub scan_stop : (k < n → word_of priorities k < own) → (k ≡ group_end priorities n i) × (sum ≡ total (word_of costs) k)
      scan_stop lower = (
        only_cut n r i k
            (record {
              within = s.within;
              passes = λ j m. omega (arith, s.passes j m, s.own_is);
              fails = λ j m u. omega (arith, not_above_law n r k j m u, lower (omega arith), s.own_is);
            }),
        s.summed,
      )

      pub scan_end : n ≤ k → (n ≡ group_end priorities n i) × (sum ≡ total (word_of costs) n)
      scan_end l =
          let all : k ≡ n = omega (arith, s.within) in
          let stop = scan_stop (λ inside. absurd (omega arith)) in
          (sym all ∙ stop.0, stop.1 ∙ ap (total (word_of costs)) all)

    -- the next byte is another
    pub found_alone : (reached : ℕ) → reached ≡ total (word_of costs) (i + 1) → (word_of priorities (i + 1) ≡ word_of priorities i → ⊥) → (end sum : ℕ) →
        GroupFound priorities costs n i end sum i reached end sum
    found_alone reached e differs end sum =
        let no_more = ne_eqb (word_of priorities (i + 1)) (word_of priorities i) differs in
        record {
          count_is = rw no_more refl;
          all_is = e ∙ ap (total (word_of costs)) (add-one i ∙ sym (alone_end n r i h differs));
          end_is = rw no_more refl;
          sum_is = rw no_more refl;
        }

    -- the next byte is the same, and the end is known
    pub found_end : word_of priorities (i + 1) ≡ word_of priorities i → (end sum : ℕ) → (end ≡ group_end priorities n i) × (sum ≡ total (word_of costs) end) →
        (before_end before_sum : ℕ) → GroupFound priorities costs n i before_end before_sum end sum end sum
    found_end same end sum known before_end before_sum =
        let costs_are : sum ≡ total (word_of costs) (group_end priorities n i) = known.1 ∙ ap (total (word_of costs)) known.0 in
        let more = eq-eqb (word_of priorities (i + 1)) (word_of priorities i) same in
        record { count_is = rw more known.0; all_is = costs_are; end_is = rw more known.0; sum_is = rw more costs_are }

  -- what is known before the next task
  pub group_first : (n : ℕ) → GroupBefore priorities costs n 0 0 0
  unfolding total
  group_first n = record { within = omega arith; summed = refl; goes_on = λ l. absurd (omega arith) }

  module _ (n : ℕ) (r : Ranked priorities costs n) (i before_end before_sum count all end sum : ℕ) (h : i < n)
      (found : GroupFound priorities costs n i before_end before_sum count all end sum) where
    pub group_next : GroupBefore priorities costs n i before_end before_sum → GroupBefore priorities costs n (i + 1) end sum
    group_next b =
        elim (eqb? (word_of priorities (i + 1)) (word_of priorities i)) [
          | inl p ↦
              let ends : end ≡ group_end priorities n i = found.end_is ∙ rw p.0 refl in
              let sums : sum ≡ total (word_of costs) (group_end priorities n i) = found.sum_is ∙ rw p.0 refl in
              record {
                within = omega (arith, ends, end_within n r i);
                summed = sums ∙ ap (total (word_of costs)) (sym ends);
                goes_on = λ l. ends ∙ ap (λ (q : ℕ). total (λ k. on (leb q (word_of priorities k)) 1) n) (sym p.1);
              }
          | inr p ↦
              let ends : end ≡ before_end = found.end_is ∙ rw p.0 refl in
              let sums : sum ≡ before_sum = found.sum_is ∙ rw p.0 refl in
              record {
                within = omega (arith, ends, b.within);
                summed = sums ∙ b.summed ∙ ap (total (word_of costs)) (sym ends);
                goes_on = λ l. absurd (omega (arith, ends, b.goes_on (omega (arith, ends)), alone_end n r i h p.1));
              }
        ]

    -- the loads of the task are those of so many places without its own
    pub found_loads : (load : ℕ → Load) → gather (is_other i) load count ≡ gather (interferes (word_of priorities) i) load n
    found_loads load =
        elim (eqb? (word_of priorities (i + 1)) (word_of priorities i)) [
          | inl p ↦
              let ends : count ≡ group_end priorities n i = found.count_is ∙ rw p.0 refl in
              rw ends (sym (loads_around n r i load))
          | inr p ↦
              let ends : count ≡ i = found.count_is ∙ rw p.0 refl in
              rw ends (sym (loads_around n r i load ∙ ap (gather (is_other i) load) (alone_end n r i h p.1) ∙ gather_fail (is_other i) load i (other_own i)))
        ]

    pub count_within : count ≤ n
    count_within =
        elim (eqb? (word_of priorities (i + 1)) (word_of priorities i)) [
          | inl p ↦ let ends : count ≡ group_end priorities n i = found.count_is ∙ rw p.0 refl in omega (arith, ends, end_within n r i)
          | inr p ↦ let ends : count ≡ i = found.count_is ∙ rw p.0 refl in omega (arith, ends)
        ]

    -- the task's own place is one of them, or the next
    pub own_within : i ≤ count
    own_within =
        elim (eqb? (word_of priorities (i + 1)) (word_of priorities i)) [
          | inl p ↦ let ends : count ≡ group_end priorities n i = found.count_is ∙ rw p.0 refl in omega (arith, ends, own_inside n r i h)
          | inr p ↦ let ends : count ≡ i = found.count_is ∙ rw p.0 refl in omega (arith, ends)
        ]

    -- one cost of the task is among those up to the end of its group
    pub cost_inside : word_of costs i ≤ all
    cost_inside = omega (arith, found.all_is, total_other (word_of costs) i (group_end priorities n i) (own_inside n r i h))
