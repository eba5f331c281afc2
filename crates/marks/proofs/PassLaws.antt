-- One pass over the marks, place by place: what is known before each place is looked at, over any slices.
-- Assumes nothing.
use Prim.Native.Nat.{ℕ, zero, suc, ◌+◌, ◌-◌, ◌*◌, ◌^◌, ◌≤◌, ◌<◌, min}
use native.Mathlib.Omega.{arith}
use native.Mathlib.Decide.{ℕ_discrete, dec_le}
use native.Mathlib.Nat.{add-zero, mul-le-mul, div-mul-le_self}
use native.Mathlib.Numerals.{add-one}
use mathlib.Core.Path.{◌≡◌, refl, sym, ◌∙◌, ap, subst}
use mathlib.Core.List.{List}
use lib.ListN.{length, set, length-set}
use lib.Seq.{set-get_or, set_comm}
use Rattle.model.specs.Lists.{filled, total, word_of}
use Rattle.model.proofs.Filling.{Filling, filling_none, filling_more, filling_old, filled_set, filled_same}
use Rattle.model.proofs.Loads.{other_own, other_is}
use Rattle.model.proofs.Totals.{total_none, total_more, total_high}
use Rattle.equation.specs.Rounding.{ceil_div}
use Rattle.marks.specs.Marks.{never, first_mark_at, first_mark_for, least_from, begun_past, moved_mark, moved_at, more_at, NextBelow, OnlyNext, Passable, Passed}
use Rattle.equation.proofs.RoundingLaws.{enough, least, at_zero, at_most, positive}

-- the least of a row of numbers
pub least_none : (high : ℕ) (f : ℕ → ℕ) → least_from high f 0 ≡ high
unfolding least_from
least_none high f = refl

pub least_more : (high : ℕ) (f : ℕ → ℕ) (n : ℕ) → least_from high f (n + 1) ≡ min (least_from high f n) (f n)
unfolding least_from
least_more high f n = rw add-one

pub least_low_law : (high : ℕ) (f : ℕ → ℕ) (n k : ℕ) → k < n → least_from high f n ≤ f k
unfolding least_from
least_low_law high f zero k h = absurd (omega arith)
least_low_law high f (suc n) k h =
    elim (ℕ_discrete k n) [ yes e ↦ rw e (omega arith) | no e ↦ omega (arith, least_low_law high f n k (omega arith)) ]

-- found along the way
pub least_next : (high : ℕ) (f : ℕ → ℕ) (k low mark new : ℕ) → low ≡ least_from high f k → mark ≡ f k → new ≡ min low mark →
    new ≡ least_from high f (k + 1)
least_next high f k low mark new e here g = omega (arith, e, here, g, least_more high f k)

pub least_all : (high : ℕ) (f : ℕ → ℕ) (n k low : ℕ) → (k ≤ n) × (low ≡ least_from high f k) → n ≤ k → low ≡ least_from high f n
least_all high f n k low h l = let all : k ≡ n = omega (arith, h.0) in rw all at h.1

-- the search for the next mark that is below another
pub record Searching (marks : List ℕ) (end low from k : ℕ) : Type 0 where
  pub inside : end < length marks
  pub below : word_of marks end < low
  pub within : k ≤ end
  pub since : from ≤ k
  pub first : (j : ℕ) → from ≤ j → j < k → low ≤ word_of marks j

module _ (marks : List ℕ) (end low from : ℕ) where
  pub searching_none : end < length marks → word_of marks end < low → from ≤ end → Searching marks end low from from
  searching_none l b h = record { inside = l; below = b; within = h; since = omega arith; first = λ j f m. absurd (omega arith) }

  pub searching_more : (k : ℕ) → Searching marks end low from k → low ≤ word_of marks k → Searching marks end low from (k + 1)
  searching_more k s h =
      record {
        inside = s.inside;
        below = s.below;
        within =
            elim (ℕ_discrete k end) [
              | yes e ↦ absurd (omega (arith, ap (word_of marks) e, s.below))
              | no e ↦ omega (arith, s.within)
            ];
        since = omega (arith, s.since);
        first = λ j f m. elim (ℕ_discrete j k) [ yes e ↦ rw e h | no e ↦ s.first j f (omega arith) ];
      }

-- no second place is found: where one of two came first, the other would have passed it over
not_before_law : (marks : List ℕ) (least from found other : ℕ) → NextBelow marks least from found → NextBelow marks least from other → other ≤ found
not_before_law marks least from found other a b =
    elim (dec_le other found) [ yes h ↦ h | no h ↦ absurd (omega (arith, a.below, b.first found a.low (omega arith))) ]

pub only_next : OnlyNext
only_next marks least from found other a b =
    omega (arith, not_before_law marks least from found other a b, not_before_law marks least from other found b a)

-- one mark: none, one or more periods are begun as w comes
module _ (w period mark : ℕ) (low : 1 ≤ period) where
  pub begun_none : w ≤ mark → begun_past w period mark ≡ 0
  begun_none h = let none : w - mark ≡ 0 = omega arith in ap (λ (n : ℕ). ceil_div n period) none ∙ at_zero period low

  pub begun_one : mark < w → w - mark ≤ period → begun_past w period mark ≡ 1
  begun_one h p = omega (arith, least (w - mark) period 1 low (omega arith), positive (w - mark) period low (omega arith))

  -- the mark comes as far as w, and not a period further
  pub moved_low : w ≤ moved_mark w period mark
  moved_low = omega (arith, enough (w - mark) period low)

  pub begun_high : begun_past w period mark * period < w - mark + period
  begun_high = omega (arith, div-mul-le_self (w - mark + (period - 1)) period)

  pub begun_at_most : begun_past w period mark ≤ w
  begun_at_most = omega (arith, at_most (w - mark) period low)

  pub moved_none : (cost : ℕ) → w ≤ mark → (mark ≡ moved_mark w period mark) × (0 ≡ cost * begun_past w period mark)
  moved_none cost h = (omega (arith, ap (λ (b : ℕ). b * period) (begun_none h)), omega (arith, ap (λ (b : ℕ). cost * b) (begun_none h)))

  pub moved_one : (cost : ℕ) → mark < w → w - mark ≤ period →
      (mark + period ≡ moved_mark w period mark) × (cost ≡ cost * begun_past w period mark)
  moved_one cost h p = (omega (arith, ap (λ (b : ℕ). b * period) (begun_one h p)), omega (arith, ap (λ (b : ℕ). cost * b) (begun_one h p)))

  pub moved_fits : (begun : ℕ) → begun ≡ begun_past w period mark → begun * period < w - mark + period
  moved_fits begun e = rw e begun_high

-- two words make no more than two words
pub more_fits : (cost begun : ℕ) → cost < 2 ^ 32 → begun < 2 ^ 32 → cost * begun < 2 ^ 64
more_fits cost begun h l = omega (arith, mul-le-mul {n₁ = cost} {m₁ = begun} {n₂ = 4294967295} {m₂ = 4294967295} (omega arith) (omega arith))

-- What is known before place k is looked at: the marks before it are moved, what their loads ask for is added, and w has passed none of
-- them.
pub record Passing (periods costs old : List ℕ) (count w from before k : ℕ) (marks : List ℕ) (sum least : ℕ) : Type 0 where
  pub filling : Filling (moved_at periods old w) count k old marks
  pub sums : sum ≡ before + total (more_at periods costs old w) k
  pub leasts : least ≡ least_from from (moved_at periods old w) k
  pub high : w ≤ least
  pub within : k ≤ count

module _ (periods costs old : List ℕ) (count w ahead before : ℕ) (p : Passable periods costs old count w ahead before) where
  pub passing_none : Passing periods costs old count w (w + ahead) before 0 old before (w + ahead)
  passing_none =
      record {
        filling = filling_none (moved_at periods old w) count old (omega (arith, p.marks_long));
        sums = omega (arith, total_none (more_at periods costs old w));
        leasts = sym (least_none (w + ahead) (moved_at periods old w));
        high = omega arith;
        within = omega arith;
      }

  more_high : (k : ℕ) → k < count → more_at periods costs old w k ≤ 1001000000000000
  more_high k h =
      mul-le-mul {n₁ = word_of costs k} {m₁ = begun_past w (word_of periods k) (word_of old k)} {n₂ = 1000000} {m₂ = 1001000000} (p.cost_high k h)
      (omega (arith, begun_at_most w (word_of periods k) (word_of old k) (p.period_low k h), p.w_high))

  module _ (k : ℕ) (marks : List ℕ) (sum low : ℕ) (t : Passing periods costs old count w (w + ahead) before k marks sum low) where
    -- the mark at k is still the old one
    same : word_of marks k ≡ word_of old k
    same = filling_old (moved_at periods old w) count k old marks t.filling k (omega arith)

    -- what is asked for at k fits
    pub sum_fits : k < count → (more : ℕ) → more ≡ word_of costs k * begun_past w (word_of periods k) (word_of marks k) → sum + more ≤ 300000000000000000
    sum_fits h more e =
        omega (
          arith,
          e,
          ap (λ (m : ℕ). word_of costs k * begun_past w (word_of periods k) m) same,
          more_high k h,
          t.sums,
          total_high (more_at periods costs old w) k 1001000000000000 (λ j l. more_high j (omega arith)),
          p.few,
          p.sum_high,
        )

    -- the 0 behind the marks is below the least one
    pub end_below : (word_of marks count < low) × (count < length marks)
    end_below =
        omega (
          arith,
          filling_old (moved_at periods old w) count k old marks t.filling count t.within,
          p.end,
          p.w_low,
          t.high,
          p.marks_long,
          t.filling.long,
        )

    pub passing_more : k < count → (mark more new : ℕ) → mark ≡ moved_mark w (word_of periods k) (word_of marks k) →
        more ≡ word_of costs k * begun_past w (word_of periods k) (word_of marks k) → new ≡ min low mark →
        Passing periods costs old count w (w + ahead) before (k + 1) (set marks k mark) (sum + more) new
    passing_more h mark more new e f g =
        let here : mark ≡ moved_at periods old w k = e ∙ ap (λ (m : ℕ). moved_mark w (word_of periods k) m) same in
        let asked : more ≡ more_at periods costs old w k = f ∙ ap (λ (m : ℕ). word_of costs k * begun_past w (word_of periods k) m) same in
        record {
          filling = filling_more (moved_at periods old w) count old k marks mark t.filling h here;
          sums = omega (arith, t.sums, asked, total_more (more_at periods costs old w) k);
          leasts = omega (arith, t.leasts, here, g, least_more (w + ahead) (moved_at periods old w) k);
          high = omega (arith, t.high, g, e, moved_low w (word_of periods k) (word_of marks k) (p.period_low k h));
          within = omega arith;
        }

    -- a mark that is not below the least one is not passed
    pub passing_over : k < count → low ≤ word_of marks k → Passing periods costs old count w (w + ahead) before (k + 1) marks sum low
    passing_over h l =
        let none = begun_none w (word_of periods k) (word_of marks k) (p.period_low k h) (omega (arith, t.high)) in
        subst (λ (ms : List ℕ). Passing periods costs old count w (w + ahead) before (k + 1) ms sum low) (set-get_or marks k 0)
        (subst (λ (s : ℕ). Passing periods costs old count w (w + ahead) before (k + 1) (set marks k (word_of marks k)) s low) (omega arith)
        (passing_more h (word_of marks k) 0 low
        (omega (arith, ap (λ (b : ℕ). b * word_of periods k) none))
        (omega (arith, ap (λ (b : ℕ). word_of costs k * b) none))
        (omega arith)))

  -- the places up to the next one whose mark is below the least are passed over
  pub passing_to : (gap k : ℕ) (marks : List ℕ) (sum low : ℕ) → Passing periods costs old count w (w + ahead) before k marks sum low →
      ((j : ℕ) → k ≤ j → j < k + gap → low ≤ word_of marks j) → k + gap ≤ count → Passing periods costs old count w (w + ahead) before (k + gap) marks sum low
  passing_to zero k marks sum low t first h = rw (add-zero k) t
  passing_to (suc gap) k marks sum low t first h =
      let more : k + suc gap ≡ k + 1 + gap = omega arith in
      rw more
      (passing_to gap (k + 1) marks sum low (passing_over k marks sum low t (omega arith) (first k (omega arith) (omega arith)))
      (λ j l m. first j (omega arith) (omega arith)) (omega arith))

  pub passing_next : (k : ℕ) (marks : List ℕ) (sum low found : ℕ) → Passing periods costs old count w (w + ahead) before k marks sum low →
      NextBelow marks low k found → Passing periods costs old count w (w + ahead) before found marks sum low
  passing_next k marks sum low found t n =
      let back : k + (found - k) ≡ found = omega (arith, n.low) in
      subst (λ (j : ℕ). Passing periods costs old count w (w + ahead) before j marks sum low) back
      (passing_to (found - k) k marks sum low t (λ j l m. n.first j l (omega arith)) (rw back inside))
    where
      inside : found ≤ count
      inside =
          elim (dec_le found count) [
            | yes h ↦ h
            | no h ↦ absurd (omega (arith, n.first count t.within (omega arith), (end_below k marks sum low t).0))
          ]

  pub passed_all : (k : ℕ) (marks : List ℕ) (sum low : ℕ) → Passing periods costs old count w (w + ahead) before k marks sum low → count ≤ k →
      Passed periods costs old count w ahead before marks sum low
  passed_all k marks sum low t h =
      let all : k ≡ count = omega (arith, t.within) in
      record {
        marks_are = rw all at t.filling.is;
        sum_is = rw all at t.sums;
        least_is = rw all at t.leasts;
      }

-- the first marks, with a 0 behind them, and the own one never passed
module _ (periods spreads : List ℕ) (own count : ℕ) where
  -- what the loop fills, and what it leaves
  pub record Setting (k : ℕ) (old marks : List ℕ) : Type 0 where
    pub filling : Filling (first_mark_at periods spreads) count k old marks
    pub within : k ≤ count
    pub room : count < length old

  pub setting_none : (old : List ℕ) → count < length old → Setting 0 old old
  setting_none old room =
      record { filling = filling_none (first_mark_at periods spreads) count old (omega arith); within = omega arith; room = room }

  pub setting_more : (k : ℕ) (old marks : List ℕ) (mark : ℕ) → Setting k old marks → k < count → mark ≡ first_mark_at periods spreads k →
      Setting (k + 1) old (set marks k mark)
  setting_more k old marks mark t h e =
      record {
        filling = filling_more (first_mark_at periods spreads) count old k marks mark t.filling h e;
        within = omega arith;
        room = t.room;
      }

  module _ (k : ℕ) (old marks : List ℕ) (t : Setting k old marks) where
    pub setting_long : (v : ℕ) → length (set marks count v) ≡ length old
    setting_long v = length-set marks count v ∙ t.filling.long

    pub setting_longer : (v i u : ℕ) → length (set (set marks count v) i u) ≡ length old
    setting_longer v i u = length-set (set marks count v) i u ∙ setting_long v

    all_set : count ≤ k → marks ≡ filled (first_mark_at periods spreads) count old
    all_set h = let all : k ≡ count = omega (arith, t.within) in rw all at t.filling.is

    pub set_others : count ≤ k → count ≤ own → set marks count 0 ≡ set (filled (first_mark_for periods spreads own) count old) count 0
    set_others h l =
        ap (λ (ms : List ℕ). set ms count 0)
        (all_set h
        ∙ filled_same (first_mark_at periods spreads) (first_mark_for periods spreads own) count old (λ j m. rw (other_is own j (omega arith)) refl))

    pub set_own : count ≤ k → own < count →
        set (set marks count 0) own never ≡ set (filled (first_mark_for periods spreads own) count old) count 0
    set_own h l =
        set_comm marks count own 0 never (omega arith)
        ∙ ap (λ (ms : List ℕ). set ms count 0)
        (ap (λ (ms : List ℕ). set ms own never) (all_set h)
        ∙ filled_set (first_mark_at periods spreads) (first_mark_for periods spreads own) count own never old (omega (arith, t.room)) l
        (rw (other_own own) refl) (λ j m d. rw (other_is own j d) refl))
