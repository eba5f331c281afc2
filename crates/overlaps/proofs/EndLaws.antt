-- One task: that the words which the searches find are those of the statements, and no others are.
-- Assumes nothing.
use Prim.Native.Nat.{ℕ, zero, suc, ◌+◌, ◌*◌, ◌-◌, ◌≤◌, ◌<◌}
use native.Mathlib.Omega.{arith}
use native.Mathlib.Decide.{dec_le, ℕ_discrete}
use mathlib.Core.Path.{◌≡◌, refl, sym, ◌∙◌, ap, subst}
use mathlib.Core.Bool.{true, false}
use mathlib.Core.Logic.{inl, inr}
use lib.Dec.{leb}
use borrow.Author.Tests.{eqb-true, eqb-false, leb-true, leb-false}
use Rattle.model.specs.Lists.{largest_to}
use Rattle.model.proofs.Lists.{largest_low, largest_high, largest_more, largest_none}
use Rattle.model.proofs.Search as search_laws
use Rattle.model.proofs.Tests.{bool?, either_true, not_either}
use Rattle.model.specs.Tables.{open_word}
use Rattle.equation.specs.Laws.{IsSmallest}
use Rattle.equation.proofs.Laws.{raised_not_above}
use Rattle.jobs.specs.Overlaps.{Studied, base_at, limit_at, window_at, response_at, late_at, ends_at, ends_by, ended_after, longest, tried}
use Rattle.jobs.specs.Slices.{LongestBy}
use Rattle.overlaps.specs.Statements.{Responds, GoesOn, GoOnBefore, LateAt, StopsAt, IsLargest, EndsWith, LongestRight, PastEnds}
use Rattle.jobs.proofs.SearchLaws.{Going, window_is, window_small, window_high, no_window, response_is, goes_on, late_by, stopped_by, open_by}

-- a solution that is the smallest is the only one that is
same_smallest : (s : Studied) (q v w : ℕ) → IsSmallest (base_at s q) s.loads v → IsSmallest (base_at s q) s.loads w → v ≡ w
same_smallest s q v w a b = omega (arith, a.least w b.positive b.solution, b.least v a.positive a.solution)

module _ (s : Studied) where
  -- an R(q) within D is what the search gives
  module _ (q r : ℕ) (responds : Responds s q r) (within : r ≤ s.deadline) where
    window_at_law : window_at s q ≡ r + q * s.period
    window_at_law = window_is s q (r + q * s.period) responds (omega arith)

    response_at_law : response_at s q ≡ r
    response_at_law = response_is s q (r + q * s.period) window_at_law ∙ (omega arith)

    window_some : 1 ≤ window_at s q
    window_some = omega (arith, window_at_law, responds.positive)

  -- the test for a q and what it says, where it goes on
  on_false : (q : ℕ) → GoesOn s q → ends_at s q ≡ false
  on_false q g = goes_on s q (window_some q g.r g.responds g.within) (omega (arith, response_at_law q g.r g.responds g.within, g.above))

  false_on : (q : ℕ) → ends_at s q ≡ false → GoesOn s q
  unfolding ends_at response_at
  false_on q e =
      let tests = not_either (late_at s q) (leb (response_at s q) s.period) e in
      let some = eqb-false (window_at s q) 0 tests.0 in
      let above = leb-false (response_at s q) s.period tests.1 in
      let same : response_at s q + q * s.period ≡ window_at s q = omega (arith, above) in
      record {
        r = response_at s q;
        responds = subst (IsSmallest (base_at s q) s.loads) (sym same) (window_small s q (omega (arith, some)));
        above = above;
        within = omega (arith, same, window_high s q);
      }

  going_before : (q : ℕ) → GoOnBefore s q → Going s q
  going_before q on p h = on_false p (on p h)

  before_going : (q : ℕ) → Going s q → GoOnBefore s q
  before_going q going p h = false_on p (going p h)

  -- where it is late
  late_none : (q : ℕ) → LateAt s q → window_at s q ≡ 0
  late_none q late = no_window s q late

  none_late : (q : ℕ) → window_at s q ≡ 0 → LateAt s q
  none_late q e w small =
      elim (dec_le w (limit_at s q)) [
        | yes h ↦ absurd (omega (arith, window_is s q w small h, small.positive))
        | no h ↦ omega arith
      ]

  -- R(q) is never below 1
  pub low_positive : 1 ≤ s.cost → (q : ℕ) → GoOnBefore s q → (w : ℕ) → IsSmallest (base_at s q) s.loads w → q * s.period + 1 ≤ w
  low_positive one zero on w small = omega (arith, small.positive)
  low_positive one (suc p) on w small =
      let g = on p (omega arith) in
      let raised : base_at s (suc p) ≡ base_at s p + s.cost = omega arith in
      let above =
      raised_not_above (base_at s p) s.loads s.cost (g.r + p * s.period) (omega arith) g.responds w small.positive
      (subst (λ (b : ℕ). IsSmallest b s.loads w) raised small).solution in
      omega (arith, above, g.above)

  -- the largest of those tried
  module _ (one : 1 ≤ s.cost) (q : ℕ) (on : GoOnBefore s q) (stops : StopsAt s q) where
    each : (p : ℕ) → p ≤ q → (r : ℕ) × Responds s p r × (r ≤ s.deadline)
    each p h =
        elim (ℕ_discrete p q) [
          | yes e ↦ subst (λ (n : ℕ). (r : ℕ) × Responds s n r × (r ≤ s.deadline)) (sym e) (stops.r, stops.responds, stops.within)
          | no e ↦ let g = on p (omega arith) in (g.r, g.responds, g.within)
        ]

    response_of : (p r : ℕ) → p ≤ q → Responds s p r → response_at s p ≡ r
    response_of p r h responds =
        let found = each p h in
        response_at_law p r responds
        (omega (arith, same_smallest s p (r + p * s.period) (found.0 + p * s.period) responds found.1, found.2))

    -- one of them is the largest
    largest_found : (k : ℕ) → k < q + 1 → (p : ℕ) × (p ≤ q) × (largest_to (response_at s) (k + 1) ≡ response_at s p)
    largest_found zero h = (0, omega arith, omega (arith, largest_more (response_at s) 0, largest_none (response_at s)))
    largest_found (suc k) h =
        let before = largest_found k (omega arith) in
        let more = largest_more (response_at s) (suc k) in
        let same : largest_to (response_at s) (suc k) ≡ largest_to (response_at s) (k + 1) = ap (largest_to (response_at s)) (omega arith) in
        elim (dec_le (response_at s (suc k)) (largest_to (response_at s) (suc k))) [
          | yes l ↦ (before.0, before.1, omega (arith, more, same, before.2))
          | no l ↦ (suc k, omega arith, omega (arith, more))
        ]

    largest_is : IsLargest s q (largest_to (response_at s) (q + 1))
    largest_is =
        let found = largest_found q (omega arith) in
        let r = each found.0 found.1 in
        let is = found.2 ∙ response_of found.0 r.0 found.1 r.1 in
        record {
          most = λ p r h responds. omega (arith, response_of p r h responds, largest_low (response_at s) (q + 1) p (omega arith));
          at = found.0;
          tried = found.1;
          some = subst (Responds s found.0) (sym is) r.1;
        }

    largest_only : (answer : ℕ) → IsLargest s q answer → answer ≡ largest_to (response_at s) (q + 1)
    largest_only answer l =
        let here = response_of l.at answer l.tried l.some in
        omega (
          arith,
          here,
          largest_low (response_at s) (q + 1) l.at (omega (arith, l.tried)),
          largest_high (response_at s) (q + 1) answer
              (λ p h. let r = each p (omega arith) in omega (arith, response_of p r.0 (omega arith) r.1, l.most p r.0 (omega arith) r.1)),
        )

  -- what the statement says is what the searches find
  pub right_by : 1 ≤ s.cost → (answer count : ℕ) → LongestRight s answer count → LongestBy s answer count
  right_by one answer count (inl e) =
      rw e.counted
      (elim e.end [
        | inl stops ↦
            let st = stops.0 in
            let here = response_at_law e.q st.r st.responds st.within in
            stopped_by s e.q e.few (going_before e.q e.before) (window_some e.q st.r st.responds st.within)
            (omega (arith, here, st.low)) answer (largest_only one e.q e.before st answer stops.1)
        | inr late ↦
            rw late.1 (late_by s e.q e.few (going_before e.q e.before) (late_none e.q late.0))
      ])
  right_by one answer count (inr o) = rw (o.word, o.counted) (open_by s (going_before 64 o.all))

  -- what ends it without being late is short enough
  ends_low : (q : ℕ) → ends_at s q ≡ true → late_at s q ≡ false → response_at s q ≤ s.period
  unfolding ends_at
  ends_low q e some =
      leb-true (response_at s q) s.period (either_true (late_at s q) (leb (response_at s q) s.period) e some)

  stops_at : 1 ≤ s.cost → (q : ℕ) → GoOnBefore s q → 1 ≤ window_at s q → response_at s q ≤ s.period → StopsAt s q
  unfolding response_at
  stops_at one q on some low =
      let small = window_small s q some in
      let above = low_positive one q on (window_at s q) small in
      let same : response_at s q + q * s.period ≡ window_at s q = omega (arith, above) in
      record {
        r = response_at s q;
        responds = subst (IsSmallest (base_at s q) s.loads) (sym same) small;
        low = low;
        within = omega (arith, same, window_high s q);
      }

  -- the q before the number that the search gives
  going_to : (q : ℕ) → ((v : ℕ) → 1 ≤ v → v < q + 1 → ends_by s v ≡ false) → Going s q
  going_to q first p h =
      let back : p + 1 - 1 ≡ p = omega arith in
      sym (ap (ends_at s) back) ∙ first (p + 1) (omega arith) (omega arith)

  ended_at : 1 ≤ ended_after s → Going s (ended_after s - 1) × (ends_at s (ended_after s - 1) ≡ true) × (ended_after s - 1 < 64)
  unfolding ended_after
  ended_at h =
      let f = search_laws.found (ends_by s) 1 64 (omega arith) h in
      (going_to (ended_after s - 1) (λ v l m. f.first v l (omega arith)), f.passes, omega (arith, f.high))

  never_ended : ended_after s ≡ 0 → Going s 64
  unfolding ended_after
  never_ended e = going_to 64 (λ v l m. search_laws.missed (ends_by s) 1 64 (omega arith) e v l (omega arith))

  ends_with : 1 ≤ s.cost → (q : ℕ) → Going s q → ends_at s q ≡ true → q < 64 → EndsWith s (longest s) (tried s)
  ends_with one q going ends few =
      let on = before_going q going in
      elim (bool? (late_at s q)) [
        | inl late ↦
            let none = eqb-true (window_at s q) 0 late in
            let by = late_by s q few going none in
            record { q = q; few = few; before = on; end = inr (none_late q none, sym by.word_is); counted = sym by.tried_is }
        | inr some ↦
            let window = eqb-false (window_at s q) 0 some in
            let low = ends_low q ends some in
            let stops = stops_at one q on (omega (arith, window)) low in
            let by = stopped_by s q few going (omega (arith, window)) low (largest_to (response_at s) (q + 1)) refl in
            record {
              q = q;
              few = few;
              before = on;
              end = inl (stops, subst (IsLargest s q) by.word_is (largest_is one q on stops));
              counted = sym by.tried_is;
            }
      ]

  -- and what they find is what it says
  pub found_right_law : 1 ≤ s.cost → LongestRight s (longest s) (tried s)
  found_right_law one =
      elim (dec_le 1 (ended_after s)) [
        | yes h ↦ let e = ended_at h in inl (ends_with one (ended_after s - 1) e.0 e.1 e.2)
        | no h ↦
            let going = never_ended (omega arith) in
            let by = open_by s going in
            inr (record { all = before_going 64 going; word = sym by.word_is; counted = sym by.tried_is })
      ]

  how_many : (answer count : ℕ) → LongestRight s answer count → (1 ≤ count) × (count ≤ 64)
  how_many answer count (inl e) = omega (arith, e.counted, e.few)
  how_many answer count (inr o) = omega (arith, o.counted)

  -- where it ends, it is not open
  pub answer_within : 1 ≤ s.cost → (answer count : ℕ) → EndsWith s answer count → answer ≤ s.deadline
  answer_within one answer count e =
      elim e.end [
        | inl stops ↦
            let l = stops.1 in
            let r = each one e.q e.before stops.0 l.at l.tried in
            omega (arith, same_smallest s l.at (answer + l.at * s.period) (r.0 + l.at * s.period) l.some r.1, r.2)
        | inr late ↦ omega (arith, late.1)
      ]

  not_all : (answer count : ℕ) → EndsWith s answer count → GoOnBefore s 64 → ⊥
  not_all answer count e all =
      let g = all e.q e.few in
      elim e.end [
        | inl stops ↦
            let st = stops.0 in
            omega (arith, same_smallest s e.q (g.r + e.q * s.period) (st.r + e.q * s.period) g.responds st.responds, g.above, st.low)
        | inr late ↦ omega (arith, late.0 (g.r + e.q * s.period) g.responds, g.within)
      ]

  open_exactly_law : (answer count : ℕ) → 1 ≤ s.cost → s.deadline ≤ 1000000 → LongestRight s answer count →
      (answer ≡ open_word → GoOnBefore s 64) × (GoOnBefore s 64 → answer ≡ open_word)
  open_exactly_law answer count one high (inl e) = (
    λ word. absurd (omega (arith, word, answer_within one answer count e)),
    λ all. absurd (not_all answer count e all),
  )
  open_exactly_law answer count one high (inr o) = (λ word. o.all, λ all. o.word)

pub past_ends : PastEnds
past_ends = record { positive = low_positive; tried = how_many; open_exactly = open_exactly_law }
