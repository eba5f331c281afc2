-- What the searches of the definitions find for one task: the window of a q, and the q that ends it.
-- Assumes nothing.
use Prim.Native.Nat.{ℕ, ◌+◌, ◌*◌, ◌-◌, ◌≤◌, ◌<◌}
use native.Mathlib.Omega.{arith}
use native.Mathlib.Decide.{dec_le}
use mathlib.Core.Path.{◌≡◌, sym, ◌∙◌, ap, subst}
use mathlib.Core.Bool.{Bool, true, false}
use borrow.Author.Tests.{eq-eqb, ne_eqb, eqb-true, eqb-false, le-leb, lt-leb}
use Rattle.model.specs.Choice.{pick}
use Rattle.model.specs.Lists.{largest_to}
use Rattle.model.proofs.Search as search_laws
use Rattle.model.proofs.Tests.{either_left, either_right, either_neither}
use Rattle.model.specs.Tables.{open_word}
use Rattle.equation.specs.Answer.{answer}
use Rattle.equation.specs.Laws.{IsSmallest, NotAbove}
use Rattle.equation.proofs.Laws.{smallest_means, answer_means}
use Rattle.solver.specs.Solver.{SolvedBy}
use Rattle.jobs.specs.Overlaps.{Studied, base_at, limit_at, window_at, response_at, late_at, ends_at, ends_by, ended_after, word_after, longest, tried_after, tried}
use Rattle.jobs.specs.Slices.{LongestBy}

-- none of the q before this one ends it
abbrev pub Going : Studied → ℕ → Type 0
Going s q = (p : ℕ) → p < q → ends_at s p ≡ false

module _ (s : Studied) where
  module _ (q : ℕ) where
    -- the smallest solution up to the limit is the window
    pub window_is : (w : ℕ) → IsSmallest (base_at s q) s.loads w → w ≤ limit_at s q → window_at s q ≡ w
    unfolding window_at
    window_is w small h = smallest_means.complete (base_at s q) s.loads (limit_at s q) w small h

    pub window_small : 1 ≤ window_at s q → IsSmallest (base_at s q) s.loads (window_at s q)
    unfolding window_at
    window_small h = smallest_means.found (base_at s q) s.loads (limit_at s q) h

    pub window_high : window_at s q ≤ limit_at s q
    unfolding window_at
    window_high = smallest_means.limited (base_at s q) s.loads (limit_at s q)

    -- there is none where no solution is up to the limit
    pub no_window : ((w : ℕ) → IsSmallest (base_at s q) s.loads w → limit_at s q < w) → window_at s q ≡ 0
    no_window past =
        elim (dec_le 1 (window_at s q)) [
          | yes h ↦ absurd (omega (arith, past (window_at s q) (window_small h), window_high))
          | no h ↦ omega arith
        ]

    -- a start that is above no solution, and past the limit
    pub start_past : (x : ℕ) → NotAbove (base_at s q) s.loads x → limit_at s q < x → window_at s q ≡ 0
    start_past x above h = no_window (λ w small. omega (arith, above w small.positive small.solution))

    -- what the solver has found
    pub solved_late : (start given spent : ℕ) → SolvedBy (base_at s q) s.loads start 0 (limit_at s q) true given spent → window_at s q ≡ 0
    solved_late start given spent solved =
        let none = eqb-true given 0 (sym solved.late_is) in
        elim (dec_le 1 (window_at s q)) [
          | yes h ↦
              absurd
              (omega (
                arith,
                solved.response,
                none,
                answer_means.answered (base_at s q) s.loads 0 (limit_at s q) (window_at s q) (window_small h) (omega (arith, window_high)),
              ))
          | no h ↦ omega arith
        ]

    pub solved_found : (start w spent : ℕ) → SolvedBy (base_at s q) s.loads start 0 (limit_at s q) false (w + 0) spent →
        IsSmallest (base_at s q) s.loads w × (w ≤ limit_at s q)
    solved_found start w spent solved =
        let some = eqb-false (w + 0) 0 (sym solved.late_is) in
        let low : 1 ≤ answer (base_at s q) s.loads 0 (limit_at s q) = omega (arith, solved.response, some) in
        let found = answer_means.positive (base_at s q) s.loads 0 (limit_at s q) low in
        let same : found.0 ≡ w = omega (arith, solved.response, found.3) in
        (subst (IsSmallest (base_at s q) s.loads) same found.1, omega (arith, same, found.2))

    -- R(q), of the window that is found
    pub response_is : (w : ℕ) → window_at s q ≡ w → response_at s q ≡ w - q * s.period
    unfolding response_at
    response_is w e = ap (λ (v : ℕ). v - q * s.period) e

    pub late_ends : window_at s q ≡ 0 → ends_at s q ≡ true
    unfolding ends_at
    late_ends e = either_left (late_at s q) _ (eq-eqb (window_at s q) 0 e)

    pub short_ends : response_at s q ≤ s.period → ends_at s q ≡ true
    unfolding ends_at
    short_ends h = either_right (late_at s q) _ (le-leb (response_at s q) s.period h)

    pub goes_on : 1 ≤ window_at s q → s.period < response_at s q → ends_at s q ≡ false
    unfolding ends_at
    goes_on some above =
        either_neither (late_at s q) _ (ne_eqb (window_at s q) 0 (λ (e : window_at s q ≡ 0). omega arith)) (lt-leb (response_at s q) s.period above)

  -- the q that ends it is the first
  pub ended_by : (q : ℕ) → q < 64 → Going s q → ends_at s q ≡ true → ended_after s ≡ q + 1
  unfolding ended_after
  ended_by q h going e =
      search_laws.finds (ends_by s) 1 64 (q + 1)
      (record {
        passes =
            let back : q + 1 - 1 ≡ q = omega arith in
            ap (ends_at s) back ∙ e;
        low = omega arith;
        high = omega arith;
        first = λ v l m. going (v - 1) (omega arith);
      })

  pub none_ends : Going s 64 → ended_after s ≡ 0
  unfolding ended_after
  none_ends going = search_laws.none (ends_by s) 1 64 (λ v l h. going (v - 1) (omega arith))

  -- what the slices get, by the q that ends it
  word_after_law : (q : ℕ) → ended_after s ≡ q + 1 → longest s ≡ pick (late_at s q) 0 (largest_to (response_at s) (q + 1))
  unfolding longest
  word_after_law q e =
      let back : q + 1 - 1 ≡ q = omega arith in
      ap (word_after s) e
      ∙ ap (λ (b : Bool). pick b open_word (pick (late_at s (q + 1 - 1)) 0 (largest_to (response_at s) (q + 1)))) (ne_eqb (q + 1) 0 (λ (z : q + 1 ≡ 0). omega arith))
      ∙ ap (λ (p : ℕ). pick (late_at s p) 0 (largest_to (response_at s) (q + 1))) back

  tried_after_law : (q : ℕ) → ended_after s ≡ q + 1 → tried s ≡ q + 1
  unfolding tried
  tried_after_law q e =
      ap tried_after e
      ∙ ap (λ (b : Bool). pick b 64 (q + 1)) (ne_eqb (q + 1) 0 (λ (z : q + 1 ≡ 0). omega arith))

  module _ (q : ℕ) (h : q < 64) (going : Going s q) where
    pub late_by : window_at s q ≡ 0 → LongestBy s 0 (q + 1)
    late_by e =
        let after = ended_by q h going (late_ends q e) in
        record {
          word_is = sym (word_after_law q after ∙ ap (λ (b : Bool). pick b 0 (largest_to (response_at s) (q + 1))) (eq-eqb (window_at s q) 0 e));
          tried_is = sym (tried_after_law q after);
        }

    pub stopped_by : 1 ≤ window_at s q → response_at s q ≤ s.period → (largest : ℕ) → largest ≡ largest_to (response_at s) (q + 1) →
        LongestBy s largest (q + 1)
    stopped_by some low largest e =
        let after = ended_by q h going (short_ends q low) in
        record {
          word_is =
              e
              ∙ sym
              (word_after_law q after
              ∙ ap (λ (b : Bool). pick b 0 (largest_to (response_at s) (q + 1))) (ne_eqb (window_at s q) 0 (λ (z : window_at s q ≡ 0). omega arith)));
          tried_is = sym (tried_after_law q after);
        }

  pub open_by : Going s 64 → LongestBy s open_word 64
  unfolding longest tried
  open_by going = record { word_is = sym (ap (word_after s) (none_ends going)); tried_is = sym (ap tried_after (none_ends going)) }
