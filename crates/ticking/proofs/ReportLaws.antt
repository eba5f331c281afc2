-- What the engine has reported after t ticks, and that it ends as the answer.
-- Assumes nothing.
use Prim.Native.Nat.{ℕ, zero, suc, ◌≤◌, ◌<◌, min}
use native.Mathlib.Nat.{zero-min}
use native.Mathlib.Decide.{ℕ_discrete, dec_le}
use native.Mathlib.Omega.{arith}
use mathlib.Core.Path.{◌≡◌, sym, ◌∙◌, ap}
use mathlib.Core.Bool.{Bool, true, false}
use borrow.Author.Tests.{eq-eqb, ne_eqb}
use Rattle.model.specs.Search.{first_from}
use Rattle.model.proofs.Tests.{clash}
use Rattle.model.proofs.Search.{found, finds, none, missed}
use Rattle.machine.specs.Machine.{after, next_place, place_served, is_done, played, up_to}
use Rattle.machine.proofs.MachineLaws.{in_tick, after_other, none_released, stays_done, the_next, none_held}

-- a search from 1, over more and more numbers
module _ (test : ℕ → Bool) where
  -- what it has found it keeps
  search_kept : (t m : ℕ) → t ≤ m → 1 ≤ first_from test 1 t → first_from test 1 m ≡ first_from test 1 t
  search_kept t m h low =
      let f = found test 1 t (omega arith) low in
      finds test 1 m (first_from test 1 t)
      (record { passes = f.passes; low = f.low; high = omega (arith, f.high); first = f.first })

  -- a number that fails changes nothing
  pub search_on : (t : ℕ) → test (suc t) ≡ false → first_from test 1 (suc t) ≡ first_from test 1 t
  search_on t fails =
      elim (ℕ_discrete (first_from test 1 t) 0) [
        | no d ↦ search_kept t (suc t) (omega arith) (omega arith)
        | yes z ↦
            none test 1 (suc t)
            (λ v l h. elim (ℕ_discrete v (suc t)) [ yes e ↦ ap test e ∙ fails | no d ↦ missed test 1 t (omega arith) z v l (omega arith) ])
            ∙ sym z
      ]

  -- a number that passes is found, or one before it
  search_seen : (t v : ℕ) → 1 ≤ v → v ≤ t → test v ≡ true → 1 ≤ first_from test 1 t
  search_seen t v low high passes =
      elim (ℕ_discrete (first_from test 1 t) 0) [
        | no d ↦ omega arith
        | yes z ↦ absurd (clash (test v) passes (missed test 1 t (omega arith) z v low (omega arith)))
      ]

module _ (period cost : ℕ → ℕ) (n : ℕ) (deadline : ℕ → ℕ) where
  -- the first tick of t, up to the deadline, after which no work is left at place i
  abbrev pub reported : (t i : ℕ) → ℕ
  reported t i = first_from (is_done period cost n i) 1 (min t (deadline i))

  -- before the first tick nothing is reported
  pub report_none : (p : ℕ) → reported 0 p ≡ 0
  unfolding first_from
  report_none p = rw zero-min

  -- nothing new after the deadline
  pub report_late : (t p : ℕ) → deadline p ≤ t → reported (suc t) p ≡ reported t p
  report_late t p h = ap (first_from (is_done period cost n p) 1) (omega arith)

  -- what is reported up to a limit is the answer of a play up to there
  pub report_all : (t limit p : ℕ) → t ≡ limit → reported t p ≡ played period cost n (up_to limit deadline) p
  unfolding played
  report_all t limit p e = ap (λ (x : ℕ). reported x p) e

  -- up to the deadline all ticks are searched
  in_time_law : (t p : ℕ) → t ≤ deadline p → reported t p ≡ first_from (is_done period cost n p) 1 t
  in_time_law t p h = ap (first_from (is_done period cost n p) 1) (omega arith)

  -- nor for a place where work is left
  pub report_on : (t p : ℕ) → ¬ ((after period cost n (suc t)).left p ≡ 0) → reported (suc t) p ≡ reported t p
  report_on t p some =
      elim (dec_le (deadline p) t) [
        | yes h ↦ report_late t p h
        | no h ↦
            in_time_law (suc t) p (omega arith)
            ∙ search_on (is_done period cost n p) t (ne_eqb ((after period cost n (suc t)).left p) 0 some)
            ∙ sym (in_time_law t p (omega arith))
      ]

  -- what was reported stays
  report_kept : (t p : ℕ) → 1 ≤ t → (after period cost n t).left p ≡ 0 →
      (m : ℕ) → t ≤ m → first_from (is_done period cost n p) 1 m ≡ first_from (is_done period cost n p) 1 t
  report_kept t p low e m l =
      search_kept (is_done period cost n p) t m l
      (search_seen (is_done period cost n p) t t low (omega arith) (eq-eqb ((after period cost n t).left p) 0 e))

  module _ (cost_low : (p : ℕ) → p < n → 1 ≤ cost p) where
    -- a place that is not served and has no work after the tick had none before it
    not_served : (t p : ℕ) → p < n → ¬ (p ≡ place_served period cost n t) → (after period cost n (suc t)).left p ≡ 0 →
        (1 ≤ t) × ((after period cost n t).left p ≡ 0)
    unfolding after
    not_served zero p h d e =
        absurd (omega (arith, after_other (in_tick period cost n 0).left (place_served period cost n 0) p d, cost_low p h))
    not_served (suc t) p h d e =
        (omega arith, omega (arith, after_other (in_tick period cost n (suc t)).left (place_served period cost n (suc t)) p d))

    -- nor for a place that is not served
    pub report_other : (t p : ℕ) → p < n → ¬ (p ≡ place_served period cost n t) → reported (suc t) p ≡ reported t p
    report_other t p h d =
        elim (ℕ_discrete ((after period cost n (suc t)).left p) 0) [
          | no s ↦ report_on t p s
          | yes e ↦ elim (dec_le (deadline p) t) [
            | yes l ↦ report_late t p l
            | no l ↦
                let before = not_served t p h d e in
                in_time_law (suc t) p (omega arith)
                ∙ report_kept t p before.0 before.1 (suc t) (omega arith)
                ∙ sym (in_time_law t p (omega arith))
          ]
        ]

    module _ (few : n ≤ 256) where
      -- where no work is left, every place has the answer of a play up to any later limit
      pub report_quiet : (t limit p : ℕ) → p < n → 1 ≤ t → t ≤ limit → next_place (after period cost n t).ready ≡ 256 →
          reported t p ≡ played period cost n (up_to limit deadline) p
      unfolding played
      report_quiet t limit p h low short e =
          elim (dec_le (deadline p) t) [
            | yes l ↦ ap (first_from (is_done period cost n p) 1) (omega arith)
            | no l ↦
                in_time_law t p (omega arith)
                ∙ sym (report_kept t p low (none_held period cost n few cost_low t e p h) (min limit (deadline p)) (omega arith))
          ]

      module _ (deadline_high : (p : ℕ) → p < n → deadline p ≤ period p) where
        -- a task that is served up to its deadline is served for its first job: this is the first tick after which it is done
        pub report_own : (t p : ℕ) → p < n → ¬ (place_served period cost n t ≡ 256) → p ≡ place_served period cost n t →
            (after period cost n (suc t)).left p ≡ 0 → t < deadline p → reported (suc t) p ≡ suc t
        report_own t p h some s e l =
            in_time_law (suc t) p (omega arith)
            ∙ finds (is_done period cost n p) 1 (suc t) (suc t)
            (record {
              passes = eq-eqb ((after period cost n (suc t)).left p) 0 e;
              low = omega arith;
              high = omega arith;
              first = λ v low high. ne_eqb ((after period cost n v).left p) 0 (λ z. omega (
                arith,
                deadline_high p h,
                (the_next period cost n few cost_low t some).has_work,
                ap (in_tick period cost n t).left s,
                none_released period cost n t p (omega arith) (omega (arith, deadline_high p h)),
                stays_done period cost n t p (omega (arith, deadline_high p h)) v low (omega arith) z,
              ));
            })
