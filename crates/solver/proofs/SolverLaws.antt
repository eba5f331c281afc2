-- One turn of the solver: what is known before it, and the three ways in which it goes on.
-- Assumes nothing.
use Prim.Native.Nat.{ℕ, zero, suc, ◌+◌, ◌-◌, ◌≤◌, ◌<◌}
use native.Mathlib.Omega.{arith}
use native.Mathlib.Decide.{ℕ_discrete}
use mathlib.Core.Path.{◌≡◌, refl, sym, ◌∙◌, ap, subst}
use mathlib.Core.Bool.{true, false}
use mathlib.Core.List.{List}
use lib.Dec.{eqb}
use borrow.Author.Tests.{eq-eqb, lt-ltb, ne_eqb, le-ltb}
use Rattle.model.specs.Tables.{Load}
use Rattle.model.proofs.Search as search_laws
use Rattle.model.proofs.Tests.{either_left, either_right, either_neither}
use Rattle.equation.specs.Demand.{demand}
use Rattle.equation.specs.Sequence.{term, stops, rounds}
use Rattle.equation.specs.Laws.{IsSmallest}
use Rattle.solver.specs.Solver.{Solvable, SolvedBy}
use Rattle.equation.proofs.Laws.{answer_means, rounds_bound}
use Rattle.equation.proofs.SequenceLaws.{never_falls, start_rises}
use Rattle.equation.proofs.StartLaws.{solution_smallest, all_late}

module _ (base : ℕ) (loads : List Load) (start late deadline : ℕ) where
  -- before round k: x is the term before it, no round was the last, and each has gained at least one tick
  pub record Turn (x k : ℕ) : Type 0 where
    pub asked : Solvable base loads start late deadline
    pub here : x ≡ term base loads start (k - 1)
    pub one : 1 ≤ k
    pub in_time : x + late ≤ deadline
    pub climbed : start + k ≤ x + 1
    pub on : (v : ℕ) → 1 ≤ v → v < k → stops base loads start late deadline v ≡ false

  pub turn_first : Solvable base loads start late deadline → start + late ≤ deadline → Turn start 1
  unfolding term
  turn_first a h =
      record { asked = a; here = refl; one = omega arith; in_time = h; climbed = omega arith; on = λ v l m. absurd (omega arith) }

  -- a start that is late
  pub start_late : Solvable base loads start late deadline → deadline < start + late → SolvedBy base loads start late deadline true 0 1
  unfolding term
  start_late a h =
      record {
        late_is = refl;
        response = sym (all_late base loads a.base_positive start late deadline 0 a.not_above h);
        rounds = sym (rounds_bound.otherwise base loads start late deadline a.base_positive a.not_above h);
      }

  module _ (x k : ℕ) (t : Turn x k) where
    -- the next term is demand(x)
    next : term base loads start k ≡ demand base loads x
    unfolding term
    next = go k t.here t.one
      where
        go : (k : ℕ) → x ≡ term base loads start (k - 1) → 1 ≤ k → term base loads start k ≡ demand base loads x
        go zero e h = absurd (omega arith)
        go (suc k) e h =
            let less : suc k - 1 ≡ k = omega arith in
            ap (demand base loads) (sym (e ∙ ap (term base loads start) less))

    last_round : stops base loads start late deadline k ≡ true → k ≡ rounds base loads start late deadline
    last_round p =
        sym
        (search_laws.finds (stops base loads start late deadline) 1 (deadline + 1) k
        (record { passes = p; low = t.one; high = omega (arith, t.climbed, t.in_time); first = t.on }))

    pub turn_late : (n : ℕ) → n ≡ demand base loads x → deadline < n + late → SolvedBy base loads start late deadline true 0 k
    turn_late n e h =
        let late_now : deadline < term base loads start k + late = omega (arith, next) in
        record {
          late_is = refl;
          response = sym (all_late base loads t.asked.base_positive start late deadline k t.asked.not_above late_now);
          rounds =
              last_round
              (either_right (eqb (term base loads start k) (term base loads start (k - 1))) _
              (lt-ltb deadline (term base loads start k + late) late_now));
        }

    -- an equal term solves the equation, and no solution lies below it
    equal_smallest : demand base loads x ≡ x → IsSmallest base loads x
    equal_smallest e =
        subst (IsSmallest base loads) (sym t.here)
        (solution_smallest base loads t.asked.base_positive start (k - 1) t.asked.not_above
        (subst (λ (y : ℕ). demand base loads y ≡ y) t.here e))

    pub turn_found : (n : ℕ) → n ≡ demand base loads x → n ≡ x → SolvedBy base loads start late deadline false (x + late) k
    turn_found n is same =
        let e : demand base loads x ≡ x = sym is ∙ same in
        record {
          late_is = sym (ne_eqb (x + late) 0 (λ (z : x + late ≡ 0). omega (arith, (equal_smallest e).positive)));
          response = sym (answer_means.answered base loads late deadline x (equal_smallest e) t.in_time);
          rounds =
              last_round
              (either_left (eqb (term base loads start k) (term base loads start (k - 1))) _
              (eq-eqb (term base loads start k) (term base loads start (k - 1)) (next ∙ e ∙ t.here)));
        }

    goes_on : (demand base loads x ≡ x → ⊥) → demand base loads x + late ≤ deadline → stops base loads start late deadline k ≡ false
    goes_on differs h =
        either_neither _ _
        (ne_eqb (term base loads start k) (term base loads start (k - 1))
        (λ e. differs (sym next ∙ e ∙ sym t.here)))
        (le-ltb deadline (term base loads start k + late) (omega (arith, next)))

    -- demand(x) is not below x
    no_fall : x ≤ demand base loads x
    unfolding term
    no_fall =
        go k t.here t.one next
      where
        go : (k : ℕ) → x ≡ term base loads start (k - 1) → 1 ≤ k → term base loads start k ≡ demand base loads x → x ≤ demand base loads x
        go zero e h n = absurd (omega arith)
        go (suc k) e h n =
            let less : suc k - 1 ≡ k = omega arith in
            let rising = never_falls base loads start k
            (start_rises base loads start t.asked.base_positive t.asked.not_above) in
            omega (arith, rising, n, e, ap (term base loads start) less)

    -- each turn that is not the last gains at least one tick
    pub gained : (n : ℕ) → n ≡ demand base loads x → (n ≡ x → ⊥) → x < n
    gained n e differs = omega (arith, no_fall)

    pub turn_on : (n : ℕ) → n ≡ demand base loads x → (n ≡ x → ⊥) → n + late ≤ deadline → Turn n (k + 1)
    turn_on n e differs h =
        let other : demand base loads x ≡ x → ⊥ = λ same. differs (e ∙ same) in
        record {
          asked = t.asked;
          here =
              let less : k + 1 - 1 ≡ k = omega arith in
              sym (ap (term base loads start) less ∙ next ∙ sym e);
          one = omega arith;
          in_time = h;
          climbed = omega (arith, gained n e differs, t.climbed);
          on = λ v l m.
              elim (ℕ_discrete v k) [
                | yes same ↦ subst (λ (n : ℕ). stops base loads start late deadline n ≡ false) (sym same) (goes_on other (omega arith))
                | no other ↦ t.on v l (omega arith)
              ];
        }
