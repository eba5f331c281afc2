-- What the search `first_from` finds, and that it misses nothing.
-- Assumes nothing.
use Prim.Native.Nat.{ℕ, zero, suc, ◌+◌, ◌≤◌, ◌<◌}
use native.Mathlib.Omega.{arith}
use native.Mathlib.Decide.{ℕ_discrete}
use native.Mathlib.Nat.{add-suc}
use mathlib.Core.Path.{◌≡◌, refl, sym, ◌∙◌, subst}
use mathlib.Core.Bool.{Bool, true, false}
use mathlib.Core.Logic.{inl, inr}
use Rattle.model.specs.Search.{first_from}
use Rattle.model.proofs.Tests.{bool?}

-- what the search gives at a number that passes, and at one that fails
found_here : (test : ℕ → Bool) (start count : ℕ) → test start ≡ true → first_from test start (suc count) ≡ start
unfolding first_from
found_here test start count p = rw p

go_on : (test : ℕ → Bool) (start count : ℕ) → test start ≡ false → first_from test start (suc count) ≡ first_from test (suc start) count
unfolding first_from
go_on test start count p = rw p

-- the number found is one of those searched, and passes
pub record Found (test : ℕ → Bool) (start count at : ℕ) : Type 0 where
  pub passes : test at ≡ true
  pub low : start ≤ at
  pub high : at < start + count
  pub first : (v : ℕ) → start ≤ v → v < at → test v ≡ false

first_later : (test : ℕ → Bool) (start at : ℕ) → test start ≡ false → ((v : ℕ) → suc start ≤ v → v < at → test v ≡ false) →
    (v : ℕ) → start ≤ v → v < at → test v ≡ false
first_later test start at no_start f v l h =
    elim (ℕ_discrete start v) [
      | yes e ↦ subst (λ (n : ℕ). test n ≡ false) e no_start
      | no e ↦ f v (omega arith) h
    ]

-- a search that gives a number that is not 0, from a start that is not 0, has found it
pub found : (test : ℕ → Bool) (start count : ℕ) → 1 ≤ start → 1 ≤ first_from test start count →
    Found test start count (first_from test start count)
unfolding first_from
found test start zero one p = absurd (omega arith)
found test start (suc count) one p =
    elim (bool? (test start)) [
      | inl y ↦
          rw (found_here test start count y)
          (record
          { passes = y; low = omega arith; high = omega (arith, add-suc start count); first = λ v l h. absurd (omega arith) })
      | inr n ↦
          let q : 1 ≤ first_from test (suc start) count = rw (go_on test start count n) at p in
          let f = found test (suc start) count (omega arith) q in
          rw (go_on test start count n)
          (record {
            passes = f.passes;
            low = omega (arith, f.low);
            high = omega (arith, f.high, add-suc start count);
            first = first_later test start (first_from test (suc start) count) n f.first;
          })
    ]

-- a number that passes, where none before it does, is what the search gives
pub finds : (test : ℕ → Bool) (start count at : ℕ) → Found test start count at → first_from test start count ≡ at
finds test start zero at f = absurd (omega (arith, f.low, f.high))
finds test start (suc count) at f =
    elim (ℕ_discrete start at) [
      | yes e ↦ found_here test start count (subst (λ (n : ℕ). test n ≡ true) (sym e) f.passes) ∙ e
      | no e ↦
          go_on test start count (f.first start (omega arith) (omega (arith, f.low)))
          ∙ finds test (suc start) count at
          (record {
            passes = f.passes;
            low = omega (arith, f.low);
            high = omega (arith, f.high, add-suc start count);
            first = λ v l h. f.first v (omega arith) h;
          })
    ]

-- where none passes the search gives 0
pub none : (test : ℕ → Bool) (start count : ℕ) → ((v : ℕ) → start ≤ v → v < start + count → test v ≡ false) → first_from test start count ≡ 0
unfolding first_from
none test start zero f = refl
none test start (suc count) f =
    go_on test start count (f start (omega arith) (omega (arith, add-suc start count)))
    ∙ none test (suc start) count (λ v l h. f v (omega arith) (omega (arith, add-suc start count)))

-- from a start that is not 0, a search that gives 0 has passed over no number that passes
pub missed : (test : ℕ → Bool) (start count : ℕ) → 1 ≤ start → first_from test start count ≡ 0 →
    (v : ℕ) → start ≤ v → v < start + count → test v ≡ false
unfolding first_from
missed test start zero one z v l h = absurd (omega arith)
missed test start (suc count) one z v l h =
    elim (bool? (test start)) [
      | inl y ↦ absurd (omega (arith, found_here test start count y))
      | inr n ↦
          elim (ℕ_discrete start v) [
            | yes e ↦ subst (λ (m : ℕ). test m ≡ false) e n
            | no e ↦ missed test (suc start) count (omega arith) (sym (go_on test start count n) ∙ z) v (omega arith) (omega (arith, add-suc start count))
          ]
    ]
