-- Laws of what is gathered from the places that pass a test.
-- Assumes nothing.
use Prim.Native.Nat.{ℕ, zero, suc, ◌≤◌, ◌<◌}
use native.Mathlib.Omega.{arith}
use native.Mathlib.Decide.{ℕ_discrete}
use mathlib.Core.Path.{◌≡◌, refl, ◌∙◌, ap}
use mathlib.Core.Bool.{Bool, true, false}
use mathlib.Core.Logic.{inl, inr}
use mathlib.Core.List.{List, [], ◌∷◌, ◌++◌, map, map-append, append-nil}
use lib.ListN.{length, get_or}
use Rattle.model.specs.Choice.{pick, on}
use Rattle.model.specs.Lists.{tabulate, gather, keep, sum_of, total}
use Rattle.model.proofs.Tests.{bool?}
use Rattle.model.proofs.Lists.{sum_append}
use Rattle.model.proofs.Append.{each_append}
use Rattle.model.proofs.Keep.{keep_append}

module _ {A : Type 0} where
  -- tests and functions that agree below n gather the same
  pub gather_same : (test other : ℕ → Bool) (f g : ℕ → A) (n : ℕ) → ((k : ℕ) → k < n → test k ≡ other k) → ((k : ℕ) → k < n → f k ≡ g k) →
      gather test f n ≡ gather other g n
  unfolding gather
  gather_same test other f g zero tests values = refl
  gather_same test other f g (suc n) tests values =
      rw (
        gather_same test other f g n (λ k l. tests k (omega arith)) (λ k l. values k (omega arith)),
        tests n (omega arith),
        values n (omega arith),
      )

  module _ (test : ℕ → Bool) (f : ℕ → A) where
    -- what passes is added, what fails is not
    pub gather_pass : (n : ℕ) → test n ≡ true → gather test f (suc n) ≡ gather test f n ++ (f n ∷ [])
    unfolding gather
    gather_pass n p = rw p

    pub gather_fail : (n : ℕ) → test n ≡ false → gather test f (suc n) ≡ gather test f n
    unfolding gather
    gather_fail n p = rw p (append-nil (gather test f n))

    -- where nothing from n on passes, the rest adds nothing
    pub gather_rest : (n m : ℕ) → n ≤ m → ((k : ℕ) → n ≤ k → k < m → test k ≡ false) → gather test f m ≡ gather test f n
    gather_rest n zero h fails = let none : n ≡ 0 = omega arith in rw none refl
    gather_rest n (suc m) h fails =
        elim (ℕ_discrete n (suc m)) [
          | yes e ↦ rw e refl
          | no d ↦
              gather_fail m (fails m (omega arith) (omega arith))
              ∙ gather_rest n m (omega arith) (λ k l u. fails k l (omega arith))
        ]

    -- where all pass, all are gathered
    pub gather_all : (n : ℕ) → ((k : ℕ) → k < n → test k ≡ true) → gather test f n ≡ tabulate f n
    unfolding tabulate gather
    gather_all zero passes = refl
    gather_all (suc n) passes =
        gather_pass n (passes n (omega arith)) ∙ ap (λ (xs : List A). xs ++ (f n ∷ [])) (gather_all n (λ k l. passes k (omega arith)))

    -- what holds of f at each place holds of each that is gathered
    pub gather_each : (Holds : A → Type 0) (d : A) (n : ℕ) → ((k : ℕ) → k < n → Holds (f k)) →
        (j : ℕ) → j < length (gather test f n) → Holds (get_or (gather test f n) j d)
    unfolding gather
    gather_each Holds d zero each = λ j l. absurd (omega arith)
    gather_each Holds d (suc n) each =
        each_append d Holds (gather test f n) (pick (test n) (f n ∷ []) []) (gather_each Holds d n (λ k l. each k (omega arith))) (last (test n))
      where
        last : (b : Bool) → (j : ℕ) → j < length (pick b (f n ∷ []) []) → Holds (get_or (pick b (f n ∷ []) []) j d)
        last true zero l = each n (omega arith)
        last true (suc j) l = absurd (omega arith)
        last false j l = absurd (omega arith)

    -- the sum over what is gathered is a sum over the places
    pub gather_sum : (g : A → ℕ) (n : ℕ) → sum_of g (gather test f n) ≡ total (λ k. on (test k) (g (f k))) n
    unfolding gather sum_of total
    gather_sum g zero = refl
    gather_sum g (suc n) =
        sum_append g (gather test f n) (pick (test n) (f n ∷ []) [])
        ∙ omega (arith, gather_sum g n, last (test n))
      where
        last : (b : Bool) → sum_of g (pick b (f n ∷ []) []) ≡ on b (g (f n))
        last true = omega arith
        last false = refl

  -- what is kept of a list made from places is what is gathered from them
  pub keep_gather : {B : Type 0} (test : A → Bool) (g : A → B) (f : ℕ → A) (n : ℕ) →
      map g (keep test (tabulate f n)) ≡ gather (λ k. test (f k)) (λ k. g (f k)) n
  unfolding tabulate gather keep
  keep_gather test g f zero = refl
  keep_gather test g f (suc n) =
      ap (map g) (keep_append test (tabulate f n) (f n ∷ []))
      ∙ map-append g (keep test (tabulate f n)) (keep test (f n ∷ []))
      ∙ elim (bool? (test (f n))) [
        | inl p ↦ rw (keep_gather test g f n, p) refl
        | inr p ↦ rw (keep_gather test g f n, p) refl
      ]

  -- the sum over a list made from places is a sum over the places
  pub sum_tabulate : (g : A → ℕ) (f : ℕ → A) (n : ℕ) → sum_of g (tabulate f n) ≡ total (λ k. g (f k)) n
  unfolding tabulate sum_of total
  sum_tabulate g f zero = refl
  sum_tabulate g f (suc n) = sum_append g (tabulate f n) (f n ∷ []) ∙ omega (arith, sum_tabulate g f n)
