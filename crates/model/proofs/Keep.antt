-- Laws of what is kept of a list.
-- Assumes nothing.
use Prim.Native.Nat.{ℕ, zero, suc}
use mathlib.Core.Path.{◌≡◌, refl, sym, ◌∙◌, ap}
use mathlib.Core.Bool.{Bool, true, false}
use mathlib.Core.Logic.{inl, inr}
use mathlib.Core.List.{List, [], ◌∷◌, ◌++◌, map, map-append}
use Rattle.model.specs.Lists.{tabulate, keep}
use Rattle.model.proofs.Tests.{bool?}

module _ {A : Type 0} (test : A → Bool) where
  pub keep_append : (xs ys : List A) → keep test (xs ++ ys) ≡ keep test xs ++ keep test ys
  unfolding keep
  keep_append [] ys = refl
  keep_append (x ∷ xs) ys =
      elim (bool? (test x)) [
        | inl p ↦ rw (p, keep_append xs ys)
        | inr p ↦ rw (p, keep_append xs ys)
      ]

  keep_pass : (x : A) → test x ≡ true → keep test (x ∷ []) ≡ x ∷ []
  unfolding keep
  keep_pass x p = rw p

  keep_fail : (x : A) → test x ≡ false → keep test (x ∷ []) ≡ []
  unfolding keep
  keep_fail x p = rw p

-- two functions that agree on every element of a list agree on what is kept of it
pub map_keep_same : {A B : Type 0} (test : A → Bool) (g h : A → B) (f : ℕ → A) (n : ℕ) → ((k : ℕ) → g (f k) ≡ h (f k)) →
    map g (keep test (tabulate f n)) ≡ map h (keep test (tabulate f n))
unfolding tabulate keep
map_keep_same test g h f zero same = refl
map_keep_same {A} {B} test g h f (suc n) same = split g ∙ rw (map_keep_same test g h f n same, last) (sym (split h))
  where
    split : (e : A → B) → map e (keep test (tabulate f n ++ (f n ∷ []))) ≡ map e (keep test (tabulate f n)) ++ map e (keep test (f n ∷ []))
    split e =
        ap (map e) (keep_append test (tabulate f n) (f n ∷ []))
        ∙ map-append e (keep test (tabulate f n)) (keep test (f n ∷ []))

    last : map g (keep test (f n ∷ [])) ≡ map h (keep test (f n ∷ []))
    last =
        elim (bool? (test (f n))) [
          | inl p ↦ rw (keep_pass test (f n) p, same n)
          | inr p ↦ rw (keep_fail test (f n) p)
        ]
