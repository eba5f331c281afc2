-- Elements of lists that are put together, and lists that hold the same.
-- Assumes nothing.
use Prim.Native.Nat.{ℕ, zero, suc, ◌+◌, ◌<◌}
use native.Mathlib.Nat.{zero-add, le_of_suc-le-suc}
use native.Mathlib.Omega.{arith}
use mathlib.Core.Path.{◌≡◌, refl, sym, ◌∙◌, ap}
use mathlib.Core.Logic.{◌⊎◌, inl, inr}
use mathlib.Core.List.{List, [], ◌∷◌, ◌++◌, flatten, append_assoc}
use lib.ListN.{length, get_or}
use lib.Seq.{ext_get_or}
use Rattle.model.specs.Lists.{tabulate}
use Rattle.model.proofs.Lists.{length_tabulate, get_d_tabulate}

module _ {A : Type 0} where
  -- an element of two lists put together is of the first or of the second
  pub append_at : (d : A) (xs ys : List A) (j : ℕ) → j < length (xs ++ ys) →
      ((j < length xs) × (get_or (xs ++ ys) j d ≡ get_or xs j d))
      ⊎ ((k : ℕ) × (k < length ys) × (j ≡ length xs + k) × (get_or (xs ++ ys) j d ≡ get_or ys k d))
  append_at d [] ys j h = inr (j, h, sym (zero-add j), refl)
  append_at d (x ∷ xs) ys zero h = inl (omega arith, refl)
  append_at d (x ∷ xs) ys (suc j) h =
      elim (append_at d xs ys j (le_of_suc-le-suc h)) [
        | inl p ↦ inl (omega (arith, p.0), p.1)
        | inr p ↦ inr (p.0, p.1, omega (arith, p.2), p.3)
      ]

  pub each_append : (d : A) (holds : A → Type 0) (xs ys : List A) → ((j : ℕ) → j < length xs → holds (get_or xs j d)) →
      ((j : ℕ) → j < length ys → holds (get_or ys j d)) → (j : ℕ) → j < length (xs ++ ys) → holds (get_or (xs ++ ys) j d)
  each_append d holds xs ys left right j h =
      elim (append_at d xs ys j h) [ inl p ↦ rw p.1 (left j p.0) | inr p ↦ rw p.3 (right p.0 p.1) ]

  -- lists of lists, put together and joined
  pub flatten_append : (xs ys : List (List A)) → flatten (xs ++ ys) ≡ flatten xs ++ flatten ys
  unfolding flatten
  flatten_append [] ys = refl
  flatten_append (x ∷ xs) ys =
      ap (λ (rest : List A). x ++ rest) (flatten_append xs ys) ∙ sym (append_assoc x (flatten xs) (flatten ys))

  -- a list is what it holds at its places
  pub list_is : (f : ℕ → A) (xs : List A) (d : A) → ((i : ℕ) → i < length xs → f i ≡ get_or xs i d) → tabulate f (length xs) ≡ xs
  list_is f xs d each =
      ext_get_or d (tabulate f (length xs)) xs (length_tabulate f (length xs))
      (λ i h.
      let inside : i < length xs = omega (arith, length_tabulate f (length xs)) in
      get_d_tabulate f (length xs) i d inside ∙ each i inside)
