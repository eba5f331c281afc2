-- Laws of lists made from a function of the place, and of sums.
-- Assumes nothing.
use Prim.Native.Nat.{ℕ, zero, suc, ◌+◌, ◌-◌, ◌≤◌, ◌<◌, max}
use native.Mathlib.Omega.{arith}
use native.Mathlib.Decide.{ℕ_discrete}
use native.Mathlib.Numerals.{add-one}
use mathlib.Core.Path.{◌≡◌, refl, sym, ◌∙◌, subst}
use mathlib.Core.List.{List, [], ◌∷◌, ◌++◌}
use lib.ListN.{length, get_or, set, drop, length-append, length-drop, get_or-append}
use lib.Seq.{get_or-append_seam, drop-cons, set_at, append_snoc, get_or-append-add, get_or-drop}
use Rattle.model.specs.Lists.{tabulate, filled, sum_of, largest_of, largest_to}

module _ {A : Type 0} (f : ℕ → A) where
  -- one more element
  pub tabulate_more : (n : ℕ) → tabulate f (n + 1) ≡ tabulate f n ++ (f n ∷ [])
  unfolding tabulate
  tabulate_more n = rw add-one

  pub tabulate_none : tabulate f 0 ≡ []
  unfolding tabulate
  tabulate_none = refl

  pub length_tabulate : (n : ℕ) → length (tabulate f n) ≡ n
  unfolding tabulate
  length_tabulate zero = refl
  length_tabulate (suc n) = length-append (tabulate f n) (f n ∷ []) ∙ omega (arith, length_tabulate n)

  -- filling a list from the front, one store a turn
  pub filled_none : (old : List A) → filled f 0 old ≡ old
  unfolding tabulate
  filled_none old = refl

  pub filled_more : (n : ℕ) (old : List A) → n < length old → set (filled f n old) n (f n) ≡ filled f (n + 1) old
  unfolding tabulate
  filled_more n old h =
      rw (drop-cons old n (f n) h)
      (set_at (tabulate f n) (get_or old n (f n)) (drop (suc n) old) (f n) n (length_tabulate n)
      ∙ rw (add-one, append_snoc))

  pub length_filled : (n : ℕ) (old : List A) → n ≤ length old → length (filled f n old) ≡ length old
  length_filled n old h =
      length-append (tabulate f n) (drop n old) ∙ omega (arith, length_tabulate n, length-drop n old)

module _ {A : Type 0} where
  pub get_d_tabulate : (f : ℕ → A) (n i : ℕ) (d : A) → i < n → get_or (tabulate f n) i d ≡ f i
  unfolding tabulate
  get_d_tabulate f zero i d h = absurd (omega arith)
  get_d_tabulate f (suc n) i d h =
      elim (ℕ_discrete i n) [
        | yes e ↦
            subst (λ (k : ℕ). get_or (tabulate f n ++ (f n ∷ [])) k d ≡ f k) (sym e)
            (subst (λ (k : ℕ). get_or (tabulate f n ++ (f n ∷ [])) k d ≡ f n) (length_tabulate f n)
            (get_or-append_seam (tabulate f n) (f n) [] d))
        | no e ↦
            get_or-append (tabulate f n) (f n ∷ []) d i (omega (arith, length_tabulate f n))
            ∙ get_d_tabulate f n i d (omega arith)
      ]

  pub get_d_filled : (f : ℕ → A) (n i : ℕ) (old : List A) (d : A) → i < n → get_or (filled f n old) i d ≡ f i
  get_d_filled f n i old d h =
      get_or-append (tabulate f n) (drop n old) d i (omega (arith, length_tabulate f n))
      ∙ get_d_tabulate f n i d h

  -- two functions that agree below n make one list
  pub tabulate_same : (f g : ℕ → A) (n : ℕ) → ((k : ℕ) → k < n → f k ≡ g k) → tabulate f n ≡ tabulate g n
  unfolding tabulate
  tabulate_same f g zero h = refl
  tabulate_same f g (suc n) h = rw (tabulate_same f g n (λ k l. h k (omega arith)), h n (omega arith))

  pub sum_append : (f : A → ℕ) (xs ys : List A) → sum_of f (xs ++ ys) ≡ sum_of f xs + sum_of f ys
  unfolding sum_of
  sum_append f [] ys = omega arith
  sum_append f (x ∷ xs) ys = omega (arith, sum_append f xs ys)

  -- sums grow with their summands
  pub sum_mono : (f g : A → ℕ) (xs : List A) → ((x : A) → f x ≤ g x) → sum_of f xs ≤ sum_of g xs
  unfolding sum_of
  sum_mono f g [] h = omega arith
  sum_mono f g (x ∷ xs) h = omega (arith, h x, sum_mono f g xs h)

  pub largest_append : (f : A → ℕ) (xs ys : List A) → largest_of f (xs ++ ys) ≡ max (largest_of f xs) (largest_of f ys)
  unfolding largest_of
  largest_append f [] ys = omega arith
  largest_append f (x ∷ xs) ys = omega (arith, largest_append f xs ys)

  -- the largest over a list made from places is the largest over the places
  pub largest_tabulate : (f : A → ℕ) (g : ℕ → A) (h : ℕ → ℕ) (n : ℕ) → ((k : ℕ) → k < n → h k ≡ f (g k)) →
      largest_to h n ≡ largest_of f (tabulate g n)
  unfolding tabulate largest_to largest_of
  largest_tabulate f g h zero same = refl
  largest_tabulate f g h (suc n) same =
      omega (
        arith,
        largest_append f (tabulate g n) (g n ∷ []),
        largest_tabulate f g h n (λ k l. same k (omega arith)),
        same n (omega arith),
      )

pub largest_more : (f : ℕ → ℕ) (n : ℕ) → largest_to f (n + 1) ≡ max (largest_to f n) (f n)
unfolding largest_to
largest_more f n = rw add-one

pub largest_none : (f : ℕ → ℕ) → largest_to f 0 ≡ 0
unfolding largest_to
largest_none f = refl

-- a bound on each is a bound on the largest
pub largest_high : (f : ℕ → ℕ) (n high : ℕ) → ((k : ℕ) → k < n → f k ≤ high) → largest_to f n ≤ high
unfolding largest_to
largest_high f zero high h = omega arith
largest_high f (suc n) high h = omega (arith, largest_high f n high (λ k l. h k (omega arith)), h n (omega arith))

-- and each is at most the largest
pub largest_low : (f : ℕ → ℕ) (n k : ℕ) → k < n → f k ≤ largest_to f n
unfolding largest_to
largest_low f zero k h = absurd (omega arith)
largest_low f (suc n) k h =
    elim (ℕ_discrete k n) [ yes e ↦ rw e (omega arith) | no e ↦ omega (arith, largest_low f n k (omega arith)) ]

-- two functions that agree below n have the same largest
pub largest_same : (f g : ℕ → ℕ) (n : ℕ) → ((k : ℕ) → k < n → f k ≡ g k) → largest_to f n ≡ largest_to g n
unfolding largest_to
largest_same f g zero h = refl
largest_same f g (suc n) h = omega (arith, largest_same f g n (λ k l. h k (omega arith)), h n (omega arith))

-- past the words that were filled the old ones have stayed
pub get_d_filled_past : {A : Type 0} (f : ℕ → A) (n i : ℕ) (old : List A) (d : A) → n ≤ i → get_or (filled f n old) i d ≡ get_or old i d
get_d_filled_past {A} f n i old d h =
    let back : n + (i - n) ≡ i = omega arith in
    subst (λ (k : ℕ). get_or (filled f n old) k d ≡ get_or old k d) back
    (subst (λ (k : ℕ). get_or (filled f n old) (k + (i - n)) d ≡ get_or old (n + (i - n)) d) (length_tabulate f n)
    (get_or-append-add (tabulate f n) (drop n old) (i - n) d ∙ get_or-drop n old (i - n) d))
