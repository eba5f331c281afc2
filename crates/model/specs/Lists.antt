-- Lists made from a function of the place, and sums.
-- Assumes nothing.
use Rattle.std.specs.Prelude.{ℕ, zero, suc, ◌+◌, max, Bool, List, [], ◌∷◌, ◌++◌, drop, get_or}
use Rattle.model.specs.Choice.{pick}

module _ {A : Type 0} where
  -- f 0, f 1, .. f (n − 1)
  unfoldable pub tabulate : (ℕ → A) → ℕ → List A
  tabulate f zero = []
  tabulate f (suc n) = tabulate f n ++ (f n ∷ [])

  -- f k for each k below n that passes a test, in their order
  unfoldable pub gather : (ℕ → Bool) → (ℕ → A) → ℕ → List A
  gather test f zero = []
  gather test f (suc n) = gather test f n ++ pick (test n) (f n ∷ []) []

  -- what a list is once its first n words are f 0 to f (n − 1) and the later ones have stayed
  abbrev pub filled : (ℕ → A) → ℕ → List A → List A
  filled f n old = tabulate f n ++ drop n old

  -- the elements that pass a test, in their order
  unfoldable pub keep : (A → Bool) → List A → List A
  keep test [] = []
  keep test (x ∷ xs) = pick (test x) (x ∷ keep test xs) (keep test xs)

  -- the sum of f over a list
  unfoldable pub sum_of : (A → ℕ) → List A → ℕ
  sum_of f [] = 0
  sum_of f (x ∷ xs) = f x + sum_of f xs

  -- the largest f over a list, and 0 where it is empty
  unfoldable pub largest_of : (A → ℕ) → List A → ℕ
  largest_of f [] = 0
  largest_of f (x ∷ xs) = max (f x) (largest_of f xs)

-- f 0 + f 1 + .. + f (n − 1)
unfoldable pub total : (ℕ → ℕ) → ℕ → ℕ
total f zero = 0
total f (suc n) = total f n + f n

-- the largest of f 0 to f (n − 1), and 0 where n is 0
unfoldable pub largest_to : (ℕ → ℕ) → ℕ → ℕ
largest_to f zero = 0
largest_to f (suc n) = max (largest_to f n) (f n)

-- what stands at a place of a slice
abbrev pub word_of : List ℕ → ℕ → ℕ
word_of words i = get_or words i 0
