-- Numbers kept in words, one after the other, as far as there are words.
-- Assumes nothing.
use Prim.Native.Nat.{ℕ, suc, ◌+◌}
use native.Mathlib.Nat.{add-zero, add-suc, suc-add}
use mathlib.Core.Path.{◌≡◌, refl, ◌∙◌, ap}
use mathlib.Core.List.{List, [], ◌∷◌, ◌++◌}
use lib.ListN.{length, take, drop, set}
use lib.Seq.{sets, drop-nil}

-- keeping more behind what is kept
pub sets_more : (old : List ℕ) (at : ℕ) (xs ys : List ℕ) → sets (sets old at xs) (at + length xs) ys ≡ sets old at (xs ++ ys)
sets_more old at [] ys = rw (add-zero at)
sets_more old at (x ∷ xs) ys = rw (add-suc at (length xs), ← suc-add at (length xs)) (sets_more (set old at x) (suc at) xs ys)

sets_none : (at : ℕ) (values : List ℕ) → sets [] at values ≡ []
sets_none at [] = refl
sets_none at (v ∷ vs) = sets_none (suc at) vs

sets_later : (x : ℕ) (old : List ℕ) (at : ℕ) (values : List ℕ) → sets (x ∷ old) (suc at) values ≡ x ∷ sets old at values
sets_later x old at [] = refl
sets_later x old at (v ∷ vs) = sets_later x (set old at v) (suc at) vs

-- all that have room, and behind them the old words
pub sets_all : (old values : List ℕ) → sets old 0 values ≡ take (length old) values ++ drop (length values) old
sets_all [] values = rw (sets_none 0 values, drop-nil (length values))
sets_all (x ∷ old) [] = refl
sets_all (x ∷ old) (v ∷ vs) = sets_later v old 0 vs ∙ ap (λ (xs : List ℕ). v ∷ xs) (sets_all old vs)
