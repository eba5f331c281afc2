-- One word more of lists that are looked at from the front, and what is made of two outcomes.
-- Assumes nothing.
use Prim.Native.Nat.{ℕ, zero, suc, ◌+◌, ◌<◌}
use native.Mathlib.Omega.{arith}
use native.Mathlib.Numerals.{add-one}
use mathlib.Core.Path.{◌≡◌, refl}
use mathlib.Core.Bool.{Bool, true, false}
use mathlib.Core.Logic.{inl, inr, ◌≢◌}
use mathlib.Core.List.{List, [], ◌∷◌, ◌++◌}
use lib.Dec.{eqb}
use Rattle.std.specs.Cmp.Lexicographic.{pointwise}
use Rattle.std.specs.Bool.{MatchBool}
use Rattle.std.specs.List.{AllWithin, HoldsAt}
use lib.ListN.{length, get_or}
use borrow.Author.Tests.{eq-eqb, ne_eqb}
use Rattle.model.proofs.Tests.{eqb?}
use Rattle.printing.specs.Text.{bytes_of, with_number}
use Rattle.answering.specs.declared.Verdict.{Verdict}
use Rattle.response.specs.Verdicts.{code_of, verdict_place}
use Rattle.worked.specs.Stay.{all_filler}
use Rattle.worked.specs.Compared.{same_words, same_outcome}
use Rattle.worked.specs.Numbers.{numbers_text}

-- every word holds the filler, or one does not
all_hold : (words : List ℕ) → ((k : ℕ) → k < length words → get_or words k 0 ≡ 2779096485) → true ≡ all_filler words
unfolding all_filler
all_hold [] h = refl
all_hold (word ∷ words) h = rw (eq-eqb word 2779096485 (h 0 (omega arith))) (all_hold words (λ k l. h (suc k) (omega arith)))

one_differs : (words : List ℕ) (k : ℕ) → k < length words → get_or words k 0 ≢ 2779096485 → false ≡ all_filler words
unfolding all_filler
one_differs [] k l d = absurd (omega arith)
one_differs (word ∷ words) zero l d = rw (ne_eqb word 2779096485 d) refl
one_differs (word ∷ words) (suc k) l d =
    elim (eqb? word 2779096485) [
      | inl e ↦ rw e.0 (one_differs words k (omega arith) d)
      | inr e ↦ rw e.0 refl
    ]

pub all_is : (words : List ℕ) (r : Bool) →
    MatchBool r (AllWithin (λ (w : ℕ). w ≡ 2779096485) words 0 (length words))
    ((k : ℕ) × (k < length words) × HoldsAt (λ (w : ℕ). w ≢ 2779096485) words k) → r ≡ all_filler words
all_is words true h = all_hold words (λ k l. h k 0 (omega arith) l)
all_is words false (k, l, d) = one_differs words k l (d 0)

-- lists are the same, word by word
pub pointwise_is : (one other : List ℕ) → pointwise eqb one other ≡ same_words one other
unfolding same_words
pointwise_is [] [] = refl
pointwise_is [] (y ∷ ys) = refl
pointwise_is (x ∷ xs) [] = refl
pointwise_is (x ∷ xs) (y ∷ ys) =
    elim (eqb? x y) [
      | inl e ↦ rw e.0 (pointwise_is xs ys)
      | inr e ↦ rw e.0 refl
    ]

-- where the numbers and the places are the same, the words decide
pub words_decide : (verdict heard : Verdict) (answers played : List ℕ) (one other : ℕ) → one ≡ code_of verdict → other ≡ code_of heard → one ≡ other →
    (here there : ℕ) → here ≡ verdict_place verdict → there ≡ verdict_place heard → (r : Bool) → here ≡ there → r ≡ same_words answers played →
    r ≡ same_outcome verdict heard answers played
words_decide verdict heard answers played one other one_is other_is codes here there here_is there_is r places e =
    rw (← one_is, ← other_is, eq-eqb one other codes, ← here_is, ← there_is, eq-eqb here there places) e

-- one number more
pub numbers_none : (words : List ℕ) → [] ≡ numbers_text words 0
unfolding numbers_text
numbers_none words = refl

pub numbers_more : (words : List ℕ) (i word : ℕ) → word ≡ get_or words i 0 →
    numbers_text words i ++ with_number (bytes_of " ") word ≡ numbers_text words (i + 1)
unfolding numbers_text
numbers_more words i word e = rw (e, add-one)
