-- A slice that a loop fills from the front, one word a turn: for any function of the place.
-- Assumes nothing.
use Prim.Native.Nat.{ℕ, ◌+◌, ◌≤◌, ◌<◌}
use native.Mathlib.Decide.{dec_lt, ℕ_discrete}
use native.Mathlib.Omega.{arith}
use mathlib.Core.Path.{◌≡◌, refl, sym, ◌∙◌, ap, subst}
use mathlib.Core.List.{List, ◌++◌}
use lib.ListN.{length, get_or, set, drop, length-set}
use lib.Seq.{ext_get_or, get_or-set_same, get_or-set_other}
use Rattle.model.specs.Lists.{filled}
use Rattle.model.proofs.Lists.{filled_none, filled_more, get_d_filled, get_d_filled_past, length_filled, tabulate_same}

-- the first i of n words are f's, and the others are the old ones
pub record Filling (f : ℕ → ℕ) (n i : ℕ) (old new : List ℕ) : Type 0 where
  pub is : new ≡ filled f i old
  pub long : length new ≡ length old
  pub room : n ≤ length old

module _ (f : ℕ → ℕ) (n : ℕ) (old : List ℕ) where
  pub filling_none : n ≤ length old → Filling f n 0 old old
  filling_none h = record { is = sym (filled_none f old); long = refl; room = h }

  pub filling_more : (i : ℕ) (new : List ℕ) (v : ℕ) → Filling f n i old new → i < n → v ≡ f i → Filling f n (i + 1) old (set new i v)
  filling_more i new v filling h e =
      record {
        is = rw (filling.is, e) (filled_more f i old (omega (arith, filling.room)));
        long = length-set new i v ∙ filling.long;
        room = filling.room;
      }

  -- where the loop stops
  pub filling_at : (i : ℕ) (new : List ℕ) → Filling f n i old new → (k : ℕ) → k ≡ i → new ≡ filled f k old
  filling_at i new filling k e = rw e filling.is

-- what a filled word reads
pub filled_word : (f : ℕ → ℕ) (k : ℕ) (old new : List ℕ) → new ≡ filled f k old → (i : ℕ) → i < k → get_or new i 0 ≡ f i
filled_word f k old new e i h = rw e (get_d_filled f k i old 0 h)

-- the words that a loop has not come to are the old ones
pub filling_old : (f : ℕ → ℕ) (n i : ℕ) (old new : List ℕ) → Filling f n i old new → (k : ℕ) → i ≤ k → get_or new k 0 ≡ get_or old k 0
filling_old f n i old new filling k h = rw filling.is (get_d_filled_past f i k old 0 h)

-- one word more, stored by a call
pub filling_set : (f : ℕ → ℕ) (n i : ℕ) (old new next : List ℕ) (v : ℕ) → Filling f n i old new → i < n → next ≡ set new i v → v ≡ f i →
    Filling f n (i + 1) old next
filling_set f n i old new next v filling h e is = rw e (filling_more f n old i new v filling h is)

-- a list whose first n words are f's, and whose later ones are the old ones
pub is_filled : (f : ℕ → ℕ) (n : ℕ) (old new : List ℕ) → n ≤ length old → length new ≡ length old →
    ((k : ℕ) → k < n → get_or new k 0 ≡ f k) → ((k : ℕ) → n ≤ k → get_or new k 0 ≡ get_or old k 0) → new ≡ filled f n old
is_filled f n old new room long each later =
    ext_get_or 0 new (filled f n old) (long ∙ sym (length_filled f n old room))
    (λ k h. elim (dec_lt k n) [
      | yes l ↦ each k l ∙ sym (get_d_filled f n k old 0 l)
      | no l ↦ later k (omega arith) ∙ sym (get_d_filled_past f n k old 0 (omega arith))
    ])

-- one word of a filled list is changed
pub filled_set : (f g : ℕ → ℕ) (n i v : ℕ) (old : List ℕ) → n ≤ length old → i < n → v ≡ g i → ((k : ℕ) → k < n → ¬ (k ≡ i) → f k ≡ g k) →
    set (filled f n old) i v ≡ filled g n old
filled_set f g n i v old room h own other =
    is_filled g n old (set (filled f n old) i v) room (length-set (filled f n old) i v ∙ length_filled f n old room)
    (λ k l. elim (ℕ_discrete k i) [
      | yes e ↦
          subst (λ (j : ℕ). get_or (set (filled f n old) i v) j 0 ≡ g j) (sym e)
          (get_or-set_same (filled f n old) i v 0 (omega (arith, length_filled f n old room)) ∙ own)
      | no e ↦ get_or-set_other (filled f n old) i k v 0 e ∙ get_d_filled f n k old 0 l ∙ other k l e
    ])
    (λ k l. get_or-set_other (filled f n old) i k v 0 (omega arith) ∙ get_d_filled_past f n k old 0 l)

-- a list that is filled again
pub filled_again : (f g : ℕ → ℕ) (n : ℕ) (old : List ℕ) → n ≤ length old → filled g n (filled f n old) ≡ filled g n old
filled_again f g n old room =
    let long : length (filled f n old) ≡ length old = length_filled f n old room in
    is_filled g n old (filled g n (filled f n old)) room
    (length_filled g n (filled f n old) (omega arith) ∙ long)
    (λ k h. get_d_filled g n k (filled f n old) 0 h)
    (λ k h. get_d_filled_past g n k (filled f n old) 0 h ∙ get_d_filled_past f n k old 0 h)

-- two functions that agree below n fill alike
pub filled_same : (f g : ℕ → ℕ) (n : ℕ) (old : List ℕ) → ((k : ℕ) → k < n → f k ≡ g k) → filled f n old ≡ filled g n old
filled_same f g n old same = ap (λ words. words ++ drop n old) (tabulate_same f g n same)
