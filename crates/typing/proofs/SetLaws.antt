-- Words put to their places in a slice, one after the other.
-- Assumes nothing.
use Prim.Native.Nat.{ℕ, ◌+◌, ◌≤◌, ◌<◌}
use native.Mathlib.Omega.{arith}
use native.Mathlib.Numerals.{add-one}
use mathlib.Core.Path.{◌≡◌, refl, sym, ◌∙◌, ap}
use mathlib.Core.List.{List, [], ◌∷◌, ◌++◌}
use lib.ListN.{length, take, get_or, set, length-take}
use lib.Seq.{sets, take-suc, length-sets}
use Rattle.scanning.proofs.WordLaws.{sets_more}

-- the first i words are put
pub record Putting (old : List ℕ) (at : ℕ) (words : List ℕ) (size i : ℕ) (new : List ℕ) : Type 0 where
  pub most : i ≤ size
  pub new_is : new ≡ sets old at (take i words)

pub put_none : (old : List ℕ) (at : ℕ) (words : List ℕ) (size : ℕ) → Putting old at words size 0 old
put_none old at words size = record { most = omega arith; new_is = refl }

module _ {old : List ℕ} {at : ℕ} {words : List ℕ} {size i : ℕ} {new : List ℕ} (p : Putting old at words size i new) where
  pub put_more : {next : List ℕ} → i < size → size ≤ length words → next ≡ set new (at + i) (get_or words i 0) →
      Putting old at words size (i + 1) next
  put_more {next} h long e =
      let taken : take (i + 1) words ≡ take i words ++ (get_or words i 0 ∷ []) = rw (add-one i) (take-suc words i 0 (omega arith)) in
      let count : length (take i words) ≡ i = omega (arith, length-take i words, p.most) in
      record {
        most = omega arith;
        new_is =
            e
            ∙ ap (λ (xs : List ℕ). set xs (at + i) (get_or words i 0)) p.new_is
            ∙ ap (λ (k : ℕ). sets (sets old at (take i words)) (at + k) (get_or words i 0 ∷ [])) (sym count)
            ∙ sets_more old at (take i words) (get_or words i 0 ∷ [])
            ∙ ap (sets old at) (sym taken);
      }

  pub put_long : length new ≡ length old
  put_long = ap length p.new_is ∙ length-sets old at (take i words)

  pub put_all_done : size ≤ i → new ≡ sets old at (take size words)
  put_all_done h =
      let e : i ≡ size = omega (arith, p.most) in
      p.new_is ∙ ap (λ (k : ℕ). sets old at (take k words)) e
