-- Texts of things one behind another, whatever they are: none, and one more.
-- Assumes nothing.
use Prim.Native.Nat.{ℕ, ◌+◌}
use mathlib.Core.Path.{◌≡◌, refl, sym, ◌∙◌, ap}
use mathlib.Core.List.{List, [], ◌∷◌, ◌++◌, append_assoc, append-nil}
use Rattle.model.specs.Lists.{tabulate}
use Rattle.model.proofs.Lists.{tabulate_more}
use Rattle.encoding.specs.Bytes.{joined}
use Rattle.printing.specs.declared.page.Page.{Page}
use Rattle.printing.specs.Page.{Wrote}
use Rattle.printing.proofs.PageLaws.{both, none, as_wrote}

module _ {A : Type 0} (line : A → List ℕ) where
  joined_both : (xs ys : List A) → joined line (xs ++ ys) ≡ joined line xs ++ joined line ys
  unfolding joined
  joined_both [] ys = refl
  joined_both (x ∷ xs) ys =
      ap (λ (rest : List ℕ). line x ++ rest) (joined_both xs ys) ∙ sym (append_assoc (line x) (joined line xs) (joined line ys))

  joined_one : (x : A) → joined line (x ∷ []) ≡ line x
  unfolding joined
  joined_one x = append-nil (line x)

  module _ (thing : ℕ → A) where
    one_more : (i : ℕ) (x : A) → x ≡ thing i → joined line (tabulate thing i) ++ line x ≡ joined line (tabulate thing (i + 1))
    one_more i x e =
        ap (λ (y : A). joined line (tabulate thing i) ++ line y) e
        ∙ ap (λ (last : List ℕ). joined line (tabulate thing i) ++ last) (sym (joined_one (thing i)))
        ∙ sym (joined_both (tabulate thing i) (thing i ∷ []))
        ∙ ap (joined line) (sym (tabulate_more thing i))

-- on a page
pub joined_none : {A : Type 0} (line : A → List ℕ) (thing : ℕ → A) (page : Page) → Wrote page (joined line (tabulate thing 0)) page
unfolding joined tabulate
joined_none line thing page = none page

pub joined_more : {A : Type 0} (line : A → List ℕ) (thing : ℕ → A) (i : ℕ) {old middle new : Page} → Wrote old (joined line (tabulate thing i)) middle →
    {x : A} → x ≡ thing i → Wrote middle (line x) new → Wrote old (joined line (tabulate thing (i + 1))) new
joined_more line thing i lines {x} e one = as_wrote (both lines one) (one_more line thing i x e)
