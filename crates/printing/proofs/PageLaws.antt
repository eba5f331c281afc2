-- Texts on a page: one after the other, and nothing at all.
-- Assumes nothing.
use Prim.Native.Nat.{ℕ}
use mathlib.Core.Path.{◌≡◌, refl, ◌∙◌}
use mathlib.Core.List.{List, [], ◌++◌}
use Rattle.printing.specs.declared.page.Page.{Page}
use Rattle.printing.specs.Page.{Wrote}
use Rattle.printing.proofs.AppendLaws.{then, nothing, as_text}

pub both : {old middle new : Page} {first second : List ℕ} → Wrote old first middle → Wrote middle second new → Wrote old (first ++ second) new
both a b = record { appended = then a.appended b.appended; same_buffer = b.same_buffer ∙ a.same_buffer }

pub none : (page : Page) → Wrote page [] page
none page = record { appended = nothing page.out.now page.at; same_buffer = refl }

-- the same bytes, otherwise written
pub as_wrote : {old new : Page} {more same : List ℕ} → Wrote old more new → more ≡ same → Wrote old same new
as_wrote a e = record { appended = as_text a.appended e; same_buffer = a.same_buffer }
