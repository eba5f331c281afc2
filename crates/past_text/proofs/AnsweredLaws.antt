-- The text of what a call of the second analysis said and left is the text of what it says of those bytes.
-- Assumes nothing.
use Prim.Native.Nat.{ℕ}
use mathlib.Core.Path.{◌≡◌, ◌∙◌, ap}
use mathlib.Core.List.{List}
use Rattle.printing.specs.Answered.{zeros}
use Rattle.overlaps.specs.declared.Found.{Found}
use Rattle.overlaps.specs.Outcome.{Left, lending, PastOutcome, found_of, answers_after}
use Rattle.past_text.specs.Text.{past_text_of}
use Rattle.past_text.specs.Answered.{past_text}

pub text_of_outcome : (bytes : List ℕ) (result : Left) → PastOutcome (lending bytes zeros zeros) result →
    past_text_of bytes result.found result.answers result.tried ≡ past_text bytes
unfolding past_text
text_of_outcome bytes result o =
    ap (λ (f : Found). past_text_of bytes f result.answers result.tried) o.found_is
    ∙ ap (λ (a : List ℕ). past_text_of bytes (found_of bytes 200 200) a result.tried) o.answers_are
    ∙ ap (past_text_of bytes (found_of bytes 200 200) (answers_after bytes zeros zeros)) o.tried_are
