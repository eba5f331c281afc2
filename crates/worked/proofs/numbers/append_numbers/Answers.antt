-- `worked::numbers::append_numbers` meets its contract: each turn appends one number.
-- Assumes nothing.
use mathlib.Core.Path.{◌∙◌}
use Rattle.printing.proofs.PageLaws.{both, none, as_wrote}
use Rattle.worked.proofs.WordLaws.{numbers_none, numbers_more}
use Rattle.worked.proofs.numbers.append_numbers.Goals as goal

pub loop-i-init : goal.loop-i-init
loop-i-init c = as_wrote (none _) (numbers_none _)

pub loop-i-preserved : goal.loop-i-preserved
loop-i-preserved c =
    as_wrote (both c.loop-i.invariant c.append_with_number.ensures) (numbers_more _ _ _ (c.from.ensures ∙ c.word.ensures))
