-- `machine::words::next_place` meets its contract: the words before the first that has a bit are passed over.
-- Assumes nothing.
use mathlib.Core.Path.{sym, ◌∙◌}
use Rattle.machine.proofs.WordLaws.{place_found, place_missed}
use Rattle.machine.proofs.words.next_place.Goals as goal

pub returns-in_err-w : goal.returns-in_err-w
returns-in_err-w c =
    c.from_residual.ensures ∙ place_missed _ _ c.requires.0 c.requires.1 c.requires.2 (sym c.first_used.ensures ∙ c.in_err-w.was)

pub returns : goal.returns
returns c = place_found _ _ c.requires.0 c.requires.1 c.requires.2 _ _ (sym c.first_used.ensures ∙ c.in_ok-w.was) c.lowest.ensures.0 c.lowest.ensures.1
