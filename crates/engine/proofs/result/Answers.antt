-- `engine::result` meets its contract: late is said with the first place whose answer is 0.
-- Assumes nothing.
use mathlib.Core.Path.{sym, ◌∙◌}
use Rattle.engine.proofs.PlayedLaws.{late_found, none_late}
use Rattle.engine.proofs.result.Goals as goal

pub returns-in-Some : goal.returns-in-Some
returns-in-Some c = late_found c.args.answers.now c.args.n c.requires _ (sym c.first_late.ensures ∙ c.in-Some.is)

pub returns-in-None : goal.returns-in-None
returns-in-None c = none_late c.args.answers.now c.args.n c.requires (sym c.first_late.ensures ∙ c.in-None.is)
