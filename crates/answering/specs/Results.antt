-- Which result the answers of a table lead to.
-- Assumes nothing.
use Rattle.std.specs.Prelude.{ℕ, Bool, true, false, eqb}
use Rattle.model.specs.Choice.{pick}
use Rattle.model.specs.Search.{first_of}
use Rattle.model.specs.declared.Place.{Place}
use Rattle.tables.specs.Refusals.{at}
use Rattle.answering.specs.declared.Verdict.{Verdict}
use Rattle.answering.specs.declared.Verdict.TheVariants.{Refused, Schedulable, Late}

abbrev pub is_schedulable : Verdict → Bool
is_schedulable (Refused refusal) = false
is_schedulable Schedulable = true
is_schedulable (Late place) = false

-- late at a place, where the answer is 0
abbrev pub late_if : ℕ → Place → Verdict
late_if answer place = pick (eqb answer 0) (Late place) Schedulable

abbrev pub late_at : (ℕ → ℕ) → ℕ → Verdict
late_at answers i = late_if (answers i) (at i)

-- "the result is "schedulable" or "late" with the first place whose answer is 0"
abbrev pub result_of : (ℕ → ℕ) → ℕ → Verdict
result_of answers n = first_of is_schedulable Schedulable (late_at answers) n
