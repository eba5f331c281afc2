-- What each verdict says (SPECIFICATION 11): a number, and the place where it has one.
-- Assumes nothing.
use Rattle.std.specs.Prelude.{ℕ, ◌+◌, ◌*◌}
use Rattle.tables.specs.Refusals.{number_of, place_of}
use Rattle.answering.specs.declared.Verdict.{Verdict}
use Rattle.answering.specs.declared.Verdict.TheVariants.{Refused, Schedulable, Late}

-- the refusal's number; 0 for "schedulable", and 255 for "late", which no refusal has
abbrev pub code_of : Verdict → ℕ
code_of (Refused refusal) = number_of refusal
code_of Schedulable = 0
code_of (Late place) = 255

-- the refusal's place, or "the first place whose answer is 0"
abbrev pub verdict_place : Verdict → ℕ
verdict_place (Refused refusal) = place_of refusal
verdict_place Schedulable = 0
verdict_place (Late place) = place.0

-- both in one number, for C: the code in the upper 32 bits, the place in the lower 32
abbrev pub packed : Verdict → ℕ
packed verdict = code_of verdict * 4294967296 + verdict_place verdict
