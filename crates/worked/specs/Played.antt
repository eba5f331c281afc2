-- What is told of the engine: its verdict, and where it does not agree with the analysis a line more.
-- Assumes nothing.
use Rattle.std.specs.Prelude.{ℕ, Bool, true, false, List, [], ◌++◌}
use Rattle.model.specs.Choice.{pick}
use Rattle.printing.specs.Text.{bytes_of, verdict_line}
use Rattle.answering.specs.declared.Verdict.{Verdict}
use Rattle.answering.specs.declared.Verdict.TheVariants.{Refused, Schedulable, Late}
use Rattle.worked.specs.Stay.{stays}
use Rattle.worked.specs.Compared.{same_outcome}

abbrev pub is_refused : Verdict → Bool
is_refused (Refused refusal) = true
is_refused Schedulable = false
is_refused (Late place) = false

-- A refusal of the engine leaves every word as it was; where neither refuses, both say the same, and leave the same words.
abbrev pub agrees : (verdict heard : Verdict) (answers played : List ℕ) → Bool
agrees verdict heard answers played =
    pick (is_refused heard) (stays played 0)
    (pick (is_refused verdict) true
    (same_outcome verdict heard answers played))

abbrev pub played_text : Verdict → Bool → List ℕ
played_text heard agreed = (bytes_of "engine " ++ verdict_line heard) ++ pick agreed [] (bytes_of "differs\n")
