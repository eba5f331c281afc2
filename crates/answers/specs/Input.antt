-- What the program knows of standard input, and what it prints for it (SPECIFICATION 10 and 13.13).
-- Assumes nothing.
use Rattle.std.specs.Prelude.{ℕ, ◌≤◌, ◌≡◌, ◌⊎◌, List, length}
use Rattle.tables.specs.FirstBytes.{most_kept}
use Rattle.equation.specs.declared.Start.TheVariants.{EveryCost}
use Rattle.printing.specs.Answered.{answer_text}
use Rattle.printing.specs.Longest.{Whole}
use Rattle.intake.specs.Intake.{State}
use Rattle.intake.specs.Events.{Keeps}
use Rattle.answers.specs.declared.Read.{Read}

-- What is kept is what is kept of so many bytes, all that were read; and no more are read where the last read gave none, or where what is
-- still to come would be dropped. (That they are those on standard input can't be said: the contract of the system's read says nothing of
-- the bytes.)
pub record KeepsRead (read : Read) (state : State) : Type 0 where
  pub bytes : List ℕ
  pub long : length bytes ≡ read.total
  pub keeps : Keeps bytes state
  pub over : (read.last ≡ 0) ⊎ (most_kept ≤ read.total)

-- Whatever bytes came, if these are what is kept of them: the whole text of what the analysis says of them all, from the default start.
abbrev pub PrintsAll : State → List ℕ → ℕ → List ℕ → Type 0
PrintsAll state old end new = (bytes : List ℕ) → Keeps bytes state → Whole old (answer_text EveryCost bytes) end new
