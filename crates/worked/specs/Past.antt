-- What is told of the second analysis (SPECIFICATION 13.8; document 02, L8): what it finds, the answers, the numbers of q tried, and where a word
-- that should stay has not a line more.
-- Assumes nothing.
use Rattle.std.specs.Prelude.{ℕ, Bool, List, [], ◌++◌}
use Rattle.model.specs.Choice.{pick}
use Rattle.printing.specs.Text.{bytes_of}
use Rattle.overlaps.specs.declared.Found.{Found}
use Rattle.past_text.specs.Text.{found_line}
use Rattle.worked.specs.Numbers.{numbers_line}

abbrev pub past_text : Found → (answers tried : List ℕ) → ℕ → Bool → List ℕ
past_text found answers tried count stayed =
    (((bytes_of "past period " ++ found_line found) ++ numbers_line (bytes_of "found") answers count) ++ numbers_line (bytes_of "tried") tried count)
    ++ pick stayed [] (bytes_of "differs\n")
