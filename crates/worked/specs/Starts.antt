-- What is told of the old start (SPECIFICATION 5.1; document 02, L5): the rounds from it, and where its verdict or its answers differ a
-- line more.
-- Assumes nothing.
use Rattle.std.specs.Prelude.{ℕ, Bool, List, [], ◌++◌}
use Rattle.model.specs.Choice.{pick}
use Rattle.printing.specs.Text.{bytes_of}
use Rattle.worked.specs.Numbers.{numbers_line}

abbrev pub own_cost_text : List ℕ → ℕ → Bool → List ℕ
own_cost_text rounds count agreed = numbers_line (bytes_of "own cost") rounds count ++ pick agreed [] (bytes_of "differs\n")
