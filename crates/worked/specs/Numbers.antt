-- Numbers of tasks, in a line.
-- Assumes nothing.
use Rattle.std.specs.Prelude.{ℕ, zero, suc, List, [], ◌++◌, get_or}
use Rattle.printing.specs.Text.{bytes_of, with_number}

-- the first words of a slice, each behind a space
unfoldable pub numbers_text : List ℕ → ℕ → List ℕ
numbers_text words zero = []
numbers_text words (suc i) = numbers_text words i ++ with_number (bytes_of " ") (get_or words i 0)

-- a line of them behind a label
abbrev pub numbers_line : List ℕ → List ℕ → ℕ → List ℕ
numbers_line label words count = (label ++ numbers_text words count) ++ bytes_of "\n"
