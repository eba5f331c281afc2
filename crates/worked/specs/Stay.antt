-- Did the words that no task has stay as they were? The last line of the analysis's text says so.
-- Assumes nothing.
use Rattle.std.specs.Prelude.{ℕ, Bool, true, List, [], ◌∷◌, eqb, drop}
use Rattle.model.specs.Choice.{pick, both}
use Rattle.printing.specs.Text.{bytes_of}

-- what each lent word holds before a call
abbrev pub filler : ℕ
filler = 2779096485

unfoldable pub all_filler : List ℕ → Bool
all_filler [] = true
all_filler (word ∷ words) = both (eqb word filler) (all_filler words)

-- do the words from `first` on still hold it?
abbrev pub stays : List ℕ → ℕ → Bool
stays words first = all_filler (drop first words)

abbrev pub stay_line : Bool → List ℕ
stay_line stayed = pick stayed (bytes_of "stayed\n") (bytes_of "changed\n")
