-- What a task's answer is in a word of a slice, and that it can be told from it.
-- Assumes nothing.
use Rattle.std.specs.Prelude.{ℕ, ◌≤◌, ◌<◌, ⊤}
use Rattle.model.specs.Tables.{open_word}
use Rattle.jobs.specs.declared.Answer.{Answer}
use Rattle.jobs.specs.declared.Answer.TheVariants.{Within, Late, Open}

-- "The first slice gets the answer, 0 for late and 4,294,967,295 for open"
abbrev pub word_of : Answer → ℕ
word_of (Within response) = response.0
word_of Late = 0
word_of Open = open_word

-- no response time is either of these
abbrev pub Told : Answer → Type 0
Told (Within response) = (1 ≤ response.0) × (response.0 < open_word)
Told Late = ⊤
Told Open = ⊤
