-- The text of what the second analysis says of a table's bytes: what the program prints for them (SPECIFICATION 10 and 13.8; document 02, L8).
-- Assumes nothing.
use Rattle.std.specs.Prelude.{ℕ, List}
use Rattle.printing.specs.Answered.{zeros}
use Rattle.overlaps.specs.Outcome.{found_of, answers_after, tried_words_after}
use Rattle.past_text.specs.Text.{past_text_of}

-- what `analyse_past_period` answers and leaves, as text
unfoldable pub past_text : List ℕ → List ℕ
past_text bytes = past_text_of bytes (found_of bytes 200 200) (answers_after bytes zeros zeros) (tried_words_after bytes zeros zeros)
