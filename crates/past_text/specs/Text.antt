-- What the program prints for a table, what the second analysis says of it and the words of both slices (SPECIFICATION 10 and 13.8;
-- document 02, L8). The tasks' lines are the first analysis's, with another word in front of the last number.
-- Assumes nothing.
use Rattle.std.specs.Prelude.{ℕ, List, ◌++◌}
use Rattle.printing.specs.Text.{bytes_of, line_with_number, refusal_line, refused_line, tasks_text}
use Rattle.overlaps.specs.declared.Found.{Found}
use Rattle.overlaps.specs.declared.Found.TheVariants.{Refused, Delayed, Schedulable, Late, Open}

-- the last line: ""schedulable", or "late" or "open" with the place of the first such task"; a refusal's is the only one, and a delay is
-- "refused with 11, after 8, place 0"
abbrev pub found_line : Found → List ℕ
found_line (Refused refusal) = refused_line refusal
found_line Delayed = refusal_line 11 0
found_line Schedulable = bytes_of "schedulable\n"
found_line (Late place) = line_with_number (bytes_of "late ") place.0
found_line (Open place) = line_with_number (bytes_of "open ") place.0

-- the tasks' lines in front of it: "the number of q tried in place of rounds"
abbrev pub judged_text : List ℕ → Found → List ℕ → List ℕ → List ℕ
judged_text bytes found answers tried = tasks_text (bytes_of " tried ") bytes answers tried ++ found_line found

abbrev pub past_text_of : List ℕ → Found → List ℕ → List ℕ → List ℕ
past_text_of bytes (Refused refusal) answers tried = found_line (Refused refusal)
past_text_of bytes Delayed answers tried = found_line Delayed
past_text_of bytes Schedulable answers tried = judged_text bytes Schedulable answers tried
past_text_of bytes (Late place) answers tried = judged_text bytes (Late place) answers tried
past_text_of bytes (Open place) answers tried = judged_text bytes (Open place) answers tried
