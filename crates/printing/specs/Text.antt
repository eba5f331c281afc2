-- What the program prints for a table, its verdict and the words of both slices (SPECIFICATION 10; document 01, "Worked tables"). The
-- tasks' lines are those of both analyses (document 02, L8): the second's have another word in front of their last number.
-- Assumes nothing.
use Rattle.std.specs.Prelude.{ℕ, zero, suc, ◌+◌, ◌^◌, Bool, List, [], ◌∷◌, ◌++◌, ltb, eqb, length, get_or}
use Prim.Native.Char.{code}
use Prim.Native.String.{String, [] as none, ◌∷◌ as ◌then◌}
use Rattle.io.specs.Digits.{last_digits}
use Rattle.model.specs.Choice.{pick}
use Rattle.model.specs.Search.{first_from}
use Rattle.model.specs.Tables.{open_word}
use Rattle.tables.specs.declared.Refusal.{Refusal}
use Rattle.tables.specs.Layout.{layout_of, task_count, record_start, deadline_at, deadline_in}
use Rattle.tables.specs.Refusals.{number_of, place_of}
use Rattle.answering.specs.declared.Verdict.{Verdict}
use Rattle.answering.specs.declared.Verdict.TheVariants.{Refused, Schedulable, Late}

-- a word's bytes
abbrev pub bytes_of : String → List ℕ
bytes_of none = []
bytes_of (c then rest) = code c ∷ bytes_of rest

-- the fewest decimal digits, at least 1 and at most 20, that hold a number
abbrev pub is_held : ℕ → ℕ → Bool
is_held number count = ltb number (10 ^ count)

unfoldable pub decimal_of : ℕ → List ℕ
decimal_of number = last_digits 10 (first_from (is_held number) 1 20) number

-- a word and a number, and a line of them
abbrev pub with_number : List ℕ → ℕ → List ℕ
with_number word number = word ++ decimal_of number

abbrev pub line_with_number : List ℕ → ℕ → List ℕ
line_with_number word number = with_number word number ++ bytes_of "\n"

-- "A refusal prints one line, `refused 4 at 0`.": by its number and its place
abbrev pub refusal_line : ℕ → ℕ → List ℕ
refusal_line number place = with_number (bytes_of "refused ") number ++ line_with_number (bytes_of " at ") place

abbrev pub refused_line : Refusal → List ℕ
refused_line refusal = refusal_line (number_of refusal) (place_of refusal)

-- "A late task prints `1 late deadline 25 rounds 2`", and an open one ` open` in the same place
abbrev pub response_text : ℕ → List ℕ
response_text answer =
    pick (eqb answer 0) (bytes_of " late") (pick (eqb answer open_word) (bytes_of " open") (with_number (bytes_of " response ") answer))

-- the word stands in front of the last number: ` rounds `, or ` tried ` in the second analysis
abbrev pub task_line : List ℕ → ℕ → ℕ → ℕ → ℕ → List ℕ
task_line word place answer deadline count =
    ((decimal_of place ++ response_text answer) ++ with_number (bytes_of " deadline ") deadline) ++ line_with_number word count

-- the deadline of the record at a place, and 0 where the bytes end before it does
abbrev pub deadline_shown : List ℕ → ℕ → ℕ
deadline_shown bytes place =
    pick (ltb (length bytes) (record_start (layout_of bytes) place + deadline_at + 4)) 0 (deadline_in bytes place)

unfoldable pub task_lines : List ℕ → List ℕ → List ℕ → List ℕ → ℕ → List ℕ
task_lines word bytes answers counts zero = []
task_lines word bytes answers counts (suc i) =
    task_lines word bytes answers counts i ++ task_line word i (get_or answers i 0) (deadline_shown bytes i) (get_or counts i 0)

abbrev pub tasks_text : List ℕ → List ℕ → List ℕ → List ℕ → List ℕ
tasks_text word bytes answers counts =
    line_with_number (bytes_of "tasks ") (task_count bytes) ++ task_lines word bytes answers counts (task_count bytes)

-- the last line: "`schedulable`", or "the last line is then `late 1`"; a refusal's is the only one
abbrev pub verdict_line : Verdict → List ℕ
verdict_line (Refused refusal) = refused_line refusal
verdict_line Schedulable = bytes_of "schedulable\n"
verdict_line (Late first) = line_with_number (bytes_of "late ") first.0

-- the tasks' lines in front of it
abbrev pub judged_text : List ℕ → Verdict → List ℕ → List ℕ → List ℕ
judged_text bytes verdict answers rounds = tasks_text (bytes_of " rounds ") bytes answers rounds ++ verdict_line verdict

abbrev pub text_of : List ℕ → Verdict → List ℕ → List ℕ → List ℕ
text_of bytes (Refused refusal) answers rounds = verdict_line (Refused refusal)
text_of bytes Schedulable answers rounds = judged_text bytes Schedulable answers rounds
text_of bytes (Late first) answers rounds = judged_text bytes (Late first) answers rounds
