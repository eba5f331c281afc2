-- Texts and what is answered to them, drawn by hand: as rows of one list under one statement, which the checker computes (SPECIFICATION 14). Each
-- freedom of the form is used by one, and each kind of fault is made by one. The proof is in proofs/TextExampleLaws.antt.
-- Assumes nothing.
use Rattle.std.specs.Prelude.{ℕ, ◌≡◌, List, [], ◌∷◌, ◌++◌, map}
use Rattle.model.specs.Lists.{tabulate}
use Rattle.model.specs.Tables.{Task, Row}
use Rattle.encoding.specs.Bytes.{joined, encode}
use Rattle.encoding.specs.Examples.{task, row, fifth, delays}
use Rattle.printing.specs.Text.{bytes_of}
use Rattle.typing.specs.declared.lines.Fault.{Fault}
use Rattle.typing.specs.declared.lines.Fault.TheVariants.{UnknownWord, TooFew, TooMany, NotWhole, TooLarge, TaskBehind, VersionBehind, NoDelays, ManyTasks, ManySections}
use Rattle.typing.specs.Reading.{reading_of}
use Rattle.typed.specs.Messages.{fault_line}
use Rattle.typed.specs.Answered.{text_for}

pub record Example : Type 0 where
  pub text : List ℕ
  pub answer : List ℕ

abbrev pub reads : List ℕ → ℕ → List Task → List Row → Example
reads text version tasks rows = record { text = text; answer = encode version (record { tasks = tasks; rows = rows }) }

abbrev pub fails : List ℕ → ℕ → Fault → Example
fails text line fault = record { text = text; answer = fault_line line fault }

-- so many lines that are alike, one behind another
abbrev pub alike : List ℕ → ℕ → List ℕ
alike line i = line

abbrev pub many : List ℕ → ℕ → List ℕ
many line n = joined (alike line) (tabulate (λ i. i) n)

unfoldable pub examples : List Example
examples =
    -- the fifth table, with comments, an empty line, tabs and runs of blanks
    record { text = bytes_of "# the fifth table\ntask 3  4 1  4   # priority, period, cost, deadline\n\n\ttask\t2 6 2 6\ntask 1 10 3 10  jitter 0\n"; answer = fifth }
    -- CR LF, and no line end behind the last line
    ∷ record { text = bytes_of "task 3 4 1 4\r\ntask 2 6 2 6\r\n# done\r\ntask 1 10 3 10"; answer = fifth }
    -- a CR at the very end belongs to the line end
    ∷ reads (bytes_of "task 1 2 1 2\r") 1 (task 1 2 1 2 0 0 ∷ []) []
    -- no task, which is for the refusals
    ∷ reads (bytes_of "") 1 [] []
    ∷ reads (bytes_of " \t\n#\n") 1 [] []
    -- jitter in version 1; `delays` takes version 2, and `jitter` beside it is delays 0 and J
    ∷ reads (bytes_of "task 2 30 10 20 jitter 10\n") 1 (task 2 30 10 20 0 10 ∷ []) []
    ∷ record { text = bytes_of "task 2 30 10 20 delays 10 10\ntask 1 1000 15 25\n"; answer = delays }
    ∷ reads (bytes_of "task 2 9 1 9 jitter 3\ntask 1 9 1 9 delays 1 2\n") 2 (task 2 9 1 9 0 3 ∷ task 1 9 1 9 1 2 ∷ []) []
    -- a version that is stated is taken, one that is not known too
    ∷ reads (bytes_of "version 3\ntask 1 2 1 2 jitter 1\n") 3 (task 1 2 1 2 0 1 ∷ []) []
    ∷ reads (bytes_of "version 9\ntask 1 2 1 2\n") 9 (task 1 2 1 2 0 0 ∷ []) []
    -- sections; leading zeros; numbers that the rules refuse, up to the largest of their fields
    ∷ reads (bytes_of "task 1 9 4 9\nsection 0 1 4\nsection 0 16 001\n") 1 (task 1 9 4 9 0 0 ∷ []) (row 0 1 4 ∷ row 0 16 1 ∷ [])
    ∷ reads (bytes_of "task 255 4294967295 0 0\nsection 255 255 4294967295\n") 1 (task 255 4294967295 0 0 0 0 ∷ []) (row 255 255 4294967295 ∷ [])
    -- 33 tasks take version 3
    ∷ reads (many (bytes_of "task 1 99 1 99\n") 33) 3 (tabulate (λ i. task 1 99 1 99 0 0) 33) []
    -- an unknown word: at the beginning, longer than a known one, in capitals, behind the numbers, behind a jitter
    ∷ fails (bytes_of "tasks 1 2 1 2\n") 1 UnknownWord
    ∷ fails (bytes_of "\nsections 0 1 1\n") 2 UnknownWord
    ∷ fails (bytes_of "Task 1 2 1 2\n") 1 UnknownWord
    ∷ fails (bytes_of "task 1 2 1 2 delay 1 2\n") 1 UnknownWord
    ∷ fails (bytes_of "task 1 2 1 2 jitter 1 delays 1 2\n") 1 UnknownWord
    -- a byte above 127 is a letter, and in a comment nothing
    ∷ fails (200 ∷ 10 ∷ []) 1 UnknownWord
    ∷ reads ((35 ∷ 200 ∷ 10 ∷ []) ++ bytes_of "task 1 2 1 2\n") 1 (task 1 2 1 2 0 0 ∷ []) []
    -- a comment may end a line too early, and a CR that no LF follows is a letter
    ∷ fails (bytes_of "task 1 2 1 2\ntask 1 2 # 1 2\n") 2 TooFew
    ∷ fails (bytes_of "task 1 2 1 2 delays 1\n") 1 TooFew
    ∷ fails (bytes_of "task 1 2\r1 2 2\n") 1 NotWhole
    ∷ fails (bytes_of "section 0 1 1 1\n") 1 TooMany
    ∷ fails (bytes_of "task 1 2 1 2 3\n") 1 TooMany
    ∷ fails (bytes_of "task 1 2.5 1 2\n") 1 NotWhole
    ∷ fails (bytes_of "task 1 -2 1 2\n") 1 NotWhole
    ∷ fails (bytes_of "task 256 2 1 2\n") 1 TooLarge
    ∷ fails (bytes_of "task 1 4294967296 1 2\n") 1 TooLarge
    ∷ fails (bytes_of "task 1 2 1 2\nsection 0 1 1\ntask 1 2 1 2\n") 3 TaskBehind
    ∷ fails (bytes_of "task 1 2 1 2\nversion 1\n") 2 VersionBehind
    ∷ fails (bytes_of "version 1\nversion 1\n") 2 VersionBehind
    ∷ fails (bytes_of "version 1\ntask 1 2 1 2 delays 0 0\n") 2 NoDelays
    ∷ fails (many (bytes_of "task 1 2 1 2\n") 201) 201 ManyTasks
    ∷ fails (many (bytes_of "section 0 1 1\n") 65) 65 ManySections
    -- the first fault of a line, and the first line with one
    ∷ fails (bytes_of "task x 256\ntasks\n") 1 NotWhole
    ∷ []

abbrev pub answer_found : Example → List ℕ
answer_found example = text_for (reading_of example.text)

abbrev pub answer_given : Example → List ℕ
answer_given example = example.answer

abbrev pub TextExamples : Type 0
TextExamples = map answer_found examples ≡ map answer_given examples
