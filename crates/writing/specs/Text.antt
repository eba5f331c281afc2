-- The text form of a table (SPECIFICATION 14): what its bytes say, in words and decimal numbers, a line for each task and each section.
-- Assumes nothing.
use Rattle.std.specs.Prelude.{ℕ, List, [], ◌++◌, eqb, Ok, Err}
use Rattle.model.specs.Choice.{pick}
use Rattle.model.specs.Tables.{Task, Row, Table}
use Rattle.tables.specs.Refusals.{Check}
use Rattle.tables.specs.Layout.{version_of, table_of}
use Rattle.tables.specs.Checks.{read_check}
use Rattle.encoding.specs.Bytes.{joined}
use Rattle.printing.specs.Text.{bytes_of, with_number, line_with_number, refused_line}

-- the first line, which is a comment: the same for every table, it names the numbers behind `task` and `section`
abbrev pub comment_line : List ℕ
comment_line = bytes_of "# task PRIORITY PERIOD COST DEADLINE; section PLACE SEMAPHORE LENGTH\n"

-- a number behind another: one blank between words
abbrev pub next_number : ℕ → List ℕ
next_number number = with_number (bytes_of " ") number

-- What is said of the delays depends on their two numbers alone, so that it is the same in every version: nothing where both are 0,
-- ` jitter L` where the earliest is 0 and the latest is not, ` delays E L` where the earliest is not 0.
unfoldable pub delays_text : (earliest latest : ℕ) → List ℕ
delays_text earliest latest =
    pick (eqb earliest 0) (pick (eqb latest 0) [] (with_number (bytes_of " jitter ") latest))
    (with_number (bytes_of " delays ") earliest ++ next_number latest)

-- `task PRIORITY PERIOD COST DEADLINE`
unfoldable pub task_numbers : Task → List ℕ
task_numbers t =
    with_number (bytes_of "task ") t.priority ++ next_number t.period ++ next_number t.cost ++ next_number t.deadline

-- and the delays behind it
unfoldable pub task_line : Task → List ℕ
task_line t = task_numbers t ++ delays_text t.earliest t.latest ++ bytes_of "\n"

-- `section PLACE SEMAPHORE LENGTH`
unfoldable pub section_line : Row → List ℕ
section_line r =
    with_number (bytes_of "section ") r.place ++ next_number r.semaphore ++ line_with_number (bytes_of " ") r.longest

-- the comment, the version, which is always said, the tasks in their order, and then the sections in theirs
unfoldable pub form_of : (version : ℕ) → Table → List ℕ
form_of version table =
    comment_line
    ++ line_with_number (bytes_of "version ") version
    ++ joined task_line table.tasks
    ++ joined section_line table.rows

-- A table that is refused has no text form, and gets the one line of its refusal.
abbrev pub form_or_refusal : Check → List ℕ → List ℕ
form_or_refusal (Ok _) bytes = form_of (version_of bytes) (table_of bytes)
form_or_refusal (Err refusal) bytes = refused_line refusal

-- The text for any bytes. A deadline may span up to four periods, so that every table has its form that either analysis accepts.
unfoldable pub form_text : List ℕ → List ℕ
form_text bytes = form_or_refusal (read_check 4 bytes) bytes
