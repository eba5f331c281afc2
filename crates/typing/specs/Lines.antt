-- What one line of a text is, word by word (SPECIFICATION 14.2).
-- Assumes nothing.
use Rattle.std.specs.Prelude.{ℕ, ◌+◌, Bool, List, [], ◌∷◌, eqb, leb, ltb, set}
use Rattle.model.specs.Choice.{pick, both, either}
use Rattle.printing.specs.Text.{bytes_of}
use Rattle.words.specs.Words.{spelling_of, not_whole}
use Rattle.typing.specs.declared.lines.Kind.{Kind}
use Rattle.typing.specs.declared.lines.Kind.TheVariants.{VersionLine, TaskLine, JitterLine, DelaysLine, SectionLine}
use Rattle.typing.specs.declared.lines.Fault.TheVariants.{UnknownWord, TooFew, TooMany, NotWhole, TooLarge, TaskBehind, VersionBehind, NoDelays, ManyTasks, ManySections}
use Rattle.typing.specs.declared.lines.Line.{Line}
use Rattle.typing.specs.declared.lines.Line.TheVariants.{Blank, Filling, Wrong}
use Rattle.typing.specs.declared.lines.Counts.{Counts}

-- how many numbers a whole line has: `version` one; `task` priority, period, cost and deadline, and one more behind `jitter` or two behind
-- `delays`; `section` the task's place, the semaphore and the longest section
abbrev pub needed_for : Kind → ℕ
needed_for VersionLine = 1
needed_for TaskLine = 4
needed_for JitterLine = 5
needed_for DelaysLine = 6
needed_for SectionLine = 3

-- "Whole decimal numbers up to 4,294,967,295", and what one byte of the table holds: version, priority, place and semaphore
abbrev pub byte_below : ℕ → ℕ → ℕ
byte_below first at = pick (ltb at first) 255 4294967295

abbrev pub limit_for : Kind → ℕ → ℕ
limit_for VersionLine at = 255
limit_for TaskLine at = byte_below 1 at
limit_for JitterLine at = byte_below 1 at
limit_for DelaysLine at = byte_below 1 at
limit_for SectionLine at = byte_below 2 at

-- which of six fields of the line a number is for: priority, period, cost, deadline, earliest and latest delay ("`jitter J` is delays 0 and J");
-- place, semaphore, longest section; the version
abbrev pub field_for : Kind → ℕ → ℕ
field_for VersionLine at = at
field_for TaskLine at = at
field_for JitterLine at = 5
field_for DelaysLine at = at
field_for SectionLine at = at

-- "a task behind a section; too many tasks or sections for a table"; "`version N` may stand first"
unfoldable pub task_begun : Counts → Line
task_begun counts =
    pick (ltb 0 counts.sections) (Wrong TaskBehind) (pick (leb 200 counts.tasks) (Wrong ManyTasks) (Filling TaskLine 0))

unfoldable pub section_begun : Counts → Line
section_begun counts = pick (leb 64 counts.sections) (Wrong ManySections) (Filling SectionLine 0)

unfoldable pub version_begun : Counts → Line
version_begun counts =
    pick (either counts.stated (either (ltb 0 counts.tasks) (ltb 0 counts.sections))) (Wrong VersionBehind) (Filling VersionLine 0)

-- the first word says what the line is
unfoldable pub begun_by : Counts → ℕ → Line
begun_by counts spelling =
    pick (eqb spelling (spelling_of (bytes_of "task"))) (task_begun counts)
    (pick (eqb spelling (spelling_of (bytes_of "section"))) (section_begun counts)
    (pick (eqb spelling (spelling_of (bytes_of "version"))) (version_begun counts) (Wrong UnknownWord)))

-- a word where a number must stand
unfoldable pub number_line : Kind → ℕ → ℕ → Line
number_line kind count amount =
    pick (eqb amount not_whole) (Wrong NotWhole) (pick (ltb (limit_for kind count) amount) (Wrong TooLarge) (Filling kind (count + 1)))

-- a word that is no number, behind the last one: a task may have jitter or delays, but in version 1, which has no
-- place for an earliest delay (SPECIFICATION 2.2), jitter alone
unfoldable pub delays_behind : Bool → ℕ → Line
delays_behind old spelling =
    pick (eqb spelling (spelling_of (bytes_of "jitter"))) (Filling JitterLine 4)
    (pick (eqb spelling (spelling_of (bytes_of "delays"))) (pick old (Wrong NoDelays) (Filling DelaysLine 4)) (Wrong UnknownWord))

abbrev pub behind_of : Bool → Kind → ℕ → Line
behind_of old VersionLine spelling = Wrong UnknownWord
behind_of old TaskLine spelling = delays_behind old spelling
behind_of old JitterLine spelling = Wrong UnknownWord
behind_of old DelaysLine spelling = Wrong UnknownWord
behind_of old SectionLine spelling = Wrong UnknownWord

-- a word of a line that is begun
unfoldable pub went_on : Bool → Kind → ℕ → ℕ → ℕ → Line
went_on old kind count spelling amount =
    pick (ltb count (needed_for kind)) (number_line kind count amount) (pick (eqb amount not_whole) (behind_of old kind spelling) (Wrong TooMany))

-- a word more, by its spelling and its amount; the first fault of a line stays
unfoldable pub line_after : Counts → Line → ℕ → ℕ → Line
line_after counts Blank spelling amount = begun_by counts spelling
line_after counts (Filling kind count) spelling amount = went_on counts.old kind count spelling amount
line_after counts (Wrong fault) spelling amount = Wrong fault

-- is the word a number that the line takes?
unfoldable pub is_taken : Kind → ℕ → ℕ → Bool
is_taken kind count amount = both (ltb count (needed_for kind)) (leb amount (limit_for kind count))

-- the six fields of a line: 0 where nothing is said
abbrev pub no_fields : List ℕ
no_fields = 0 ∷ 0 ∷ 0 ∷ 0 ∷ 0 ∷ 0 ∷ []

unfoldable pub fields_after : Line → ℕ → List ℕ → List ℕ
fields_after Blank amount fields = no_fields
fields_after (Filling kind count) amount fields = pick (is_taken kind count amount) (set fields (field_for kind count) amount) fields
fields_after (Wrong fault) amount fields = fields

-- the line's end
unfoldable pub is_whole : Kind → ℕ → Bool
is_whole kind count = leb (needed_for kind) count

unfoldable pub whole_line : Kind → ℕ → Line
whole_line kind count = pick (is_whole kind count) Blank (Wrong TooFew)

unfoldable pub ended_line : Line → Line
ended_line Blank = Blank
ended_line (Filling kind count) = whole_line kind count
ended_line (Wrong fault) = Wrong fault
