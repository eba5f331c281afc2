-- What is said of a text that can't be read (SPECIFICATION 14.4): "one line, `line 3: ` and what is wrong, said so that a pupil can mend it".
-- Assumes nothing.
use Rattle.std.specs.Prelude.{ℕ, List, ◌++◌}
use Rattle.printing.specs.Text.{bytes_of, with_number}
use Rattle.typing.specs.declared.lines.Fault.{Fault}
use Rattle.typing.specs.declared.lines.Fault.TheVariants.{UnknownWord, TooFew, TooMany, NotWhole, TooLarge, TaskBehind, VersionBehind, NoDelays, ManyTasks, ManySections}

abbrev pub message_of : Fault → List ℕ
message_of UnknownWord = bytes_of "unknown word; a line begins with version, task or section, and a task may have jitter or delays behind its deadline"
message_of TooFew = bytes_of "too few numbers; version has 1, task 4, jitter 1, delays 2, section 3"
message_of TooMany = bytes_of "too many numbers; version has 1, task 4, jitter 1, delays 2, section 3"
message_of NotWhole = bytes_of "not a whole number; write digits only"
message_of TooLarge = bytes_of "number too large; version, priority, place and semaphore go up to 255, all others up to 4294967295"
message_of TaskBehind = bytes_of "task behind a section; all tasks stand before the first section"
message_of VersionBehind = bytes_of "version must stand before every task and section, and only once"
message_of NoDelays = bytes_of "version 1 has no delays; state version 2 or 3, or use jitter"
message_of ManyTasks = bytes_of "too many tasks; a table has at most 200"
message_of ManySections = bytes_of "too many sections; a table has at most 64"

abbrev pub fault_line : ℕ → Fault → List ℕ
fault_line number fault = ((with_number (bytes_of "line ") number ++ bytes_of ": ") ++ message_of fault) ++ bytes_of "\n"
