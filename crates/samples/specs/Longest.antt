-- That texts as long as `longest` (crates/printing/specs/Longest.antt) and `longest_past` (crates/past_text/specs/Longest.antt) are there, if
-- nothing but the digits counts (SPECIFICATION 10 and 13.8; document 02, L8 and L9). The proofs are in proofs/LongestTexts.antt.
-- Assumes nothing.
use Rattle.std.specs.Prelude.{ℕ, ◌-◌, ◌≡◌, List, [], length, replicate}
use Rattle.model.specs.Lists.{tabulate}
use Rattle.model.specs.Tables.{Task}
use Rattle.encoding.specs.Bytes.{encode}
use Rattle.answering.specs.declared.Verdict.TheVariants as verdict
use Rattle.overlaps.specs.declared.Found.TheVariants as found
use Rattle.printing.specs.Text.{text_of}
use Rattle.printing.specs.Longest.{longest}
use Rattle.past_text.specs.Text.{past_text_of}
use Rattle.past_text.specs.Longest.{longest_past}

-- The digits alone allow no smaller number: here are 200 tasks (1000000, 1, 1000000), as version 3 allows, and the text says that each answers
-- 1,000,000 after 1,000,000 rounds. This is about the text, and not about which answers the analysis can give together.
abbrev pub million_task : ℕ → Task
million_task i = record { priority = 200 - i; period = 1000000; cost = 1; deadline = 1000000; earliest = 0; latest = 0 }

abbrev pub million_table : List ℕ
million_table = encode 3 (record { tasks = tabulate million_task 200; rows = [] })

abbrev pub LongestReached : Type 0
LongestReached = length (text_of million_table verdict.Schedulable (replicate 200 1000000) (replicate 200 1000000)) ≡ longest

-- The same of the second analysis: here the text says of those tasks that each answers 1,000,000 after 64 tries. This too is about the text,
-- and not about which answers the second analysis can give together.
abbrev pub LongestPastReached : Type 0
LongestPastReached = length (past_text_of million_table found.Schedulable (replicate 200 1000000) (replicate 200 64)) ≡ longest_past
