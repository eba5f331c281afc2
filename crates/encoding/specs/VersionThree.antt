-- Bytes for sample texts that no file of examples/ has: version 2's under version 3's number, and one task more than versions 1 and 2 allow
-- (SPECIFICATION 2 and 12; document 02, L9).
-- Assumes nothing.
use Rattle.std.specs.Prelude.{ℕ, ◌-◌, List, [], set}
use Rattle.model.specs.Lists.{tabulate}
use Rattle.model.specs.Tables.{Task}
use Rattle.encoding.specs.Bytes.{encode}
use Rattle.encoding.specs.Examples.{task, delays}

-- "Version 3 has version 2's layout": the bytes of examples/delays.table under its number
abbrev pub delays_three : List ℕ
delays_three = set delays 0 3

-- "n up to 200", and "Versions 1 and 2 keep their limit of 32": 33 tasks, whose costs are one tick more than the last one's deadline
abbrev pub crowd_task : ℕ → Task
crowd_task i = task (33 - i) 98 3 98 0 0

abbrev pub crowd : (version : ℕ) → List ℕ
crowd version = encode version (record { tasks = tabulate crowd_task 33; rows = [] })
