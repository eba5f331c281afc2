-- The longest texts, computed.
-- Assumes nothing.
use mathlib.Core.Path.{refl}
use Rattle.model.specs.Lists.{tabulate}
use Rattle.model.specs.Search.{first_from}
use Rattle.tables.specs.Layout.{layout_for}
use Rattle.encoding.specs.Bytes.{joined}
use Rattle.printing.specs.Text.{decimal_of, task_lines}
use Rattle.samples.specs.Longest.{LongestReached, LongestPastReached}

pub longest_reached : LongestReached
unfolding decimal_of first_from task_lines layout_for tabulate joined
longest_reached = refl

pub longest_past_reached : LongestPastReached
unfolding decimal_of first_from task_lines layout_for tabulate joined
longest_past_reached = refl
