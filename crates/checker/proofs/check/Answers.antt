-- `checker::check` meets its contract: the longest line has room.
-- Assumes nothing.
use Rattle.checking.proofs.LineLaws.{line_whole}
use Rattle.checker.proofs.ReadLaws.{behind_within, behind_enough}
use Rattle.checker.proofs.check.Goals as goal

pub check_list-requires : goal.check_list-requires
check_list-requires c = record { within = behind_within c.requires.behind; words_len = behind_enough c.requires.behind }

pub returns-clause-whole : goal.returns-clause-whole
returns-clause-whole c = line_whole _ _ _ _ _ _ (behind_within c.requires.behind) c.requires.longest_in_bounds c.check_list.ensures.appended
