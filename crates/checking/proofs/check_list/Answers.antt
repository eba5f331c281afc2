-- `checking::check_list` meets its contract: the words that are kept stand for the whole list.
-- Assumes nothing.
use borrow.Author.Rules.{rules}
use Rattle.printing.proofs.PageLaws.{as_wrote}
use Rattle.checking.proofs.ListLaws.{list_checked, list_unreadable}
use Rattle.checking.proofs.check_list.Goals as goal
use Rattle.checking.proofs.check_list.Goals.{in-Ok, in-Err}

pub returns-clause-appended : goal.returns-clause-appended
returns-clause-appended c =
    elim c.match-finish.branch [
      | in-Ok w ↦
          let wrote = as_wrote w.claimed_line.ensures (list_checked _ c.finish.ensures w.in-Ok.is w.min.ensures w.check_claims.ensures) in
          search (rules, w.page-is, wrote.appended, wrote.same_buffer)
      | in-Err w ↦
          let wrote = as_wrote w.line_with_number.ensures (list_unreadable c.args.table.now c.finish.ensures w.in-Err.is) in
          search (rules, w.page-is, wrote.appended, wrote.same_buffer)
    ]
