-- `reporting::close` meets its contract: the totals, and behind them that the file is broken, where it is.
-- Assumes nothing.
use Rattle.printing.proofs.PageLaws.{both, as_wrote}
use Rattle.reporting.proofs.ClosingLaws.{closing_broken, closing_whole}
use Rattle.reporting.proofs.close.Goals as goal

pub returns-then-report-gt0 : goal.returns-then-report-gt0
returns-then-report-gt0 c =
    as_wrote
    (both (both c.append_with_number.ensures (both c.append_with_number-2.ensures c.line_with_number.ensures)) c.append.ensures)
    (closing_broken c.args.report c.if-report-gt0.true)

pub returns-else-report-gt0 : goal.returns-else-report-gt0
returns-else-report-gt0 c =
    as_wrote (both c.append_with_number.ensures (both c.append_with_number-2.ensures c.line_with_number.ensures))
    (closing_whole c.args.report c.if-report-gt0.false)
