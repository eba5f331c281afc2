-- `reporting::take_in` meets its contract: no table ends, its head has come, or it is whole.
-- Assumes nothing.
use mathlib.Core.Path.{refl}
use Rattle.reporting.proofs.SafeLaws.{come_fits, head_there, counted_fits}
use Rattle.reporting.proofs.StreamLaws.{goes_pending, goes_headed, goes_ended}
use borrow.Author.Rules.{rules}
use Rattle.reporting.proofs.take_in.Goals as goal

pub overflow_add-come : goal.overflow_add-come
overflow_add-come c = search (rules, come_fits c.args.report c.args.more.now c.requires.countable)

pub returns-then-come-report : goal.returns-then-come-report
returns-then-come-report c =
    record {
      goes = goes_pending c.args.report c.append-kept.ensures c.requires.more_bound refl c.if-come-report.true;
      same_buffer = refl;
    }

pub stated_length-stated-requires : goal.stated_length-stated-requires
stated_length-stated-requires c = head_there c.args.report c.args.more.now c.requires.countable c.append-kept.ensures

pub returns-then-stated-come : goal.returns-then-stated-come
returns-then-stated-come c =
    record {
      goes =
          goes_headed c.args.report c.append-kept.ensures c.requires.more_bound c.if-come-report.false refl c.stated_length-stated.ensures
          c.if-stated-come.true;
      same_buffer = refl;
    }

pub end_table-requires : goal.end_table-requires
end_table-requires c = counted_fits c.args.report c.args.more.now c.requires.countable c.append-kept.ensures c.requires.more_bound c.if-come-report.false

pub returns : goal.returns
returns c =
    record {
      goes =
          goes_ended c.args.report c.append-kept.ensures c.requires.more_bound c.if-come-report.false c.stated_length-stated.ensures
          c.if-stated-come.false c.end_table.ensures.report_value c.end_table.ensures.wrote.appended;
      same_buffer = c.end_table.ensures.wrote.same_buffer;
    }
