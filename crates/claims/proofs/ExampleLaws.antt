-- The examples of claims, computed.
-- Assumes nothing.
use mathlib.Core.Path.{refl}
use Rattle.model.specs.Lists.{tabulate, gather, sum_of, largest_of}
use Rattle.model.specs.Search.{first_of}
use Rattle.tables.specs.Layout.{layout_for}
use Rattle.tables.specs.Refusals.{unless, or_else, first_in, fields_check}
use Rattle.tables.specs.Rules.{count_test, lengths_agree, priority_fits, record_test, row_after, row_test}
use Rattle.tables.specs.Checks.{counts_check, record_check, row_check, head_check, records_check, rows_check, body_check, read_check}
use Rattle.encoding.specs.Bytes.{joined}
use Rattle.equation.specs.Demand.{demand}
use Rattle.blocking.specs.Ceilings.{ceiling, blocking_of}
use Rattle.claims.specs.Claims.{claim_passes, passes_at, claimed_of}
use Rattle.claims.specs.Examples.{examples, ClaimExamples}

pub claim_examples : ClaimExamples
unfolding tabulate gather sum_of largest_of first_of layout_for unless or_else first_in fields_check count_test lengths_agree priority_fits record_test row_after row_test counts_check record_check row_check head_check records_check rows_check body_check read_check joined demand ceiling blocking_of claim_passes passes_at claimed_of examples
claim_examples = refl
