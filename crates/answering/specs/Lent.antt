-- What the code's `Tasks` stand for: a decoded table, over lent slices.
-- Assumes nothing.
use Rattle.std.specs.Prelude.{ℕ, ◌≡◌}
use Rattle.equation.specs.declared.Loads.{Loads}
use Rattle.answering.specs.declared.Tasks.{Tasks}
use Rattle.answering.specs.Slices.{Decoded, decoded}

abbrev pub decoded_from : Tasks → Decoded
decoded_from t = decoded t.priorities.now t.periods.now t.costs.now t.deadlines.now t.spreads.now t.latest.now t.held.now

-- the loads of one task of the table: its columns, the task's own place and how many places there are
pub record OfTask (loads : Loads) (t : Tasks) (own count : ℕ) : Type 0 where
  pub periods_are : loads.periods.now ≡ t.periods.now
  pub costs_are : loads.costs.now ≡ t.costs.now
  pub spreads_are : loads.spreads.now ≡ t.spreads.now
  pub own_is : loads.own ≡ own
  pub count_is : loads.count ≡ count
