use Rattle.equation.proofs.SliceLaws.{Summing}
use Rattle.equation.proofs.Loads.with_more.Given as goal

abbrev pub invariant-loop-k : goal.invariant-loop-k
invariant-loop-k l = Summing l.self.periods.now l.self.costs.now l.self.spreads.now l.sum l.from l.to l.w.0 l.k l.all
