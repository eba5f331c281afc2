-- `solver::solve` meets its contract: the start is late, or the answer, or the sequence is followed from the first marks on.
-- Assumes nothing.
use Rattle.solver.proofs.SolverLaws.{start_late}
use Rattle.solver.proofs.RoundLaws.{solved_at_once, may_follow}
use Rattle.solver.proofs.solve.Goals as goal

pub returns-then-deadline-start : goal.returns-then-deadline-start
returns-then-deadline-start c = start_late _ _ _ _ _ c.requires.solvable c.if-deadline-start.true

pub returns-then-ends_at_once : goal.returns-then-ends_at_once
returns-then-ends_at_once c = solved_at_once _ _ _ _ _ _ c.requires.loads_fit.0 _ _ _ _ _ c.requires.begun c.requires.solvable c.if-deadline-start.false _ c.ends_at_once.ensures c.if-ends_at_once.true

pub follow-followed-requires : goal.follow-followed-requires
follow-followed-requires c = rw c.from.ensures (may_follow _ _ _ _ _ _ c.requires.loads_fit.0 _ _ _ _ _ _ _ _ c.requires.loads_fit.1 c.requires.begun c.requires.solvable c.if-deadline-start.false c.look_ahead-ahead.ensures c.set_first.ensures)
