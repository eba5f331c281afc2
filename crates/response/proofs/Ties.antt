-- Where a priority is not repeated the loads are document 01's.
-- Assumes nothing.
use native.Mathlib.Omega.{arith}
use Rattle.model.proofs.Loads.{alone_loads, falling_alone}
use Rattle.tables.specs.Layout.{tasks_of}
use Rattle.tables.proofs.LayoutLaws.{tasks_count}
use Rattle.response.specs.Ties.{NothingMoved}

pub nothing_moved : NothingMoved
nothing_moved =
    record {
      falling = λ bytes falling i h.
          alone_loads (tasks_of bytes) i (falling_alone (tasks_of bytes) falling i (omega (arith, tasks_count bytes)));
      alone = λ bytes i alone. alone_loads (tasks_of bytes) i alone;
    }
