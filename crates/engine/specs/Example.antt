-- A small play, drawn by hand: the fifth table (SPECIFICATION 12; document 01), (4, 1), (6, 2) and (10, 3), whose run is drawn in
-- crates/runs too.
-- Assumes nothing.
use Rattle.std.specs.Prelude.{ℕ, ◌≡◌, List, [], ◌∷◌}
use Rattle.model.specs.Lists.{tabulate}
use Rattle.model.specs.Tables.{Task}
use Rattle.runs.specs.Examples.{three}
use Rattle.engine.specs.Run.{engine_after, engine_serves, engine_ticks, engine_answer}

abbrev pub fifth : List Task
fifth = three.tasks

-- the first ready word after t ticks
abbrev pub ready_after_ticks : ℕ → ℕ
ready_after_ticks t = (engine_after fifth t).ready 0

-- The places that ticks 0 to 9 serve; the first ready word before the first and after each of them (bit 0 for the first task); the number of
-- ticks that are played where at most 0 to 12 are; the answers.
pub record FifthPlayed : Type 0 where
  pub places : tabulate (engine_serves fifth) 10 ≡ 0 ∷ 1 ∷ 1 ∷ 2 ∷ 0 ∷ 2 ∷ 1 ∷ 1 ∷ 0 ∷ 2 ∷ []
  pub words : tabulate ready_after_ticks 11 ≡ 0 ∷ 6 ∷ 6 ∷ 4 ∷ 4 ∷ 4 ∷ 4 ∷ 6 ∷ 4 ∷ 4 ∷ 0 ∷ []
  pub ticks : tabulate (engine_ticks fifth) 13 ≡ 0 ∷ 1 ∷ 2 ∷ 3 ∷ 4 ∷ 5 ∷ 6 ∷ 7 ∷ 8 ∷ 9 ∷ 10 ∷ 10 ∷ 10 ∷ []
  pub answers : tabulate (engine_answer fifth) 3 ≡ 1 ∷ 3 ∷ 10 ∷ []
