-- The small play, computed.
-- Assumes nothing.
use mathlib.Core.Path.{refl}
use lib.Count.{count_trailing_zeros}
use Rattle.model.specs.Lists.{tabulate}
use Rattle.model.specs.Search.{first_from}
use Rattle.machine.specs.Machine.{raised, next_from, after, played, ticks_played}
use Rattle.engine.specs.Example.{FifthPlayed}

pub fifth_played : FifthPlayed
unfolding tabulate count_trailing_zeros first_from raised next_from after played ticks_played
fifth_played = record { places = refl; words = refl; ticks = refl; answers = refl }
