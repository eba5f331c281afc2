-- The four ready words, computed.
-- Assumes nothing.
use mathlib.Core.Path.{refl}
use lib.Count.{count_trailing_zeros}
use Rattle.model.specs.Lists.{tabulate}
use Rattle.machine.specs.Machine.{raised, next_from, earliest}
use Rattle.machine.specs.Examples.{WordsDrawn}

pub words_drawn : WordsDrawn
unfolding tabulate count_trailing_zeros raised next_from earliest
words_drawn =
    record {
      masks = refl;
      bits = refl;
      first = refl;
      second = refl;
      third = refl;
      none = refl;
      own = refl;
      counts = refl;
      shares = refl;
      nexts = refl;
      released = refl;
    }
