-- The tables of examples/, encoded by the checker.
-- Assumes nothing.
use mathlib.Core.Path.{refl}
use Rattle.model.specs.Lists.{tabulate}
use Rattle.tables.specs.Layout.{layout_for}
use Rattle.encoding.specs.Bytes.{joined}
use Rattle.encoding.specs.Examples.{ExamplesEncoded}

pub examples_encoded : ExamplesEncoded
unfolding layout_for joined tabulate
examples_encoded = refl
