-- The examples, computed.
-- Assumes nothing.
use mathlib.Core.Path.{refl}
use mathlib.Core.List.{flatten}
use Rattle.scanning.specs.Reading.{is_digit, is_separator, outside}
use Rattle.scanning.specs.Examples.{examples, ExamplesRight}

pub examples_right : ExamplesRight
unfolding is_digit is_separator outside flatten examples
examples_right = refl
