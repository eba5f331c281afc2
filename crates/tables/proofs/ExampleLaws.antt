-- The places counted by hand, computed.
-- Assumes nothing.
use mathlib.Core.Path.{refl}
use Rattle.model.specs.Search.{first_of}
use Rattle.tables.specs.Layout.{layout_for}
use Rattle.tables.specs.Refusals.{unless, or_else, first_in, fields_check}
use Rattle.tables.specs.Rules.{count_test, lengths_agree, priority_fits, record_test, row_after, row_test}
use Rattle.tables.specs.Checks.{counts_check, record_check, row_check, head_check, records_check, rows_check, body_check, room_check, table_check_spanning}
use Rattle.tables.specs.Examples.{PlacesDrawn}

pub places_drawn : PlacesDrawn
unfolding layout_for first_of unless or_else first_in fields_check count_test lengths_agree priority_fits record_test row_after row_test counts_check record_check row_check head_check records_check rows_check body_check room_check table_check_spanning
places_drawn =
    record {
      clean = refl;
      places = refl;
      two_faults = refl;
      tied_clean = refl;
      clean_two = refl;
      places_two = refl;
      two_faults_two = refl;
      clean_three = refl;
      places_three = refl;
      two_faults_three = refl;
      tied_two_clean = refl;
      past_period = refl;
      spans_four = refl;
      past_four = refl;
      longest_right = refl;
      past_longest = refl;
    }
