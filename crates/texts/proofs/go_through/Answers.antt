-- `texts::go_through` meets its contract.
-- Assumes nothing.
use native.Mathlib.Omega.{arith}
use Rattle.texts.proofs.TextLaws.{behind_sized, behind_bounded, behind_whole, behind_after}
use Rattle.texts.proofs.go_through.Goals as goal

pub take_byte-last-requires : goal.take_byte-last-requires
take_byte-last-requires c =
    let behind = behind_whole c.begin.ensures c.requires c.if-text-ge-MOST_TEXT.false c.go_on-reader.ensures.spot_value c.go_on-reader.ensures.places_after in
    record { bounded = behind_bounded behind 1 (omega (arith, c.if-text-ge-MOST_TEXT.false)); fields_len = (behind_sized behind).fields }

pub returns : goal.returns
returns c =
    record {
      ok = (
        c.if-text-ge-MOST_TEXT.false,
        behind_after
            (behind_whole c.begin.ensures c.requires c.if-text-ge-MOST_TEXT.false c.go_on-reader.ensures.spot_value c.go_on-reader.ensures.places_after)
            c.take_byte-last.ensures.places_after,
      );
      err = tt;
    }
