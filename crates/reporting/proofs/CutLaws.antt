-- A piece longer than any table is refused by its first bytes alone, so that what lies behind byte 4,588 need not be kept.
-- Assumes nothing.
use Prim.Native.Nat.{ℕ, ◌≤◌}
use native.Mathlib.Omega.{arith}
use native.Mathlib.Decide.{dec_le}
use mathlib.Core.Path.{◌≡◌, refl, sym, ◌∙◌, ap}
use mathlib.Core.Bool.{false}
use mathlib.Core.List.{List}
use lib.ListN.{length, take, length-take}
use lib.Seq.{take_all}
use borrow.Author.Tests.{ne_eqb}
use Rattle.tables.specs.Layout.{stated_length}
use Rattle.tables.specs.Rules.{lengths_agree}
use Rattle.tables.proofs.FirstLaws.{Counted, first_stated, first_refused, too_long}
use Rattle.response.proofs.FirstLaws.{refused_verdict}
use Rattle.report_lines.specs.Line.{judged_as, line_of}
use Rattle.reporting.specs.Cutting.{Stated}
use Rattle.reporting.specs.Streaming.{Alike, LongPieces}

module _ (piece : List ℕ) (s : Stated piece) (long : 4590 ≤ length piece) where
  -- its first bytes state more than they are
  front_wrong : Counted (take 4589 piece) → lengths_agree (take 4589 piece) ≡ false
  unfolding lengths_agree
  front_wrong c =
      rw
      (ne_eqb (stated_length (take 4589 piece)) (length (take 4589 piece))
      (λ e. omega (arith, e, first_stated 4589 piece (omega arith), s.stated, length-take 4589 piece, long)))
      refl

  cut_alike : Alike piece (take 4589 piece)
  cut_alike =
      let a = first_refused 4589 piece (omega arith) (omega (arith, long)) (too_long piece long) front_wrong in
      record {
        refusal = a.refusal;
        one = refused_verdict piece a.refusal a.one 200 200;
        other = refused_verdict (take 4589 piece) a.refusal a.other 200 200;
      }

pub long_pieces : LongPieces
long_pieces piece s long = cut_alike piece s (omega (arith, long))

-- the first bytes of a stated piece are judged as the whole piece, and told by the same line
pub cut_verdict : (piece : List ℕ) → Stated piece → judged_as (take 4589 piece) ≡ judged_as piece
cut_verdict piece s =
    elim (dec_le (length piece) 4589) [
      | yes h ↦ ap (λ (xs : List ℕ). judged_as xs) (take_all 4589 piece h)
      | no h ↦ let a = cut_alike piece s (omega (arith, h)) in a.other ∙ sym a.one
    ]

pub cut_line : (number : ℕ) (piece : List ℕ) → Stated piece → line_of number (take 4589 piece) ≡ line_of number piece
unfolding line_of
cut_line number piece s =
    elim (dec_le (length piece) 4589) [
      | yes h ↦ ap (line_of number) (take_all 4589 piece h)
      | no h ↦ let a = cut_alike piece s (omega (arith, h)) in rw (a.other, a.one) refl
    ]
