-- How long the lines of a report can be.
-- Assumes nothing.
use Prim.Native.Nat.{ℕ, suc, ◌*◌, ◌≤◌, ◌<◌}
use native.Mathlib.Omega.{arith}
use native.Mathlib.Decide.{dec_le}
use mathlib.Core.Path.{◌≡◌, sym, ◌∙◌, ap}
use mathlib.Core.Bool.{Bool, true, false}
use mathlib.Core.List.{List, [], ◌∷◌, ◌++◌, flatten, append_assoc}
use lib.Dec.{ltb}
use lib.ListN.{length, length-append}
use Rattle.tables.specs.Layout.{stated_length}
use Rattle.printing.specs.Text.{bytes_of, with_number, line_with_number}
use Rattle.printing.proofs.LengthLaws.{twenty_digits, number_long, line_long}
use Rattle.printing.proofs.LongestLaws.{whole, whole_within}
use Rattle.report_lines.specs.Line.{line_of}
use Rattle.report_lines.proofs.LineLaws.{line_short}
use Rattle.reporting.specs.Cutting.{tables_in, left_in, Begins, Stated, AllStated, Cut}
use Rattle.reporting.specs.declared.Report.{Report}
use Rattle.reporting.specs.declared.Told.{Told}
use Rattle.reporting.specs.Report.{lines_from, broken_line}
use Rattle.reporting.specs.Streaming.{lines_more, lines_room, GoesOn, Countable}
use Rattle.reporting.specs.Longest.{LinesFit, ClosingFits}
use Rattle.reporting.proofs.CuttingLaws.{is_cut, stated_front, stated_by}

-- a line has at most 8 bytes for each byte of its table
lines_each : (number : ℕ) (tables : List (List ℕ)) → AllStated tables → length (lines_from number tables) ≤ 8 * length (flatten tables)
unfolding lines_from flatten
lines_each number [] s = omega arith
lines_each number (table ∷ tables) s =
    omega (
      arith,
      length-append (line_of number table) (lines_from (suc number) tables),
      length-append table (flatten tables),
      (line_short number table).each s.0.low,
      lines_each (suc number) tables s.1,
    )

-- the first table that ends in more bytes is longer than what was left of it before
first_longer : (left more table behind : List ℕ) → ¬ Begins left → Stated table → table ++ behind ≡ left ++ more → length left < length table
first_longer left more table behind n s e =
    elim (dec_le (length table) (length left)) [
      | no h ↦ omega (arith, h)
      | yes h ↦
          let same : stated_length left ≡ length table =
          sym (stated_front left more (omega (arith, h, s.low))) ∙ stated_by behind s e in
          absurd (n record { head = omega (arith, h, s.low); low = omega (arith, same, s.low); inside = omega (arith, same, h) })
    ]

pub lines_fit : LinesFit
unfolding lines_from flatten
lines_fit bytes more = go (tables_in (left_in bytes ++ more)) (is_cut (left_in bytes ++ more))
  where
    n : ℕ
    n = length (tables_in bytes)

    go : (tables : List (List ℕ)) → Cut (left_in bytes ++ more) tables (left_in (left_in bytes ++ more)) →
        length (lines_from n tables) ≤ lines_room (length more)
    go [] c = omega arith
    go (table ∷ tables) c =
        let behind = flatten tables ++ left_in (left_in bytes ++ more) in
        let e : table ++ behind ≡ left_in bytes ++ more =
        sym (append_assoc table (flatten tables) (left_in (left_in bytes ++ more))) ∙ c.whole in
        omega (
          arith,
          length-append (line_of n table) (lines_from (suc n) tables),
          (line_short n table).most,
          lines_each (suc n) tables c.stated.1,
          first_longer (left_in bytes) more table behind (is_cut bytes).closed c.stated.0 e,
          ap (λ (xs : List ℕ). length xs) e,
          length-append table behind,
          length-append (flatten tables) (left_in (left_in bytes ++ more)),
          length-append (left_in bytes) more,
        )

-- so that a buffer with room holds the lines whole
pub lines_within : {report : Report} {store more out kept written : List ℕ} {told : Told} → Countable report store (length more) →
    lines_room (length more) ≤ length out → GoesOn report store more out 0 told kept written → told.end ≤ length written
lines_within {more = more} {out = out} {written = written} {told = told} c room g =
    whole_within
    (whole out (lines_more c.bytes more) told.end written (omega (arith, lines_fit c.bytes more, room)) (g.lines c.old c.bytes c.behind))

broken_long : (broken : Bool) → length (broken_line broken) ≤ 7
broken_long true = omega arith
broken_long false = omega arith

pub closing_fits : ClosingFits
closing_fits report =
    let first = with_number (bytes_of "schedulable ") report.schedulable in
    let second = with_number (bytes_of " late ") report.late in
    let third = line_with_number (bytes_of " refused ") report.refused in
    let broken = broken_line (ltb 0 report.come) in
    omega (
      arith,
      length-append (first ++ (second ++ third)) broken,
      length-append first (second ++ third),
      length-append second third,
      number_long (bytes_of "schedulable ") report.schedulable,
      number_long (bytes_of " late ") report.late,
      line_long (bytes_of " refused ") report.refused,
      twenty_digits report.schedulable,
      twenty_digits report.late,
      twenty_digits report.refused,
      broken_long (ltb 0 report.come),
    )
