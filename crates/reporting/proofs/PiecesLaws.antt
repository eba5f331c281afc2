-- The text of a file in any pieces, a report that is closed before its file's end, and that there is no second result.
-- Assumes nothing.
use Prim.Native.Nat.{ℕ, ◌≤◌, ◌<◌}
use native.Mathlib.Omega.{arith}
use native.Mathlib.Nat.{zero-add}
use mathlib.Core.Path.{◌≡◌, sym, ◌∙◌, ap, subst}
use mathlib.Core.Bool.{Bool}
use mathlib.Core.List.{List, [], ◌∷◌, ◌++◌, flatten, map, append_assoc, append-nil}
use lib.Dec.{ltb}
use lib.ListN.{length, take, length-append}
use borrow.Author.Tests.{lt-ltb, ltb-true}
use Rattle.printing.specs.Appended.{Appended}
use Rattle.printing.proofs.AppendLaws.{no_second_text, then, as_text}
use Rattle.printing.proofs.LongestLaws.{whole}
use Rattle.reporting.specs.declared.Report.{Report}
use Rattle.reporting.specs.declared.Told.{Told}
use Rattle.reporting.specs.Cutting.{tables_from, left_from, tables_in, left_in, is_broken, Begins}
use Rattle.reporting.specs.Report.{lines_from, schedulable_in, late_in, refused_in, totals_line, broken_line, closing_text, report_of}
use Rattle.reporting.specs.Streaming.{begun, store_size, Behind, lines_more, GoesOn, NoSecondTold, closing_by, lines_room, Call, piece_of, text_of, Follow, last_of, AnyPieces, ClosedEarly}
use Rattle.reporting.specs.Longest.{ReportFits}
use Rattle.reporting.proofs.CuttingLaws.{is_cut, stated_front, tables_more, left_more, none_whole}
use Rattle.reporting.proofs.DueLaws.{due_stated, closed_low}
use Rattle.reporting.proofs.StreamLaws.{lines_both, behind_none}
use Rattle.reporting.proofs.LengthLaws.{lines_fit, closing_fits}

-- what is said behind the last byte
totals_same : {a b c d e f : ℕ} → a ≡ d → b ≡ e → c ≡ f → totals_line a b c ≡ totals_line d e f
totals_same {a} {b} {c} {d} {e} {f} p q r =
    ap (λ (x : ℕ). totals_line x b c) p ∙ ap (λ (x : ℕ). totals_line d x c) q ∙ ap (totals_line d e) r

pub closing_is : {old bytes store : List ℕ} {report : Report} → Behind old bytes report store → closing_by report ≡ closing_text bytes
closing_is {bytes = bytes} {report = report} b =
    ap (λ (text : List ℕ). text ++ broken_line (ltb 0 report.come)) (totals_same b.schedulable b.late b.refused)
    ∙ ap
    (λ (n : ℕ). totals_line (schedulable_in (tables_in bytes)) (late_in (tables_in bytes)) (refused_in (tables_in bytes)) ++ broken_line (ltb 0 n))
    b.come

-- the report by its tables
report_by : List (List ℕ) → Bool → List ℕ
report_by tables broken =
    lines_from 0 tables ++ (totals_line (schedulable_in tables) (late_in tables) (refused_in tables) ++ broken_line broken)

pub report_is : {old bytes store : List ℕ} {report : Report} → Behind old bytes report store →
    lines_from 0 (tables_in bytes) ++ closing_by report ≡ report_of bytes
unfolding report_of
report_is {bytes = bytes} b = ap (λ (text : List ℕ). lines_from 0 (tables_in bytes) ++ text) (closing_is b)

-- the lines so far, with those of more bytes
pub lines_more_law : (bytes more : List ℕ) → lines_from 0 (tables_in bytes) ++ lines_more bytes more ≡ lines_from 0 (tables_in (bytes ++ more))
lines_more_law bytes more =
    let later = tables_in (left_in bytes ++ more) in
    ap (λ (n : ℕ). lines_from 0 (tables_in bytes) ++ lines_from n later) (sym (zero-add (length (tables_in bytes))))
    ∙ sym (lines_both 0 (tables_in bytes) later)
    ∙ sym (ap (lines_from 0) (tables_more bytes more))

-- what a call put at the beginning of a buffer that has room
text_whole : (bytes more out : List ℕ) (end : ℕ) (written : List ℕ) → lines_room (length more) ≤ length out →
    Appended out 0 (lines_more bytes more) end written → take end written ≡ lines_more bytes more
text_whole bytes more out end written room a =
    (whole out (lines_more bytes more) end written (omega (arith, lines_fit bytes more, room)) a).text_is

from : (calls : List Call) {old bytes store : List ℕ} {report : Report} → Behind old bytes report store → Follow report store calls →
    lines_from 0 (tables_in bytes) ++ (flatten (map text_of calls) ++ closing_by (last_of report calls))
    ≡ report_of (bytes ++ flatten (map piece_of calls))
unfolding flatten
from [] {bytes = bytes} b f = report_is b ∙ ap report_of (sym (append-nil bytes))
from (call ∷ calls) {old} {bytes} {store} {report} b f =
    let more = call.more in
    let texts = flatten (map text_of calls) in
    let pieces = flatten (map piece_of calls) in
    let closing = closing_by (last_of call.told.report calls) in
    let lines = lines_from 0 (tables_in bytes) in
    let text = text_whole bytes more call.out call.told.end call.written f.1 (f.0.lines old bytes b) in
    ap (λ (xs : List ℕ). lines ++ (xs ++ texts ++ closing)) text
    ∙ ap (λ (xs : List ℕ). lines ++ xs) (append_assoc (lines_more bytes more) texts closing)
    ∙ sym (append_assoc lines (lines_more bytes more) (texts ++ closing))
    ∙ ap (λ (xs : List ℕ). xs ++ (texts ++ closing)) (lines_more_law bytes more)
    ∙ from calls (f.0.behind old bytes b) f.2
    ∙ ap report_of (append_assoc bytes more pieces)

pub any_pieces : AnyPieces
unfolding tables_from lines_from
any_pieces old calls h f = from calls (behind_none old h) f

-- a file that is lent whole: its lines, and what is said behind them
pub text_of_file : {report : Report} (store : List ℕ) {file out between written kept : List ℕ} {told : Told} {end : ℕ} → report ≡ begun →
    length store ≡ store_size → GoesOn report store file out 0 told kept between →
    Appended between told.end (closing_by told.report) end written → Appended out 0 (report_of file) end written
unfolding tables_from left_from lines_from
text_of_file {report} store {file} {out} {between} {written} {kept} {told} {end} e room g f =
    let start = subst (λ (r : Report). Behind store [] r store) (sym e) (behind_none store room) in
    as_text (then (g.lines store [] start) f) (report_is (g.behind store [] start))

-- the report of a file, as lines that come behind no bytes and what is said behind them: no longer than both
pub report_fits : ReportFits
unfolding tables_from left_from report_of
report_fits bytes =
    let tables = tables_in bytes in
    let end : Report =
    record {
      schedulable = schedulable_in tables;
      late = late_in tables;
      refused = refused_in tables;
      come = length (left_in bytes);
      due = 0;
      kept = 0;
    } in
    omega (arith, length-append (lines_from 0 tables) (closing_text bytes), lines_fit [] bytes, closing_fits end)

-- a stated length below 5 stays one
stays_closed : (old bytes : List ℕ) (report : Report) (store more : List ℕ) → Behind old bytes report store → report.due < report.come →
    lines_from 0 (tables_in bytes) ++ closing_by report ≡ report_of (bytes ++ more)
unfolding report_of report_by
stays_closed old bytes report store more b h =
    let left = left_in bytes in
    let low = closed_low left (is_cut bytes).closed (omega (arith, h, b.come, b.due)) in
    let stays : ¬ Begins (left ++ more) =
    λ begins. omega (arith, begins.low, stated_front left more (omega (arith, low.0)), low.1) in
    let none = none_whole (left ++ more) stays in
    let same : tables_in bytes ≡ tables_in (bytes ++ more) =
    sym (tables_more bytes more ∙ ap (λ (xs : List (List ℕ)). tables_in bytes ++ xs) none.0 ∙ append-nil (tables_in bytes)) in
    let length_left : 0 < length left = omega (arith, low.0) in
    let length_rest : 0 < length (left_in (bytes ++ more)) =
    omega (arith, ap (λ (xs : List ℕ). length xs) (left_more bytes more ∙ none.1), length-append left more, low.0) in
    let broken : is_broken bytes ≡ is_broken (bytes ++ more) =
    lt-ltb 0 (length left) length_left ∙ sym (lt-ltb 0 (length (left_in (bytes ++ more))) length_rest) in
    report_is b
    ∙ ap (λ (tables : List (List ℕ)). report_by tables (is_broken bytes)) same
    ∙ ap (report_by (tables_in (bytes ++ more))) broken

pub closed_early : ClosedEarly
closed_early =
    record {
      means = λ old bytes report store b h.
          closed_low (left_in bytes) (is_cut bytes).closed (omega (arith, ltb-true report.due report.come h, b.come, b.due));
      told = λ old bytes report store b h k.
          lt-ltb report.due report.come (omega (arith, b.come, b.due, due_stated (left_in bytes) h, h, k));
      same = λ old bytes report store more b h. stays_closed old bytes report store more b (ltb-true report.due report.come h);
    }

-- what is kept is determined
same_report : (a b : Report) → a.schedulable ≡ b.schedulable → a.late ≡ b.late → a.refused ≡ b.refused → a.come ≡ b.come →
    a.due ≡ b.due → a.kept ≡ b.kept → a ≡ b
same_report a b p q r s t u = λ i. record { schedulable = p i; late = q i; refused = r i; come = s i; due = t i; kept = u i }

same_behind : {old bytes store other : List ℕ} {a b : Report} → Behind old bytes a store → Behind old bytes b other → (a ≡ b) × (store ≡ other)
same_behind {a = a} {b = b} x y =
    let z = no_second_text _ _ _ _ _ _ _ x.stored y.stored in (
      same_report a b (x.schedulable ∙ sym y.schedulable) (x.late ∙ sym y.late) (x.refused ∙ sym y.refused)
          (x.come ∙ sym y.come) (x.due ∙ sym y.due) z.0,
      z.1,
    )

same_told : (a b : Told) → a.report ≡ b.report → a.end ≡ b.end → a ≡ b
same_told a b p q = λ i. record { report = p i; end = q i }

pub no_second_told : NoSecondTold
no_second_told report store more out at told other kept another written rewritten c g h =
    let held = same_behind (g.behind c.old c.bytes c.behind) (h.behind c.old c.bytes c.behind) in
    let text = no_second_text _ _ _ _ _ _ _ (g.lines c.old c.bytes c.behind) (h.lines c.old c.bytes c.behind) in
    (same_told told other held.0 text.0, held.1, text.1)
