-- Any pieces can be told, one call after the other: byte by byte there is always something that goes on.
-- Assumes nothing.
use Prim.Native.Nat.{ℕ, ◌+◌, ◌≤◌, ◌<◌}
use native.Mathlib.Omega.{arith}
use mathlib.Core.Path.{refl, ap}
use mathlib.Core.Logic.{inl, inr}
use mathlib.Core.List.{List, [], ◌∷◌}
use lib.ListN.{length, take}
use Rattle.model.specs.Lists.{tabulate}
use Rattle.model.proofs.Lists.{length_tabulate}
use Rattle.model.proofs.Tests.{eqb?}
use Rattle.tables.specs.Layout.{stated_length}
use Rattle.printing.specs.Appended.{Appended, end_after, bytes_after}
use Rattle.report_lines.specs.Line.{judged_as, line_of}
use Rattle.reporting.specs.declared.Report.{Report}
use Rattle.reporting.specs.declared.Told.{Told}
use Rattle.reporting.specs.Streaming.{gathered_to, GoesOn, counted_by, counted_in, lines_room, Call, Called, AllCalled}
use Rattle.reporting.proofs.StreamLaws.{goes_pending, goes_headed, goes_ended, goes_none, goes_then}

-- a result that goes on
record Onward (report : Report) (store more out : List ℕ) (at : ℕ) : Type 0 where
  told : Told
  kept : List ℕ
  written : List ℕ
  goes : GoesOn report store more out at told kept written

one_byte : (report : Report) (store : List ℕ) (byte : ℕ) (out : List ℕ) (at : ℕ) → Onward report store (byte ∷ []) out at
one_byte report store byte out at =
    let more = byte ∷ [] in
    let kept = end_after store report.kept more in
    let new = bytes_after store report.kept more in
    let a : Appended store report.kept more kept new = record { end_is = refl; new_is = refl } in
    let fits : report.come < report.due → report.come + length more ≤ report.due = λ h. omega (arith, h) in
    elim (eqb? (report.come + length more) report.due) [
      | inr p ↦
          record {
            told = record { report = gathered_to report (report.come + length more) report.due kept; end = at };
            kept = new;
            written = out;
            goes = goes_pending report a fits refl p.1;
          }
      | inl p ↦
          elim (eqb? (stated_length new) (report.come + length more)) [
            | inr q ↦
                record {
                  told = record { report = gathered_to report (report.come + length more) (stated_length new) kept; end = at };
                  kept = new;
                  written = out;
                  goes = goes_headed report a fits p.1 refl refl q.1;
                }
            | inl q ↦
                let line = line_of (counted_in report) (take kept new) in
                record {
                  told = record { report = counted_by report (judged_as (take kept new)); end = end_after out at line };
                  kept = new;
                  written = bytes_after out at line;
                  goes = goes_ended report a fits p.1 refl q.1 refl record { end_is = refl; new_is = refl };
                }
          ]
    ]

onward : (more : List ℕ) (report : Report) (store out : List ℕ) (at : ℕ) → Onward report store more out at
onward [] report store out at =
    record { told = record { report = report; end = at }; kept = store; written = out; goes = goes_none report store out at }
onward (byte ∷ more) report store out at =
    let first = one_byte report store byte out at in
    let later = onward more first.told.report first.kept first.written first.told.end in
    record {
      told = later.told;
      kept = later.kept;
      written = later.written;
      goes = goes_then more first.goes later.goes;
    }

called : (pieces : List (List ℕ)) (report : Report) (store : List ℕ) → Called report store pieces
called [] report store = record { calls = []; same = refl; follow = tt }
called (more ∷ pieces) report store =
    let out = tabulate {A = ℕ} (λ (i : ℕ). 0) (lines_room (length more)) in
    let o = onward more report store out 0 in
    let later = called pieces o.told.report o.kept in
    let call : Call = record { more = more; out = out; told = o.told; kept = o.kept; written = o.written } in
    record {
      calls = call ∷ later.calls;
      same = ap (λ (xs : List (List ℕ)). more ∷ xs) later.same;
      follow = (o.goes, omega (arith, length_tabulate {A = ℕ} (λ (i : ℕ). 0) (lines_room (length more))), later.follow);
    }

pub all_called : AllCalled
all_called report store pieces = called pieces report store
