-- How far on the place of a verdict can be.
-- Assumes nothing.
use Rattle.std.specs.Prelude.{Ok, Err}
use Prim.Native.Nat.{ℕ, ◌≤◌, ◌<◌}
use native.Mathlib.Omega.{arith}
use mathlib.Core.Path.{◌≡◌, refl}
use mathlib.Core.Bool.{true, false}
use mathlib.Core.List.{List}
use mathlib.Core.Logic.{inl, inr}
use lib.Dec.{eqb}
use Rattle.model.proofs.Tests.{bool?, clash}
use Rattle.model.proofs.First as first_laws
use Rattle.tables.specs.Fields.{task_count_field}
use Rattle.tables.specs.Layout.{task_count, table_of}
use Rattle.tables.specs.Refusals.{Check, at}
use Rattle.tables.specs.Checks.{table_check}
use Rattle.tables.proofs.LayoutLaws.{layout_sound}
use Rattle.tables.proofs.CheckLaws.{table_deserved, table_right}
use Rattle.tables.proofs.PlaceLaws.{refusal_place}
use Rattle.answering.specs.declared.Verdict.{Verdict}
use Rattle.answering.specs.declared.Verdict.TheVariants as verdict
use Rattle.answering.specs.Results.{is_schedulable, late_if, late_at, result_of}
use Rattle.response.specs.Verdicts.{verdict_place}
use Rattle.response.specs.Analysis.{answer_of}
use Rattle.response.specs.Outcome.{verdict_for, verdict_of}

pub schedulable_only : (v : Verdict) → is_schedulable v ≡ true → v ≡ verdict.Schedulable
schedulable_only (verdict.Refused r) p = absurd (clash false p refl)
schedulable_only verdict.Schedulable p = refl
schedulable_only (verdict.Late i) p = absurd (clash false p refl)

late_place : (answer i : ℕ) → verdict_place (late_if answer (at i)) ≤ i
late_place answer i =
    elim (bool? (eqb answer 0)) [
      | inl p ↦ rw p (omega arith)
      | inr p ↦ rw p (omega arith)
    ]

-- the place of a result is that of a task
pub result_place : (answers : ℕ → ℕ) (n : ℕ) → verdict_place (result_of answers n) ≤ n
result_place answers n =
    elim (bool? (is_schedulable (result_of answers n))) [
      | inl p ↦ rw (schedulable_only (result_of answers n) p) (omega arith)
      | inr p ↦
          let g = first_laws.first_found is_schedulable verdict.Schedulable refl (late_at answers) schedulable_only n p in
          rw g.2 (omega (arith, late_place (answers g.0) g.0, g.1))
    ]

pub verdict_place_law : (bytes : List ℕ) (answers rounds : ℕ) → verdict_place (verdict_of bytes answers rounds) < 65536
unfolding verdict_of
verdict_place_law bytes answers rounds = go (table_check bytes answers rounds) refl
  where
    go : (c : Check) → table_check bytes answers rounds ≡ c → verdict_place (verdict_for c (result_of (answer_of (table_of bytes)) (task_count bytes))) < 65536
    go (Ok _) e =
        let head = (table_right 1 bytes answers rounds e).0.head in
        omega (
          arith,
          result_place (answer_of (table_of bytes)) (task_count bytes),
          (head.counts task_count_field).high,
          (layout_sound bytes head.version).few,
        )
    go (Err r) e = refusal_place 1 bytes answers rounds r (table_deserved 1 bytes answers rounds r e)
