-- Which refusal a table gets, stage by stage: the first check that is not clean decides.
-- Assumes nothing.
use Rattle.std.specs.Prelude.{Ok, Err}
use Prim.Native.Nat.{ℕ, ◌≤◌}
use native.Mathlib.Omega.{arith}
use mathlib.Core.Path.{◌≡◌, sym, ◌∙◌, ap}
use mathlib.Core.Bool.{false}
use mathlib.Core.List.{List}
use lib.Dec.{leb}
use borrow.Author.Tests.{le-leb}
use Rattle.model.specs.Choice.{both}
use Rattle.tables.specs.declared.Refusal.{Refusal}
use Rattle.tables.specs.declared.Refusal.TheVariants.{NoRoom}
use Rattle.tables.specs.Layout.{task_count}
use Rattle.tables.specs.Refusals.{Check, first_in, or_else, unless}
use Rattle.tables.specs.Checks.{head_check, body_check, read_check, room_check, table_check_spanning}
use Rattle.tables.proofs.FieldLaws.{never_refused, first_clean}

-- a check that is refused decides
decides : (check later : Check) (r : Refusal) → Err r ≡ check → Err r ≡ or_else check later
unfolding or_else
decides (Ok _) later r e = absurd (never_refused (sym e))
decides (Err s) later r e = e

-- the first of two checks that is refused is refused whatever is checked behind them
two_decide : (first second later : Check) (r : Refusal) → Err r ≡ or_else first (or_else second (Ok tt)) →
    or_else first (or_else second later) ≡ Err r
unfolding or_else
two_decide (Err s) second later r e = sym e
two_decide (Ok _) (Err s) later r e = sym e
two_decide (Ok _) (Ok _) later r e = absurd (never_refused (sym e))

module _ (span : ℕ) (bytes : List ℕ) where
  pub read_clean : read_check span bytes ≡ Ok tt → (head_check bytes ≡ Ok tt) × (body_check span bytes ≡ Ok tt)
  unfolding read_check first_in
  read_clean e =
      let a = first_clean (head_check bytes) _ e in
      (a.0, (first_clean (body_check span bytes) _ a.1).0)

  -- a head that is refused is refused whatever stands behind it
  pub head_decides : (r : Refusal) → Err r ≡ head_check bytes → Err r ≡ read_check span bytes
  unfolding read_check first_in
  head_decides r e = decides (head_check bytes) _ r e

  module _ (answers rounds : ℕ) where
    pub read_decides : (r : Refusal) → Err r ≡ read_check span bytes → table_check_spanning span bytes answers rounds ≡ Err r
    unfolding table_check_spanning read_check first_in
    read_decides r e = two_decide (head_check bytes) (body_check span bytes) _ r e

    module _ (clean : read_check span bytes ≡ Ok tt) (n : ℕ) (counted : n ≡ task_count bytes) where
      pub room_decides : both (leb n answers) (leb n rounds) ≡ false → table_check_spanning span bytes answers rounds ≡ Err NoRoom
      unfolding table_check_spanning first_in or_else unless room_check
      room_decides e =
          rw ((read_clean clean).0, (read_clean clean).1, ap (λ (k : ℕ). both (leb k answers) (leb k rounds)) (sym counted) ∙ e)

      -- nothing is refused
      pub all_pass : n ≤ answers → n ≤ rounds → table_check_spanning span bytes answers rounds ≡ Ok tt
      unfolding table_check_spanning first_in or_else unless room_check
      all_pass answers_long rounds_long =
          rw (
            (read_clean clean).0,
            (read_clean clean).1,
            le-leb (task_count bytes) answers (omega (arith, counted)),
            le-leb (task_count bytes) rounds (omega (arith, counted)),
          )
