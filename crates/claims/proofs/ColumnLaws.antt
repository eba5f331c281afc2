-- The columns that hold a table give the answer for the table that the bytes mean.
-- Assumes nothing.
use Rattle.std.specs.Prelude.{Ok, Err}
use Prim.Native.Nat.{ℕ, ◌≤◌, ◌<◌}
use mathlib.Core.Path.{◌≡◌, refl, sym, ◌∙◌, ap}
use mathlib.Core.Bool.{Bool}
use mathlib.Core.List.{List}
use lib.ListN.{length}
use borrow.Author.Tests.{eq-eqb, ne_eqb}
use Rattle.model.specs.Choice.{pick}
use Rattle.model.specs.Lists.{filled}
use Rattle.model.proofs.First.{first_same}
use Rattle.tables.specs.declared.Refusal.{Refusal}
use Rattle.tables.specs.Layout.{task_count, table_of}
use Rattle.tables.specs.Refusals.{at}
use Rattle.tables.specs.Checks.{read_check}
use Rattle.records.specs.Columns.{RecordColumn, RowColumn, TableHeld}
use Rattle.blocking.specs.Ceilings.{blocking_of}
use Rattle.response.proofs.DecodedLaws.{Ranks, decoded_from, base_is, loads_agree, latest_is, deadline_is}
use Rattle.claims.specs.declared.Claimed.{Claimed}
use Rattle.claims.specs.declared.Claimed.TheVariants.{Refused, WrongCount, Pass, Fails}
use Rattle.claims.specs.Claims.{passes_at, is_pass, fails_at, compared_of, claimed_of, Checked}
use Rattle.claims.specs.Columns.{passes_in}

-- what is refused in reading is refused
pub read_refused : (bytes claims : List ℕ) (refusal : Refusal) → Err refusal ≡ read_check 1 bytes → Checked bytes claims (Refused refusal)
unfolding claimed_of
read_refused bytes claims refusal e = rw (sym e) refl

-- and else a list of another length
pub wrong_count : (bytes claims : List ℕ) → read_check 1 bytes ≡ Ok tt → (length claims ≡ task_count bytes → ⊥) → Checked bytes claims WrongCount
unfolding claimed_of
wrong_count bytes claims clean other = sym (rw (clean, ne_eqb (length claims) (task_count bytes) other))

-- and else it is as the claims compare
pub compared : (bytes claims : List ℕ) → read_check 1 bytes ≡ Ok tt → length claims ≡ task_count bytes →
    claimed_of bytes claims ≡ compared_of (passes_at (table_of bytes) claims) (task_count bytes)
unfolding claimed_of
compared bytes claims clean counted = rw (clean, eq-eqb (length claims) (task_count bytes) counted)

module _ (bytes : List ℕ) (records : RecordColumn → List ℕ) (rows : RowColumn → List ℕ) (held : TableHeld 1 bytes records rows)
    (ranks : List ℕ) (ranks_held : Ranks bytes ranks) (n : ℕ) (tasks_counted : n ≡ task_count bytes)
    (blocked old : List ℕ) (room : n ≤ length old)
    (left : blocked ≡ filled (blocking_of (table_of bytes)) (task_count bytes) old) where
  passes_agree : (claims : List ℕ) (i : ℕ) → i < n →
      passes_in (decoded_from ranks records blocked) n claims i ≡ passes_at (table_of bytes) claims i
  unfolding passes_in passes_at
  passes_agree claims i h =
      rw (
        base_is bytes records rows held ranks ranks_held n tasks_counted blocked old room left i h,
        loads_agree bytes records rows held ranks ranks_held n tasks_counted blocked old room left i h,
        latest_is bytes records rows held ranks ranks_held n tasks_counted blocked old room left i h,
        deadline_is bytes records rows held ranks ranks_held n tasks_counted blocked old room left i h,
      )

  -- the answer for the columns is that for the bytes
  pub table_checked : (claims : List ℕ) → length claims ≡ task_count bytes → (claimed : Claimed) →
      claimed ≡ compared_of (passes_in (decoded_from ranks records blocked) n claims) n → Checked bytes claims claimed
  table_checked claims counted claimed e =
      let in_columns = passes_in (decoded_from ranks records blocked) n claims in
      let in_table = passes_at (table_of bytes) claims in
      e
      ∙ first_same is_pass Pass (fails_at in_columns) (fails_at in_table) n
      (λ k h. ap (λ (b : Bool). pick b Pass (Fails (at k))) (passes_agree claims k h))
      ∙ ap (compared_of in_table) tasks_counted
      ∙ sym (compared bytes claims held.clean counted)
