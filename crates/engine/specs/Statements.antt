-- What is claimed of the engine for the bytes of any table (SPECIFICATION 9; document 02, L1, L6 and L9), as named statements about what `play`
-- answers and leaves (`Played`, its contract). The proofs are in proofs/Claims.antt, Versions.antt and
-- FirstLaws.antt.
-- Assumes nothing.
use Rattle.std.specs.Prelude.{ℕ, ◌≤◌, ◌<◌, ◌≡◌, ◌⊎◌, List, Option, length}
use Rattle.model.specs.Lists.{filled}
use Rattle.model.specs.Tables.{Falling}
use Rattle.model.specs.declared.Place.{Place}
use Rattle.tables.specs.declared.Refusal.{Refusal}
use Rattle.tables.specs.declared.Refusal.TheVariants.{NotPlayable}
use Rattle.tables.specs.Layout.{version_of, task_count, row_count, tasks_of, table_of, priority_in, earliest_in, latest_in}
use Rattle.tables.specs.Meaning.{TableRight, RoomFor}
use Rattle.tables.specs.Deserved.{Deserved}
use Rattle.tables.specs.FirstBytes.{kept_of}
use Rattle.machine.specs.Slices.{Kept, StartHeld, PlayLeaves}
use Rattle.runs.specs.Schedule.{Schedule, LegalSchedule}
use Rattle.runs.specs.Synchronous.{synchronous}
use Rattle.equation.specs.declared.Start.{Start}
use Rattle.answering.specs.declared.Verdict.{Verdict}
use Rattle.answering.specs.declared.Verdict.TheVariants.{Refused}
use Rattle.response.specs.Analysis.{answer_of}
use Rattle.answering.specs.Results.{result_of}
use Rattle.response.specs.Outcome.{Call, Left, Outcome}
use Rattle.response.specs.Versions.{as_three}
use Rattle.engine.specs.Run.{AsInRun, HeldAsInRun}
use Rattle.engine.specs.Held.{NumbersHeld}
use Rattle.engine.specs.Outcome.{play_verdict, play_words, Played}

-- "Any nonzero jitter or delay, or any row" is what a table must not have; a constant delay is one too. Nor a tie: "L1's engine refuses ties
-- with 9" (document 02, L6).
pub record Plain (bytes : List ℕ) : Type 0 where
  pub no_row : row_count bytes ≡ 0
  pub no_earliest : (i : ℕ) → i < task_count bytes → earliest_in bytes i ≡ 0
  pub no_latest : (i : ℕ) → i < task_count bytes → latest_in bytes i ≡ 0
  pub no_tie : (i k : ℕ) → i < task_count bytes → k < task_count bytes → priority_in bytes i ≡ priority_in bytes k → i ≡ k

-- 9, "after 8": the table breaks no rule, there is room, and it is not plain
pub record CannotPlay (bytes : List ℕ) (answers : ℕ) : Type 0 where
  pub right : TableRight bytes
  pub room : RoomFor bytes answers answers
  pub not_plain : ¬ Plain bytes

-- when a refusal is deserved: one of 1 to 8 (SPECIFICATION 3), with the one slice for both, or 9
abbrev pub PlayDeserved : List ℕ → ℕ → Refusal → Type 0
PlayDeserved bytes answers refusal = Deserved bytes answers answers refusal ⊎ ((refusal ≡ NotPlayable) × CannotPlay bytes answers)

-- Any bytes and any slice get an answer. `play` has no `requires` and is proved to return; what it returns is `Played`, and there is
-- one for all bytes and slices.
pub record PlayRefusals : Type 0 where
  pub answered : (bytes answers : List ℕ) → (verdict : Verdict) × (left : List ℕ) × Played bytes answers verdict left
  -- a refusal that is given is deserved, and "no word changed"
  pub refused : (bytes answers left : List ℕ) (refusal : Refusal) → Played bytes answers (Refused refusal) left →
      PlayDeserved bytes (length answers) refusal × (left ≡ answers)
  -- and one that is deserved is given
  pub given : (bytes answers left : List ℕ) (verdict : Verdict) (refusal : Refusal) → PlayDeserved bytes (length answers) refusal →
      Played bytes answers verdict left → verdict ≡ Refused refusal
  -- a table that is not refused breaks no rule, has room, and is plain
  pub not_refused : (bytes answers left : List ℕ) (verdict : Verdict) → Played bytes answers verdict left →
      ((refusal : Refusal) → ¬ (verdict ≡ Refused refusal)) → TableRight bytes × RoomFor bytes (length answers) (length answers) × Plain bytes
  -- and such a table is never refused
  pub accepted : (bytes answers left : List ℕ) (refusal : Refusal) → TableRight bytes → RoomFor bytes (length answers) (length answers) →
      Plain bytes → ¬ Played bytes answers (Refused refusal) left

-- "It is proved to do what a run of document 01 does at every tick" (SPECIFICATION 9): `EveryTick`, for the tasks of any accepted table
-- without ties
abbrev pub TableEveryTick : Type 0
TableEveryTick =
    (bytes : List ℕ) → TableRight bytes → Falling (tasks_of bytes) → (ticks : ℕ) (s : Schedule) →
    LegalSchedule (tasks_of bytes) ticks (synchronous (tasks_of bytes) ticks) s → (t : ℕ) → t ≤ ticks → AsInRun (tasks_of bytes) ticks s t

-- and the code does: where the columns hold the numbers of a table, what `play_all` leaves in the slices that it is lent after the ticks that it
-- played, as its contract says (`StartHeld`, `PlayLeaves`), is what that run has after as many. (With a smaller limit it stops at any tick that it
-- plays: `EveryLimit`.)
abbrev pub CodeEveryTick : Type 0
CodeEveryTick =
    (bytes periods costs deadlines latest : List ℕ) → NumbersHeld bytes periods costs deadlines latest → Falling (tasks_of bytes) →
    (limit : ℕ) (before now : Kept) (t : ℕ) (place : Option Place) (next : ℕ) → StartHeld (task_count bytes) before →
    PlayLeaves periods costs (task_count bytes) limit before now t place next →
    (ticks : ℕ) (s : Schedule) → LegalSchedule (tasks_of bytes) ticks (synchronous (tasks_of bytes) ticks) s → t ≤ ticks →
    HeldAsInRun (tasks_of bytes) ticks s t now.left now.ready

-- the words and the verdict that the equation gives, by the definitions of demand 2
pub record AsEquation (bytes answers : List ℕ) (verdict : Verdict) (left : List ℕ) : Type 0 where
  pub answers_are : left ≡ filled (answer_of (table_of bytes)) (task_count bytes) answers
  pub result_is : verdict ≡ result_of (answer_of (table_of bytes)) (task_count bytes)

-- "and to give the equation's answers and result, in one answer slice"
abbrev pub PlaysEquation : Type 0
PlaysEquation =
    (bytes answers left : List ℕ) (verdict : Verdict) → Played bytes answers verdict left →
    TableRight bytes → RoomFor bytes (length answers) (length answers) → Plain bytes → AsEquation bytes answers verdict left

-- So where the engine does not refuse with 9, it and the analysis, which is lent room for the rounds too, say and leave the same,
-- whatever start the rounds are from.
abbrev pub PlaysAsAnalysis : Type 0
PlaysAsAnalysis =
    (start : Start) (lent : Call) (result : Left) (verdict : Verdict) (left : List ℕ) →
    Played lent.bytes lent.answers verdict left → Outcome start lent result →
    task_count lent.bytes ≤ length lent.rounds → ¬ (verdict ≡ Refused NotPlayable) → (verdict ≡ result.verdict) × (left ≡ result.answers)

-- the contract leaves no second answer: the verdict and every word of the slice are determined
abbrev pub NoSecondPlay : Type 0
NoSecondPlay =
    (bytes answers left left_other : List ℕ) (verdict other : Verdict) →
    Played bytes answers verdict left → Played bytes answers other left_other → (verdict ≡ other) × (left ≡ left_other)

-- "Version 3 has version 2's layout" (SPECIFICATION 13.9; document 02, L9): with at most 32 tasks the same bytes in either version, right
-- or wrong, get the same verdict and the same words.
pub record PlayInVersionThree : Type 0 where
  pub same_verdict : (bytes : List ℕ) → version_of bytes ≡ 2 → task_count bytes ≤ 32 →
      (answers : ℕ) → play_verdict (as_three bytes) answers ≡ play_verdict bytes answers
  pub same_words : (bytes : List ℕ) → version_of bytes ≡ 2 → task_count bytes ≤ 32 →
      (answers : List ℕ) → play_words (as_three bytes) answers ≡ play_words bytes answers

-- "Bytes after the 4,590th are dropped, with the same refusals" (SPECIFICATION 13.13; document 02, L11): a table that came through an intake
-- is played as all its bytes would be.
pub record PlayOfFirstBytes : Type 0 where
  pub same_verdict : (bytes : List ℕ) (answers : ℕ) → play_verdict (kept_of bytes) answers ≡ play_verdict bytes answers
  pub same_words : (bytes answers : List ℕ) → play_words (kept_of bytes) answers ≡ play_words bytes answers
