-- Demands 1 to 3 for the bytes of any table, as named statements about what `analyse_from` answers and leaves (`Outcome`, its
-- contract) from either start; `analyse` is that from the default.
-- The proofs are in proofs/Demands.antt.
-- Assumes nothing.
use Rattle.std.specs.Prelude.{ℕ, ◌+◌, ◌-◌, ◌≤◌, ◌<◌, ◌≡◌, ◌⊎◌, length}
use Rattle.model.specs.Lists.{word_of}
use Rattle.model.specs.Tables.{Table, task_of, loads_of, Alone, Falling}
use Rattle.tables.specs.declared.Refusal.{Refusal}
use Rattle.tables.specs.Layout.{task_count, row_count, tasks_of, table_of}
use Rattle.tables.specs.Meaning.{TableRight, RoomFor}
use Rattle.tables.specs.Deserved.{Deserved}
use Rattle.equation.specs.Laws.{IsSmallest}
use Rattle.equation.specs.Sequence.{term}
use Rattle.equation.specs.declared.Start.{Start}
use Rattle.runs.specs.Jobs.{NoDelay}
use Rattle.runs.specs.Statement.{NoneExceeds, Answers}
use Rattle.answering.specs.declared.Verdict.{Verdict}
use Rattle.answering.specs.declared.Verdict.TheVariants.{Refused, Schedulable, Late}
use Rattle.response.specs.Analysis.{base_of, start_of}
use Rattle.response.specs.Outcome.{Call, Left, Outcome}

-- the table that is lent breaks no rule, and each slice has a word for each of its tasks
pub record Accepted (lent : Call) : Type 0 where
  pub right : TableRight lent.bytes
  pub room : RoomFor lent.bytes (length lent.answers) (length lent.rounds)

-- a refusal is deserved by what is lent
abbrev pub DeservedBy : Call → Refusal → Type 0
DeservedBy lent refusal = Deserved lent.bytes (length lent.answers) (length lent.rounds) refusal

-- Demand 1 (SPECIFICATION 8.1): whatever is lent is answered. `analyse_from` has no `requires` and is proved to return; what it returns is
-- an `Outcome`, and there is one for either start and all bytes and slices.
pub record Demand1 : Type 0 where
  pub answered : (start : Start) (lent : Call) → (result : Left) × Outcome start lent result
  -- "the first that applies is given, and it is given only when it applies", at "the byte offset of the first faulty field"
  -- (SPECIFICATION 3; document 01, "Refusals"; document 02, L3): `Deserved` says which; "A refusal returns the number and the place, and
  -- changes no word."
  pub refused : (start : Start) (lent : Call) (result : Left) (refusal : Refusal) → Outcome start lent result → result.verdict ≡ Refused refusal →
      DeservedBy lent refusal × (result.answers ≡ lent.answers) × (result.rounds ≡ lent.rounds)
  -- and whatever deserves a refusal gets it
  pub given : (start : Start) (lent : Call) (result : Left) (refusal : Refusal) → Outcome start lent result → DeservedBy lent refusal →
      result.verdict ≡ Refused refusal
  -- what is not refused breaks no rule, and has room
  pub not_refused : (start : Start) (lent : Call) (result : Left) → Outcome start lent result →
      ((refusal : Refusal) → ¬ (result.verdict ≡ Refused refusal)) → Accepted lent
  -- and what breaks no rule, and has room, is never refused
  pub accepted : (start : Start) (lent : Call) (result : Left) (refusal : Refusal) → Outcome start lent result → Accepted lent →
      ¬ (result.verdict ≡ Refused refusal)

-- R is "w + J_i if such a w exists and w + J_i ≤ D_i; else 0", where w is "the smallest whole number of at least 1 with demand(i, w) = w".
-- For J_i stands the latest delay, and in the demand of a task that interferes the latest minus the earliest (SPECIFICATION 4.2 and
-- 4.3; document 02, L4 and L6).
pub record AnswerRight (table : Table) (i R : ℕ) : Type 0 where
  pub answered : 1 ≤ R →
      (w : ℕ) × IsSmallest (base_of table i) (loads_of table.tasks i) w × (R ≡ w + (task_of table.tasks i).latest)
      × (R ≤ (task_of table.tasks i).deadline)
  pub late : R ≡ 0 → (w : ℕ) → IsSmallest (base_of table i) (loads_of table.tasks i) w →
      (task_of table.tasks i).deadline < w + (task_of table.tasks i).latest

-- the x of document 01, "each next x is demand(i, x)", from the start used (SPECIFICATION 5; document 02, L5)
abbrev pub x : Start → Table → ℕ → ℕ → ℕ
x start table i k = term (base_of table i) (loads_of table.tasks i) (start_of start table i) k

-- "Rounds is the smallest k ≥ 1 with x_k = x_(k−1) or x_k + J_i > D_i", "at most D_i − J_i − x0 + 1 when x0 + J_i ≤ D_i, and is 1
-- otherwise" (SPECIFICATION 5.2 and 5.3; document 01, "The equation"), with the latest delay for J_i and the start used for x0
pub record RoundsRight (start : Start) (table : Table) (i k : ℕ) : Type 0 where
  pub positive : 1 ≤ k
  pub last : (x start table i k ≡ x start table i (k - 1))
      ⊎ ((task_of table.tasks i).deadline < x start table i k + (task_of table.tasks i).latest)
  pub first : (j : ℕ) → 1 ≤ j → j < k →
      (¬ (x start table i j ≡ x start table i (j - 1))) × (x start table i j + (task_of table.tasks i).latest ≤ (task_of table.tasks i).deadline)
  pub within : start_of start table i + (task_of table.tasks i).latest ≤ (task_of table.tasks i).deadline →
      k ≤ (task_of table.tasks i).deadline - (task_of table.tasks i).latest - start_of start table i + 1
  pub otherwise : (task_of table.tasks i).deadline < start_of start table i + (task_of table.tasks i).latest → k ≡ 1

-- "the result is "schedulable" or "late" with the first place whose answer is 0" (SPECIFICATION 6; document 01, "Refusals")
abbrev pub ResultRight : (ℕ → ℕ) → ℕ → Verdict → Type 0
ResultRight answers n (Refused refusal) = ⊥
ResultRight answers n Schedulable = (i : ℕ) → i < n → 1 ≤ answers i
ResultRight answers n (Late place) =
    (place.0 < n) × (answers place.0 ≡ 0) × ((i : ℕ) → i < place.0 → 1 ≤ answers i)

-- "Otherwise words 0 to n−1 of each answer slice are written, answers in the first and rounds in the second, later words stay"
-- (SPECIFICATION 6; document 01, "Refusals")
pub record Written (start : Start) (lent : Call) (result : Left) : Type 0 where
  pub answers_right : (i : ℕ) → i < task_count lent.bytes → AnswerRight (table_of lent.bytes) i (word_of result.answers i)
  pub rounds_right : (i : ℕ) → i < task_count lent.bytes → RoundsRight start (table_of lent.bytes) i (word_of result.rounds i)
  pub answers_long : length result.answers ≡ length lent.answers
  pub rounds_long : length result.rounds ≡ length lent.rounds
  pub answers_stay : (i : ℕ) → task_count lent.bytes ≤ i → word_of result.answers i ≡ word_of lent.answers i
  pub rounds_stay : (i : ℕ) → task_count lent.bytes ≤ i → word_of result.rounds i ≡ word_of lent.rounds i
  pub verdict_right : ResultRight (word_of result.answers) (task_count lent.bytes) result.verdict

-- Demand 2 (SPECIFICATION 8.2), for every table that is not refused.
abbrev pub Demand2 : Type 0
Demand2 = (start : Start) (lent : Call) (result : Left) → Outcome start lent result → Accepted lent → Written start lent result

-- These sentences alone leave no second result: two that both satisfy them are the same verdict and the same words.
abbrev pub OnlyWritten : Type 0
OnlyWritten = (start : Start) (lent : Call) (result other : Left) → Written start lent result → Written start lent other → result ≡ other

-- "show that no second answer satisfies it" (SPECIFICATION 6; document 01, "What the contracts owe"): the verdict and every word of both
-- slices are determined, on refusal also
abbrev pub NoSecondAnswer : Type 0
NoSecondAnswer = (start : Start) (lent : Call) (result other : Left) → Outcome start lent result → Outcome start lent other → result ≡ other

-- Demand 3 (SPECIFICATION 8.3): where no task has a delay and there is no row, the word that is left, from either start, is right about
-- every legal run.
pub record Demand3 : Type 0 where
  -- "For tables with ties demand 3 keeps only its first half: no job exceeds R." (document 02, L6): it holds for every task
  pub first_half : (start : Start) (lent : Call) (result : Left) → Outcome start lent result → Accepted lent →
      NoDelay (tasks_of lent.bytes) → row_count lent.bytes ≡ 0 →
      (i : ℕ) → i < task_count lent.bytes → NoneExceeds (tasks_of lent.bytes) i (word_of result.answers i)
  -- both halves for every task whose priority no other task has, whatever ties there are among the others
  pub both_halves : (start : Start) (lent : Call) (result : Left) → Outcome start lent result → Accepted lent →
      NoDelay (tasks_of lent.bytes) → row_count lent.bytes ≡ 0 →
      (i : ℕ) → i < task_count lent.bytes → Alone (tasks_of lent.bytes) i → Answers (tasks_of lent.bytes) i (word_of result.answers i)
  -- so, for a table without ties, both halves for all tasks: document 01's demand 3
  pub no_ties : (start : Start) (lent : Call) (result : Left) → Outcome start lent result → Accepted lent →
      NoDelay (tasks_of lent.bytes) → row_count lent.bytes ≡ 0 → Falling (tasks_of lent.bytes) →
      (i : ℕ) → i < task_count lent.bytes → Answers (tasks_of lent.bytes) i (word_of result.answers i)
