-- Document 02's L5 for the bytes of any table (SPECIFICATION 13.5): "Answers don't change; rounds do". The proof is in proofs/Starts.antt.
--
-- The answer has two forms. The one to believe is `answer_of`, in `Outcome`: the smallest solution, found by a search that knows no sequence
-- and no start; demand 2 states it. The other is what a sequence has come to in its last round (`answer_for .. (x start ..)`), which is what
-- the code follows. It stands here only to be shown to be the first, from either start (`followed`), and nothing else rests on it.
-- Assumes nothing.
use Rattle.std.specs.Prelude.{ℕ, ◌+◌, ◌-◌, ◌≤◌, ◌<◌, ◌≡◌, List}
use Rattle.model.specs.Lists.{word_of}
use Rattle.model.specs.Tables.{task_of, loads_of}
use Rattle.tables.specs.Layout.{task_count, tasks_of, table_of}
use Rattle.tables.specs.Meaning.{TableRight}
use Rattle.equation.specs.declared.Start.{Start}
use Rattle.equation.specs.declared.Start.TheVariants.{EveryCost, OwnCost}
use Rattle.equation.specs.Answer.{answer_for}
use Rattle.equation.specs.Laws.{IsSmallest}
use Rattle.response.specs.Analysis.{base_of, start_of}
use Rattle.response.specs.Outcome.{Call, Left, Outcome}
use Rattle.response.specs.Statements.{x, Accepted}

-- "w + J_i if such a w exists and w + J_i ≤ D_i; else 0", with the x of that round for w and the latest delay for J_i
abbrev pub came_to : Start → List ℕ → ℕ → ℕ → ℕ
came_to start bytes i round =
    answer_for (task_of (tasks_of bytes) i).latest (task_of (tasks_of bytes) i).deadline (x start (table_of bytes) i round)

pub record TwoStarts : Type 0 where
  -- "Answers don't change": from both starts the verdict is the same, and so is every word of the answers, on refusal too
  pub same_answers : (start other : Start) (lent : Call) (result another : Left) → Outcome start lent result → Outcome other lent another →
      (result.verdict ≡ another.verdict) × (result.answers ≡ another.answers)
  -- since neither start is above the smallest solution, and so each reaches it
  pub reached : (start : Start) (bytes : List ℕ) → TableRight bytes → (i w : ℕ) → i < task_count bytes →
      IsSmallest (base_of (table_of bytes) i) (loads_of (tasks_of bytes) i) w →
      (start_of start (table_of bytes) i ≤ w) × (x start (table_of bytes) i (w - start_of start (table_of bytes) i) ≡ w)
  -- so that the answer is what the sequence from the start used has come to in its last round
  pub followed : (start : Start) (lent : Call) (result : Left) → Outcome start lent result → Accepted lent → (i : ℕ) → i < task_count lent.bytes →
      word_of result.answers i ≡ came_to start lent.bytes i (word_of result.rounds i)
  -- new rounds are never more than old rounds, and at most one fewer, for any bytes and in any word
  pub never_more : (lent : Call) (result old : Left) → Outcome EveryCost lent result → Outcome OwnCost lent old →
      (i : ℕ) → (word_of result.rounds i ≤ word_of old.rounds i) × (word_of old.rounds i ≤ word_of result.rounds i + 1)
