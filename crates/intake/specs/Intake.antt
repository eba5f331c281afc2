-- What each call of the intake says and leaves, for any store and fill, and any piece or slices (SPECIFICATION 13.13; document 02, L11).
-- Assumes nothing.
use Rattle.std.specs.Prelude.{ℕ, ◌+◌, ◌-◌, ◌≡◌, List, ltb, length, take, Result, Ok, Err}
use Rattle.model.specs.Choice.{pick}
use Rattle.tables.specs.FirstBytes.{most_kept}
use Rattle.equation.specs.declared.Start.TheVariants.{EveryCost}
use Rattle.answering.specs.declared.Verdict.{Verdict}
use Rattle.response.specs.Outcome.{verdict_of, answers_after, rounds_after}
use Rattle.printing.specs.Appended.{bytes_after}
use Rattle.intake.specs.declared.Unusable.{Unusable}
use Rattle.intake.specs.declared.Unusable.TheVariants.{ShortStore, WrongFill}

-- What the caller keeps between two calls: the bytes of the store, and how many of them, from its beginning, are the table's so far.
pub record State : Type 0 where
  pub store : List ℕ
  pub fill : ℕ

abbrev pub held : List ℕ → ℕ → State
held store fill = record { store = store; fill = fill }

-- before the first byte: none is the table's
abbrev pub begun_fill : ℕ
begun_fill = 0

abbrev pub begun : List ℕ → State
begun store = held store begun_fill

-- Can a store and its fill be used, or why not? And what is said when a table has ended.
abbrev pub Condition : Type 0
Condition = Result Unit Unusable

abbrev pub Ended : Type 0
Ended = Result Verdict Unusable

-- A store is too short if it could not keep 4,590 bytes, however many come; and a fill is wrong if it is above that, as none is that a call
-- sets. (One that somebody else has set, and that is not above it, can't be told from a right one.)
abbrev pub condition_for : ℕ → ℕ → Condition
condition_for long fill = pick (ltb long most_kept) (Err ShortStore) (pick (ltb most_kept fill) (Err WrongFill) (Ok tt))

abbrev pub condition_of : State → Condition
condition_of state = condition_for (length state.store) state.fill

-- what is so only where the store and the fill can be used; else all stays as it was
abbrev pub if_ready : {A : Type 0} → Condition → A → A → A
if_ready (Ok fit) new old = new
if_ready (Err why) new old = old

-- "Bytes after the 4,590th are dropped": of a piece, what still has room
abbrev pub roomy : State → List ℕ → List ℕ
roomy state piece = take (most_kept - state.fill) piece

-- with that behind the bytes that came before
abbrev pub with_piece : State → List ℕ → State
with_piece state piece =
    held (bytes_after state.store state.fill (roomy state piece)) (state.fill + length (roomy state piece))

-- "Take a table as it arrives, cut anywhere"
abbrev pub taken_by : State → List ℕ → State
taken_by state piece = if_ready (condition_of state) (with_piece state piece) state

pub record Takes (state : State) (piece : List ℕ) (condition : Condition) (left : State) : Type 0 where
  pub condition_is : condition ≡ condition_of state
  pub state_is : left ≡ taken_by state piece

-- the table's bytes, as far as they are kept
abbrev pub bytes_in : State → List ℕ
bytes_in state = take state.fill state.store

-- "when the sender says it has ended give exactly the answer": what `analyse` says of the bytes that are kept
abbrev pub ended_for : Condition → Verdict → Ended
ended_for (Ok fit) verdict = Ok verdict
ended_for (Err why) verdict = Err why

abbrev pub ended_by : State → List ℕ → List ℕ → Ended
ended_by state answers rounds = ended_for (condition_of state) (verdict_of (bytes_in state) (length answers) (length rounds))

abbrev pub answers_left : State → List ℕ → List ℕ → List ℕ
answers_left state answers rounds = if_ready (condition_of state) (answers_after (bytes_in state) answers rounds) answers

abbrev pub rounds_left : State → List ℕ → List ℕ → List ℕ
rounds_left state answers rounds = if_ready (condition_of state) (rounds_after EveryCost (bytes_in state) answers rounds) rounds

-- "After an answer the intake is fresh again", and so is one whose fill was wrong. What a short store holds is not given up.
abbrev pub fill_after : Ended → ℕ → ℕ
fill_after (Ok verdict) fill = begun_fill
fill_after (Err ShortStore) fill = fill
fill_after (Err WrongFill) fill = begun_fill

-- what is said, and the words of both slices
pub record Answers (state : State) (answers rounds : List ℕ) (ended : Ended) (answers_now rounds_now : List ℕ) : Type 0 where
  pub ended_is : ended ≡ ended_by state answers rounds
  pub answers_are : answers_now ≡ answers_left state answers rounds
  pub rounds_are : rounds_now ≡ rounds_left state answers rounds

-- and the fill; the store stays as it is
pub record Ends (state : State) (answers rounds : List ℕ) (ended : Ended) (fill : ℕ) (answers_now rounds_now : List ℕ) : Type 0 where
  pub answered : Answers state answers rounds ended answers_now rounds_now
  pub fill_is : fill ≡ fill_after ended state.fill

-- No second result satisfies either: all that a call says and leaves is determined. The proofs are in proofs/StateLaws.antt.
abbrev pub NoSecondTake : Type 0
NoSecondTake =
    (state : State) (piece : List ℕ) (condition other : Condition) (left another : State) → Takes state piece condition left →
    Takes state piece other another → (condition ≡ other) × (left ≡ another)

abbrev pub NoSecondEnd : Type 0
NoSecondEnd =
    (state : State) (answers rounds : List ℕ) (ended other : Ended) (fill other_fill : ℕ) (answers_now answers_too rounds_now rounds_too : List ℕ) →
    Ends state answers rounds ended fill answers_now rounds_now → Ends state answers rounds other other_fill answers_too rounds_too →
    (ended ≡ other) × (fill ≡ other_fill) × (answers_now ≡ answers_too) × (rounds_now ≡ rounds_too)

-- At the edges: 4,590 bytes are enough, and all of them may be kept; one byte less is too short, whatever the fill is; and no more are kept.
pub record EdgesDrawn : Type 0 where
  pub enough : condition_for 4590 0 ≡ Ok tt
  pub full : condition_for 4590 4590 ≡ Ok tt
  pub longer : condition_for 5000 4590 ≡ Ok tt
  pub short : condition_for 4589 0 ≡ Err ShortStore
  pub short_first : condition_for 4589 4591 ≡ Err ShortStore
  pub wrong : condition_for 4590 4591 ≡ Err WrongFill
  pub wrong_in_longer : condition_for 5000 4591 ≡ Err WrongFill
