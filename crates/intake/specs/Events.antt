-- Whatever pieces come, and however often a table ends: each end answers for all the bytes since the end before, or since `begin`, if that
-- was called in between (SPECIFICATION 13.13; document 02, L11). The proofs are in proofs/EventLaws.antt.
-- Assumes nothing.
use Rattle.std.specs.Prelude.{ℕ, ◌≤◌, ◌<◌, min, ◌≡◌, length, Ok, Err}
use mathlib.Core.List.{List, [], ◌∷◌, ◌++◌, map, flatten}
use Rattle.tables.specs.FirstBytes.{most_kept, kept_of}
use Rattle.equation.specs.declared.Start.TheVariants.{EveryCost}
use Rattle.response.specs.Outcome.{verdict_of, answers_after, rounds_after}
use Rattle.intake.specs.declared.Unusable.TheVariants.{ShortStore, WrongFill}
use Rattle.intake.specs.Intake.{State, Condition, Ended, held, begun_fill, begun, condition_of, taken_by, Takes, Ends, bytes_in, ended_by, answers_left, rounds_left, fill_after}

-- What can happen: what came is given up, and a table begins anew; a piece arrives; or the sender says that the table has ended, and both
-- slices are lent as they are.
pub data Event : Type 0 where
  begin : Event
  piece : (bytes : List ℕ) → Event
  end : (answers rounds : List ℕ) → Event

-- What is replied: to a piece whether it was taken, and to an end what is said, and the words of both slices as they are left.
pub data Reply : Type 0 where
  began : Reply
  took : Condition → Reply
  gave : Ended → (answers rounds : List ℕ) → Reply

-- One call: what it replies, and what it leaves.
abbrev pub reply_of : State → Event → Reply
reply_of state begin = began
reply_of state (piece bytes) = took (condition_of state)
reply_of state (end answers rounds) = gave (ended_by state answers rounds) (answers_left state answers rounds) (rounds_left state answers rounds)

abbrev pub state_of : State → Event → State
state_of state begin = begun state.store
state_of state (piece bytes) = taken_by state bytes
state_of state (end answers rounds) = held state.store (fill_after (ended_by state answers rounds) state.fill)

-- That is what the contracts of `begin`, `take` and `end` say.
pub record AsCalled : Type 0 where
  pub begin_is : (state : State) (fill : ℕ) → fill ≡ begun_fill → state_of state begin ≡ held state.store fill
  pub piece_is : (state : State) (bytes : List ℕ) (condition : Condition) (left : State) → Takes state bytes condition left →
      (reply_of state (piece bytes) ≡ took condition) × (state_of state (piece bytes) ≡ left)
  pub end_is : (state : State) (answers rounds : List ℕ) (ended : Ended) (fill : ℕ) (answers_now rounds_now : List ℕ) →
      Ends state answers rounds ended fill answers_now rounds_now →
      (reply_of state (end answers rounds) ≡ gave ended answers_now rounds_now) × (state_of state (end answers rounds) ≡ held state.store fill)

-- and one call after the other
unfoldable pub replies_of : State → List Event → List Reply
replies_of state [] = []
replies_of state (event ∷ events) = reply_of state event ∷ replies_of (state_of state event) events

unfoldable pub state_after : State → List Event → State
state_after state [] = state
state_after state (event ∷ events) = state_after (state_of state event) events

-- "exactly the answer the whole bytes would get": verdict and every word of both slices, as `analyse` gives them for these bytes
abbrev pub answer_to : List ℕ → List ℕ → List ℕ → Reply
answer_to bytes answers rounds =
    gave (Ok (verdict_of bytes (length answers) (length rounds))) (answers_after bytes answers rounds)
    (rounds_after EveryCost bytes answers rounds)

-- What is to be replied, where the bytes `since` have come since the end before: every piece is taken, and each end is answered for all
-- the bytes since the end before, however many, or since the table began anew.
unfoldable pub replies_to : List ℕ → List Event → List Reply
replies_to since [] = []
replies_to since (begin ∷ events) = began ∷ replies_to [] events
replies_to since (piece bytes ∷ events) = took (Ok tt) ∷ replies_to (since ++ bytes) events
replies_to since (end answers rounds ∷ events) = answer_to since answers rounds ∷ replies_to [] events

-- The theorem of document 02, L11: for every list of events, from the beginning, with any store that is long enough.
abbrev pub AnyEvents : Type 0
AnyEvents = (store : List ℕ) (events : List Event) → most_kept ≤ length store → replies_of (begun store) events ≡ replies_to [] events

-- the bytes since the last end, or since the table began anew
unfoldable pub since_end : List ℕ → List Event → List ℕ
since_end since [] = since
since_end since (begin ∷ events) = since_end [] events
since_end since (piece bytes ∷ events) = since_end (since ++ bytes) events
since_end since (end answers rounds ∷ events) = since_end [] events

-- What is kept of these bytes: the first 4,590, and nothing else is counted.
pub record Keeps (bytes : List ℕ) (state : State) : Type 0 where
  pub room : most_kept ≤ length state.store
  pub fill : state.fill ≡ min (length bytes) most_kept
  pub kept : bytes_in state ≡ kept_of bytes

-- So it is after any events. Another analysis may be lent these bytes, and says of them what it says of all.
abbrev pub AlwaysKept : Type 0
AlwaysKept =
    (store : List ℕ) (events : List Event) → most_kept ≤ length store → Keeps (since_end [] events) (state_after (begun store) events)

-- Of one table: after the beginning and any pieces, the end gives what `analyse` gives for all their bytes, end to end.
abbrev pub AnyPieces : Type 0
AnyPieces =
    (store : List ℕ) (pieces : List (List ℕ)) (answers rounds : List ℕ) → most_kept ≤ length store →
    reply_of (state_after (begun store) (map piece pieces)) (end answers rounds) ≡ answer_to (flatten pieces) answers rounds

-- and so two lists of pieces with the same bytes get the same, in any two stores
abbrev pub SameBytes : Type 0
SameBytes =
    (store another : List ℕ) (pieces others : List (List ℕ)) (answers rounds : List ℕ) → most_kept ≤ length store →
    most_kept ≤ length another → flatten pieces ≡ flatten others →
    reply_of (state_after (begun store) (map piece pieces)) (end answers rounds)
    ≡ reply_of (state_after (begun another) (map piece others)) (end answers rounds)

-- "After an answer the intake is fresh again": after any end, whatever was said, the state is that of the beginning, in a store that is long
-- enough; and the store is as it was.
abbrev pub FreshAgain : Type 0
FreshAgain = (state : State) (answers rounds : List ℕ) → most_kept ≤ length state.store → state_of state (end answers rounds) ≡ begun state.store

-- And so it is after an end that any events go before, from the beginning, in any store, however short: nothing is counted.
abbrev pub AlwaysFresh : Type 0
AlwaysFresh =
    (store : List ℕ) (events : List Event) (answers rounds : List ℕ) →
    (state_of (state_after (begun store) events) (end answers rounds)).fill ≡ begun_fill

-- An empty piece changes nothing, in any state.
abbrev pub NothingTaken : Type 0
NothingTaken = (state : State) → state_of state (piece []) ≡ state

-- What cannot be used: no piece is taken, each call says why, and no word of a slice changes; and `after` is what an end leaves.
pub record Unfit (state : State) (condition : Condition) (ended : Ended) (after : State) : Type 0 where
  pub piece_is : (bytes : List ℕ) → reply_of state (piece bytes) ≡ took condition
  pub piece_leaves : (bytes : List ℕ) → state_of state (piece bytes) ≡ state
  pub end_is : (answers rounds : List ℕ) → reply_of state (end answers rounds) ≡ gave ended answers rounds
  pub end_leaves : (answers rounds : List ℕ) → state_of state (end answers rounds) ≡ after

-- A store that is too short, with any fill: nothing is taken, and nothing is given up.
abbrev pub ShortStores : Type 0
ShortStores = (state : State) → length state.store < most_kept → Unfit state (Err ShortStore) (Err ShortStore) state

-- A fill that is wrong, in a store that is long enough: nothing is taken, and an end makes the intake fresh.
abbrev pub WrongFills : Type 0
WrongFills =
    (state : State) → most_kept ≤ length state.store → most_kept < state.fill →
    Unfit state (Err WrongFill) (Err WrongFill) (begun state.store)
