-- Whatever happens, the store keeps the first 4,590 bytes since the end before, and these get the answer of all.
-- Assumes nothing.
use Rattle.std.specs.Prelude.{Ok, Err}
use Prim.Native.Nat.{ℕ, ◌+◌, ◌-◌, ◌≤◌, ◌<◌}
use native.Mathlib.Omega.{arith}
use native.Mathlib.Decide.{dec_le}
use mathlib.Core.Path.{◌≡◌, refl, sym, ◌∙◌, ap, subst}
use mathlib.Core.List.{List, [], ◌∷◌, ◌++◌, map, flatten, append_assoc, append-nil}
use lib.ListN.{length, take, length-take, length-append}
use lib.Seq.{take_all, take-nil}
use Rattle.tables.specs.FirstBytes.{kept_of}
use Rattle.equation.specs.declared.Start.TheVariants.{EveryCost}
use Rattle.response.proofs.FirstLaws.{first_bytes}
use Rattle.printing.specs.Appended.{Appended, bytes_after}
use Rattle.printing.proofs.AppendLaws.{long, text_is_law, take_both, nothing}
use Rattle.intake.specs.declared.Unusable.TheVariants.{ShortStore, WrongFill}
use Rattle.intake.specs.Intake.{Condition, Ended, State, held, begun, condition_of, if_ready, roomy, with_piece, bytes_in, answers_left, rounds_left, fill_after}
use Rattle.intake.specs.Events.{Event, begin, piece, end, Reply, began, took, gave, reply_of, state_of, AsCalled, replies_of, state_after, answer_to, replies_to, AnyEvents, since_end, Keeps, AlwaysKept, AnyPieces, SameBytes, FreshAgain, AlwaysFresh, NothingTaken, ShortStores, WrongFills}
use Rattle.intake.proofs.StateLaws.{fit_short, fit_wrong, fit_ready}

-- ---- What is kept.

pub keeps_none : (store : List ℕ) → 4590 ≤ length store → Keeps [] (begun store)
keeps_none store room = record { room = room; fill = omega arith; kept = refl }

module _ {bytes : List ℕ} {state : State} (k : Keeps bytes state) where
  pub keeps_ready : condition_of state ≡ Ok tt
  keeps_ready = sym (fit_ready (length state.store) state.fill k.room (omega (arith, k.fill)))

  -- a piece is appended: what is kept of it stands behind what is kept of the bytes before
  module _ (more : List ℕ) where
    appended : Appended state.store state.fill (roomy state more) (with_piece state more).fill (with_piece state more).store
    appended =
        record {
          end_is = omega (arith, length-take (4590 - state.fill) more, k.room);
          new_is = refl;
        }

    kept_more : bytes_in (with_piece state more) ≡ kept_of (bytes ++ more)
    kept_more =
        let room : 4590 - state.fill ≡ 4590 - length bytes = omega (arith, k.fill) in
        text_is_law appended (omega (arith, k.fill, k.room))
        ∙ ap (λ (xs : List ℕ). bytes_in state ++ xs)
        (take_all (length state.store - state.fill) (roomy state more) (omega (arith, length-take (4590 - state.fill) more, k.room)))
        ∙ ap (λ (xs : List ℕ). xs ++ roomy state more) k.kept
        ∙ ap (λ (n : ℕ). kept_of bytes ++ take n more) room
        ∙ sym (take_both 4590 bytes more)

    keeps_more : Keeps (bytes ++ more) (with_piece state more)
    keeps_more =
        record {
          room = omega (arith, long appended, k.room);
          fill = omega (arith, length-take (4590 - state.fill) more, k.fill, length-append bytes more);
          kept = kept_more;
        }

  -- so a piece is taken
  taken : (more : List ℕ) → state_of state (piece more) ≡ with_piece state more
  taken more = rw keeps_ready refl

  -- and an end is answered for all the bytes, though not all are kept
  answered : (answers rounds : List ℕ) → reply_of state (end answers rounds) ≡ answer_to bytes answers rounds
  answered answers rounds =
      rw (
        keeps_ready,
        k.kept,
        first_bytes.same_verdict bytes (length answers) (length rounds),
        first_bytes.same_answers bytes answers rounds,
        first_bytes.same_rounds EveryCost bytes answers rounds,
      )
      refl

-- ---- One event after the other.

pub keeps_taken : {bytes : List ℕ} (state : State) (more : List ℕ) → Keeps bytes state → Keeps (bytes ++ more) (state_of state (piece more))
keeps_taken {bytes} state more k = subst (λ (s : State). Keeps (bytes ++ more) s) (sym (taken k more)) (keeps_more k more)

-- any end leaves a store that is long enough fresh
pub fresh_again : FreshAgain
fresh_again state answers rounds room =
    elim (dec_le state.fill 4590) [
      | yes h ↦ rw (sym (fit_ready (length state.store) state.fill room h)) refl
      | no h ↦ rw (sym (fit_wrong (length state.store) state.fill room (omega (arith, h)))) refl
    ]

keeps_ended : {bytes : List ℕ} (state : State) (answers rounds : List ℕ) → Keeps bytes state → Keeps [] (state_of state (end answers rounds))
keeps_ended state answers rounds k =
    subst (λ (s : State). Keeps [] s) (sym (fresh_again state answers rounds k.room)) (keeps_none state.store k.room)

replies : (since : List ℕ) (state : State) (events : List Event) → Keeps since state → replies_of state events ≡ replies_to since events
unfolding replies_of replies_to
replies since state [] k = refl
replies since state (begin ∷ events) k = ap (λ (rs : List Reply). began ∷ rs) (replies [] (begun state.store) events (keeps_none state.store k.room))
replies since state (piece more ∷ events) k =
    ap (λ (r : Reply). r ∷ replies_of (state_of state (piece more)) events) (ap took (keeps_ready k))
    ∙ ap (λ (rs : List Reply). took (Ok tt) ∷ rs) (replies (since ++ more) (state_of state (piece more)) events (keeps_taken state more k))
replies since state (end answers rounds ∷ events) k =
    ap (λ (r : Reply). r ∷ replies_of (state_of state (end answers rounds)) events) (answered k answers rounds)
    ∙ ap (λ (rs : List Reply). answer_to since answers rounds ∷ rs)
    (replies [] (state_of state (end answers rounds)) events (keeps_ended state answers rounds k))

pub any_events : AnyEvents
any_events store events room = replies [] (begun store) events (keeps_none store room)

keeps_after : (since : List ℕ) (state : State) (events : List Event) → Keeps since state → Keeps (since_end since events) (state_after state events)
unfolding since_end state_after
keeps_after since state [] k = k
keeps_after since state (begin ∷ events) k = keeps_after [] (begun state.store) events (keeps_none state.store k.room)
keeps_after since state (piece more ∷ events) k = keeps_after (since ++ more) (state_of state (piece more)) events (keeps_taken state more k)
keeps_after since state (end answers rounds ∷ events) k =
    keeps_after [] (state_of state (end answers rounds)) events (keeps_ended state answers rounds k)

pub always_kept : AlwaysKept
always_kept store events room = keeps_after [] (begun store) events (keeps_none store room)

-- ---- Of one table.

since_pieces : (since : List ℕ) (pieces : List (List ℕ)) → since_end since (map piece pieces) ≡ since ++ flatten pieces
unfolding since_end flatten
since_pieces since [] = sym (append-nil since)
since_pieces since (more ∷ pieces) = since_pieces (since ++ more) pieces ∙ append_assoc since more (flatten pieces)

pub any_pieces : AnyPieces
any_pieces store pieces answers rounds room =
    answered
    (subst (λ (bytes : List ℕ). Keeps bytes (state_after (begun store) (map piece pieces))) (since_pieces [] pieces)
    (always_kept store (map piece pieces) room))
    answers rounds

pub same_bytes : SameBytes
same_bytes store another pieces others answers rounds room other e =
    any_pieces store pieces answers rounds room
    ∙ ap (λ (bytes : List ℕ). answer_to bytes answers rounds) e
    ∙ sym (any_pieces another others answers rounds other)

-- ---- Where nothing is taken.

nothing_more : (state : State) → with_piece state [] ≡ state
nothing_more state =
    let none : roomy state [] ≡ [] = take-nil (4590 - state.fill) in
    let filled : state.fill + length (roomy state []) ≡ state.fill = omega (arith, length-take {A = ℕ} (4590 - state.fill) []) in
    ap (λ (n : ℕ). held (bytes_after state.store state.fill (roomy state [])) n) filled
    ∙ ap (λ (xs : List ℕ). held (bytes_after state.store state.fill xs) state.fill) none
    ∙ ap (λ (xs : List ℕ). held xs state.fill) (sym (nothing state.store state.fill).new_is)

pub nothing_taken : NothingTaken
nothing_taken state = go (condition_of state)
  where
    go : (c : Condition) → if_ready c (with_piece state []) state ≡ state
    go (Ok fit) = nothing_more state
    go (Err why) = refl

pub short_stores : ShortStores
short_stores state short =
    let is_short : condition_of state ≡ Err ShortStore = sym (fit_short (length state.store) state.fill short) in
    record {
      piece_is = λ more. rw is_short refl;
      piece_leaves = λ more. rw is_short refl;
      end_is = λ answers rounds. rw is_short refl;
      end_leaves = λ answers rounds. rw is_short refl;
    }

pub wrong_fills : WrongFills
wrong_fills state room wrong =
    let is_wrong : condition_of state ≡ Err WrongFill = sym (fit_wrong (length state.store) state.fill room wrong) in
    record {
      piece_is = λ more. rw is_wrong refl;
      piece_leaves = λ more. rw is_wrong refl;
      end_is = λ answers rounds. rw is_wrong refl;
      end_leaves = λ answers rounds. fresh_again state answers rounds room;
    }

-- a short store stays as it began
short_after : (store : List ℕ) → length store < 4590 → (events : List Event) → state_after (begun store) events ≡ begun store
unfolding state_after
short_after store short [] = refl
short_after store short (begin ∷ events) = short_after store short events
short_after store short (piece more ∷ events) =
    ap (λ (s : State). state_after s events) ((short_stores (begun store) short).piece_leaves more) ∙ short_after store short events
short_after store short (end answers rounds ∷ events) =
    ap (λ (s : State). state_after s events) ((short_stores (begun store) short).end_leaves answers rounds) ∙ short_after store short events

-- a store is short, or it keeps what came
pub always_fresh : AlwaysFresh
always_fresh store events answers rounds =
    elim (dec_le 4590 (length store)) [
      | yes room ↦
          ap (λ (s : State). s.fill) (fresh_again (state_after (begun store) events) answers rounds (always_kept store events room).room)
      | no short ↦
          let small : length store < 4590 = omega (arith, short) in
          ap (λ (s : State). (state_of s (end answers rounds)).fill) (short_after store small events)
          ∙ ap (λ (s : State). s.fill) ((short_stores (begun store) small).end_leaves answers rounds)
    ]

-- ---- The contracts.

pub as_called : AsCalled
as_called =
    record {
      begin_is = λ state fill e. ap (held state.store) (sym e);
      piece_is = λ state bytes c left t. (ap took (sym t.condition_is), sym t.state_is);
      end_is =
          λ state answers rounds ended fill answers_now rounds_now e.
          let given = e.answered in (
            ap (λ (x : Ended). gave x (answers_left state answers rounds) (rounds_left state answers rounds)) (sym given.ended_is)
                ∙ ap (λ (xs : List ℕ). gave ended xs (rounds_left state answers rounds)) (sym given.answers_are)
                ∙ ap (gave ended answers_now) (sym given.rounds_are),
            ap (λ (x : Ended). held state.store (fill_after x state.fill)) (sym given.ended_is)
                ∙ ap (held state.store) (sym e.fill_is),
          );
    }
