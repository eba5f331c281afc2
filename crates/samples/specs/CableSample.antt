-- A morning on a cable, whole: what arrives, and what is replied (SPECIFICATION 13.13; document 02, L11). The proof is in
-- proofs/SampleCable.antt.
-- Assumes nothing.
use Rattle.std.specs.Prelude.{ℕ, ◌≤◌, ◌≡◌, List, [], ◌∷◌, ◌++◌, length, take, drop, replicate, Ok, Err}
use Rattle.tables.specs.declared.Refusal.TheVariants.{TooShort, LengthsDiffer, NumberOutOfRange, NoRoom}
use Rattle.tables.specs.Refusals.{at, offset}
use Rattle.tables.specs.FirstBytes.{most_kept}
use Rattle.encoding.specs.Examples.{fifth, late, refused}
use Rattle.answering.specs.declared.Verdict.TheVariants.{Refused, Schedulable, Late}
use Rattle.intake.specs.declared.Unusable.TheVariants.{ShortStore, WrongFill}
use Rattle.intake.specs.Intake.{held, begun}
use Rattle.intake.specs.Events.{Event, begin, piece, end, Reply, began, took, gave, replies_of, state_after}

-- each slice as it is lent: four words, or one
abbrev pub sevens : List ℕ
sevens = 7 ∷ 7 ∷ 7 ∷ 7 ∷ []

abbrev pub one : List ℕ
one = 7 ∷ []

-- the head of the longest table and zeros, 4,589 bytes in all
abbrev pub zeroed : List ℕ
zeroed = 3 ∷ 17 ∷ 237 ∷ 200 ∷ 64 ∷ replicate 4584 0

-- A table cut in the middle of a number, with an empty piece; nothing at all; a table that is refused, in one piece; one that is given up;
-- one that is late, in two; a table of 4,589 bytes, refused for a number, and the same with a byte behind it, which is too long, and with
-- more than are kept; a table whose answers, or whose rounds, have no room; and the first one again.
unfoldable pub events : List Event
events =
    piece (take 8 fifth) ∷ piece [] ∷ piece (drop 8 fifth) ∷ end sevens sevens
    ∷ end sevens sevens
    ∷ piece refused ∷ end sevens sevens
    ∷ piece (take 50 fifth) ∷ begin
    ∷ piece (take 1 late) ∷ piece (drop 1 late) ∷ end sevens sevens
    ∷ piece zeroed ∷ end sevens sevens
    ∷ piece zeroed ∷ piece (0 ∷ []) ∷ end sevens sevens
    ∷ piece zeroed ∷ piece (0 ∷ 0 ∷ []) ∷ piece fifth ∷ end sevens sevens
    ∷ piece fifth ∷ end sevens one
    ∷ piece fifth ∷ end one sevens
    ∷ piece fifth ∷ end sevens sevens
    ∷ []

unfoldable pub replies : List Reply
replies =
    took (Ok tt) ∷ took (Ok tt) ∷ took (Ok tt) ∷ gave (Ok Schedulable) (1 ∷ 3 ∷ 10 ∷ 7 ∷ []) (1 ∷ 1 ∷ 4 ∷ 7 ∷ [])
    ∷ gave (Ok (Refused TooShort)) sevens sevens
    ∷ took (Ok tt) ∷ gave (Ok (Refused (NumberOutOfRange (offset 31)))) sevens sevens
    ∷ took (Ok tt) ∷ began
    ∷ took (Ok tt) ∷ took (Ok tt) ∷ gave (Ok (Late (at 1))) (20 ∷ 0 ∷ 7 ∷ 7 ∷ []) (1 ∷ 1 ∷ 7 ∷ 7 ∷ [])
    ∷ took (Ok tt) ∷ gave (Ok (Refused (NumberOutOfRange (offset 6)))) sevens sevens
    ∷ took (Ok tt) ∷ took (Ok tt) ∷ gave (Ok (Refused LengthsDiffer)) sevens sevens
    ∷ took (Ok tt) ∷ took (Ok tt) ∷ took (Ok tt) ∷ gave (Ok (Refused LengthsDiffer)) sevens sevens
    ∷ took (Ok tt) ∷ gave (Ok (Refused NoRoom)) sevens one
    ∷ took (Ok tt) ∷ gave (Ok (Refused NoRoom)) one sevens
    ∷ took (Ok tt) ∷ gave (Ok Schedulable) (1 ∷ 3 ∷ 10 ∷ 7 ∷ []) (1 ∷ 1 ∷ 4 ∷ 7 ∷ [])
    ∷ []

abbrev pub CableSample : Type 0
CableSample = (store : List ℕ) → most_kept ≤ length store → replies_of (begun store) events ≡ replies

-- What is left in the caller's hands: in a store of nines, two bytes and what was there behind them; after an end the same store, and
-- nothing counted; a store that is too short, and a fill that is wrong.
abbrev pub nines : List ℕ
nines = replicate 4590 9

pub record StoresDrawn : Type 0 where
  pub taken : state_after (begun nines) (piece (1 ∷ []) ∷ piece (2 ∷ []) ∷ []) ≡ held (1 ∷ 2 ∷ replicate 4588 9) 2
  pub ended : state_after (begun nines) (piece (1 ∷ 2 ∷ []) ∷ end sevens sevens ∷ []) ≡ held (1 ∷ 2 ∷ replicate 4588 9) 0
  pub full : state_after (held nines 4589) (piece (1 ∷ 2 ∷ []) ∷ []) ≡ held (replicate 4589 9 ++ (1 ∷ [])) 4590
  pub short : replies_of (held (8 ∷ 8 ∷ []) 1) (piece (1 ∷ []) ∷ end sevens one ∷ []) ≡ took (Err ShortStore) ∷ gave (Err ShortStore) sevens one ∷ []
  pub short_left : state_after (held (8 ∷ 8 ∷ []) 1) (piece (1 ∷ []) ∷ end sevens one ∷ []) ≡ held (8 ∷ 8 ∷ []) 1
  pub wrong : replies_of (held nines 4591) (piece (1 ∷ []) ∷ end sevens one ∷ []) ≡ took (Err WrongFill) ∷ gave (Err WrongFill) sevens one ∷ []
  pub wrong_left : state_after (held nines 4591) (piece (1 ∷ []) ∷ end sevens one ∷ []) ≡ held nines 0
