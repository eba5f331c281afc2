-- A text that is gone through piece by piece is gone through as its join is, and that is what it is read as.
-- Assumes nothing.
use Prim.Native.Nat.{ℕ, suc, ◌+◌, ◌≤◌, ◌<◌}
use native.Mathlib.Nat.{add-zero, add-suc, suc-add, add_assoc}
use native.Mathlib.Omega.{arith}
use native.Mathlib.Numerals.{add-one}
use mathlib.Core.Path.{◌≡◌, refl, sym, ◌∙◌, ap}
use mathlib.Core.Bool.{true}
use mathlib.Core.Logic.{inl, inr}
use mathlib.Core.List.{List, [], ◌∷◌, ◌++◌, flatten, append-nil, append_assoc}
use lib.Dec.{leb}
use lib.ListN.{length, take, get_or, length-append, length-take}
use lib.Seq.{sets, take-suc, take_all, length-sets}
use Rattle.model.proofs.Append.{flatten_append}
use Rattle.model.proofs.Tests.{bool?}
use Rattle.scanning.specs.declared.State.{State}
use Rattle.scanning.specs.declared.State.TheVariants.{Outside, Inside, Stuck}
use Rattle.scanning.specs.declared.Scan.{Scan}
use Rattle.scanning.specs.Reading.{numbers, largest, is_digit, is_separator, reading_of}
use Rattle.scanning.specs.Read.{place_at, scanned_for, words_after}
use Rattle.scanning.specs.Steps.{with_value, after_of, ended_by, Kept}
use Rattle.scanning.specs.Pieces.{state_after, ended_in, start, scan_after, kept_after, More, behind, Within, stuck, answer_of, answer_at, words_at, Gone, gone, through, PiecesRight}
use Rattle.scanning.proofs.WordLaws.{sets_more, sets_all}
use Rattle.scanning.proofs.StepLaws.{prepend_all, prepend_append, onward, end_of, onward_end, onward_step, answer_is, found_all, ended_few, ended_then}

-- one piece behind another
pub state_append : (state : State) (at : ℕ) (xs ys : List ℕ) →
    state_after state at (xs ++ ys) ≡ state_after (state_after state at xs) (at + length xs) ys
unfolding state_after
state_append state at [] ys = rw (add-zero at)
state_append state at (x ∷ xs) ys =
    rw (add-suc at (length xs), ← suc-add at (length xs)) (state_append (after_of state (place_at at) x) (suc at) xs ys)

pub ended_append : (state : State) (at : ℕ) (xs ys : List ℕ) →
    ended_in state at (xs ++ ys) ≡ ended_in state at xs ++ ended_in (state_after state at xs) (at + length xs) ys
unfolding state_after ended_in
ended_append state at [] ys = rw (add-zero at)
ended_append state at (x ∷ xs) ys =
    rw (add-suc at (length xs), ← suc-add at (length xs))
    (ap (λ (rest : List ℕ). ended_by state x ++ rest) (ended_append (after_of state (place_at at) x) (suc at) xs ys)
    ∙ sym (append_assoc (ended_by state x) _ _))

-- what a text is read as, with a piece of it gone through
onward_piece : (state : State) (at : ℕ) (piece rest : List ℕ) →
    onward state at (piece ++ rest) ≡ prepend_all (ended_in state at piece) (onward (state_after state at piece) (at + length piece) rest)
unfolding state_after ended_in prepend_all
onward_piece state at [] rest = rw (add-zero at)
onward_piece state at (byte ∷ piece) rest =
    rw (add-suc at (length piece), ← suc-add at (length piece))
    (onward_step state at byte (piece ++ rest)
    ∙ ap (prepend_all (ended_by state byte)) (onward_piece (after_of state (place_at at) byte) (suc at) piece rest)
    ∙ sym (prepend_append (ended_by state byte) _ _))

-- counts and places stay within the bytes gone through
few_after : (state : State) (at count : ℕ) (piece : List ℕ) → count + length (ended_by state 32) ≤ at →
    count + length (ended_in state at piece) + length (ended_by (state_after state at piece) 32) ≤ at + length piece
unfolding state_after ended_in
few_after state at count [] h = omega (arith, h)
few_after state at count (byte ∷ piece) h =
    let next = few_after (after_of state (place_at at) byte) (suc at) (count + length (ended_by state byte)) piece
    (omega (arith, h, ended_then state (place_at at) byte)) in
    omega (arith, next, length-append (ended_by state byte) (ended_in (after_of state (place_at at) byte) (suc at) piece))

behind_value : (at start : ℕ) (value : ℕ) → start ≤ at → behind (with_value (place_at start) value) ≤ at
unfolding with_value
behind_value at start value h = elim (bool? (leb value largest)) [ inl p ↦ rw p h | inr p ↦ rw p h ]

behind_step : (state : State) (at byte : ℕ) → behind state ≤ at → behind (after_of state (place_at at) byte) ≤ suc at
behind_step Outside at byte h =
    elim (bool? (is_digit byte)) [
      | inl p ↦ rw p (omega arith)
      | inr p ↦ elim (bool? (is_separator byte)) [ inl q ↦ rw (p, q) (omega arith) | inr q ↦ rw (p, q) (omega arith) ]
    ]
behind_step (Inside from value) at byte h =
    elim (bool? (is_digit byte)) [
      | inl p ↦ rw p (behind_value (suc at) from.0 _ (omega (arith, h)))
      | inr p ↦ elim (bool? (is_separator byte)) [ inl q ↦ rw (p, q) (omega arith) | inr q ↦ rw (p, q) (omega arith) ]
    ]
behind_step (Stuck place) at byte h = omega (arith, h)

behind_after : (state : State) (at : ℕ) (piece : List ℕ) → behind state ≤ at → behind (state_after state at piece) ≤ at + length piece
unfolding state_after
behind_after state at [] h = omega (arith, h)
behind_after state at (byte ∷ piece) h =
    let next = behind_after (after_of state (place_at at) byte) (suc at) piece (behind_step state at byte h) in omega (arith, next)

pub within_more : (scan : Scan) (piece : List ℕ) (more : ℕ) → Within scan 0 → scan.at.0 + length piece + more < 18446744073709551616 →
    Within (scan_after scan piece) more
within_more scan piece more w h =
    record {
      few = few_after scan.state scan.at.0 scan.count piece w.few;
      placed = behind_after scan.state scan.at.0 piece w.placed;
      most = h;
    }

pub kept_long : (scan : Scan) (piece words : List ℕ) → length (kept_after scan piece words) ≡ length words
kept_long scan piece words = length-sets words scan.count (ended_in scan.state scan.at.0 piece)

-- what `go_on` and `finish` ask for, from the beginning on
pub within_start : Within start 0
within_start = record { few = omega arith; placed = omega arith; most = omega arith }

pub begun_within : {scan : Scan} {more : ℕ} → scan ≡ start → more < 18446744073709551616 → Within scan more
begun_within e h = rw e (record { few = omega arith; placed = omega arith; most = omega (arith, h) })

pub gone_within : {scan next : Scan} {piece old new : List ℕ} → Within scan (length piece) → More scan piece old next new → Within next 0
gone_within {scan} {next} {piece} w m =
    rw m.scan_is
    (within_more scan piece 0 (record { few = w.few; placed = w.placed; most = omega (arith, w.most) }) (omega (arith, w.most)))

-- The loop of `go_on`: what the first i bytes of the piece did.
pub record Going (scan : Scan) (piece old : List ℕ) (i : ℕ) (state : State) (count : ℕ) (words : List ℕ) : Type 0 where
  pub most : i ≤ length piece
  pub state_is : state ≡ state_after scan.state scan.at.0 (take i piece)
  pub count_is : count ≡ scan.count + length (ended_in scan.state scan.at.0 (take i piece))
  pub words_are : words ≡ kept_after scan (take i piece) old

pub going_none : (scan : Scan) (piece old : List ℕ) → Going scan piece old 0 scan.state scan.count old
unfolding state_after ended_in
going_none scan piece old = record { most = omega arith; state_is = refl; count_is = omega arith; words_are = refl }

module _ {scan : Scan} {piece old : List ℕ} {i : ℕ} {state : State} {count : ℕ} {words : List ℕ} (g : Going scan piece old i state count words) where
  pub going_fits : (byte : ℕ) → Within scan (length piece) → count + length (ended_by state byte) ≤ scan.at.0 + i
  going_fits byte w =
      let here : count + length (ended_by state 32) ≤ scan.at.0 + length (take i piece) =
      rw (g.count_is, g.state_is) (few_after scan.state scan.at.0 scan.count (take i piece) w.few) in
      omega (arith, here, ended_few state byte, length-take i piece, g.most)

  pub going_long : length words ≡ length old
  going_long = ap length g.words_are ∙ kept_long scan (take i piece) old

  pub going_more : {result : ℕ} {new : List ℕ} {next : State} → i < length piece → Kept (ended_by state (get_or piece i 0)) words count result new →
      next ≡ after_of state (place_at (scan.at.0 + i)) (get_or piece i 0) → Going scan piece old (i + 1) next result new
  unfolding state_after ended_in
  going_more {result} {new} {next} h k e =
      let taken : take (i + 1) piece ≡ take i piece ++ (get_or piece i 0 ∷ []) = rw (add-one i) (take-suc piece i 0 h) in
      let long : length (take i piece) ≡ i = omega (arith, length-take i piece, g.most) in
      let ended : ended_in scan.state scan.at.0 (take (i + 1) piece) ≡ ended_in scan.state scan.at.0 (take i piece) ++ ended_by state (get_or piece i 0) =
      rw (taken, g.state_is) (ended_append scan.state scan.at.0 (take i piece) (get_or piece i 0 ∷ []) ∙ ap (λ (xs : List ℕ). ended_in scan.state scan.at.0 (take i piece) ++ xs) (append-nil _)) in
      record {
        most = omega arith;
        state_is =
            e
            ∙ ap (λ (s : State). after_of s (place_at (scan.at.0 + i)) (get_or piece i 0)) g.state_is
            ∙ ap (λ (n : ℕ). after_of (state_after scan.state scan.at.0 (take i piece)) (place_at (scan.at.0 + n)) (get_or piece i 0)) (sym long)
            ∙ sym (state_append scan.state scan.at.0 (take i piece) (get_or piece i 0 ∷ []))
            ∙ ap (state_after scan.state scan.at.0) (sym taken);
        count_is =
            omega (arith, k.result_is, g.count_is, ap (length {A = ℕ}) ended, length-append (ended_in scan.state scan.at.0 (take i piece)) (ended_by state (get_or piece i 0)));
        words_are =
            k.words_are
            ∙ ap (λ (xs : List ℕ). sets xs count (ended_by state (get_or piece i 0))) g.words_are
            ∙ ap (λ (n : ℕ). sets (kept_after scan (take i piece) old) n (ended_by state (get_or piece i 0))) g.count_is
            ∙ sets_more old scan.count (ended_in scan.state scan.at.0 (take i piece)) (ended_by state (get_or piece i 0))
            ∙ ap (sets old scan.count) (sym ended);
      }

  pub going_all : {at : ℕ} → length piece ≤ i → at ≡ scan.at.0 + length piece →
      More scan piece old (record { state = state; at = place_at at; count = count }) words
  going_all {at} h q =
      let all : take i piece ≡ piece = take_all i piece h in
      record {
        scan_is = rw (q, g.state_is, g.count_is, all);
        words_are = rw all at g.words_are;
      }

-- two pieces, and then any
scan_append : (scan : Scan) (xs ys : List ℕ) → scan_after (scan_after scan xs) ys ≡ scan_after scan (xs ++ ys)
scan_append scan xs ys =
    rw (
      state_append scan.state scan.at.0 xs ys,
      ended_append scan.state scan.at.0 xs ys,
      length-append xs ys,
      length-append (ended_in scan.state scan.at.0 xs) (ended_in (state_after scan.state scan.at.0 xs) (scan.at.0 + length xs) ys),
      ← add_assoc scan.at.0 (length xs) (length ys),
      ← add_assoc scan.count (length (ended_in scan.state scan.at.0 xs)) (length (ended_in (state_after scan.state scan.at.0 xs) (scan.at.0 + length xs) ys)),
    )

kept_append : (scan : Scan) (xs ys words : List ℕ) → kept_after (scan_after scan xs) ys (kept_after scan xs words) ≡ kept_after scan (xs ++ ys) words
kept_append scan xs ys words =
    rw (ended_append scan.state scan.at.0 xs ys)
    (sets_more words scan.count (ended_in scan.state scan.at.0 xs) (ended_in (state_after scan.state scan.at.0 xs) (scan.at.0 + length xs) ys))

one_piece : (before : Gone) (pieces : List (List ℕ)) → through before pieces ≡ through before (flatten pieces ∷ [])
unfolding through flatten state_after ended_in
one_piece before [] = rw (add-zero before.scan.at.0, add-zero before.scan.count)
one_piece before (piece ∷ pieces) =
    one_piece (gone (scan_after before.scan piece) (kept_after before.scan piece before.words)) pieces
    ∙ ap (λ (s : Scan). gone s (kept_after (scan_after before.scan piece) (flatten pieces) (kept_after before.scan piece before.words))) (scan_append before.scan piece (flatten pieces))
    ∙ ap (gone (scan_after before.scan (piece ++ flatten pieces))) (kept_append before.scan piece (flatten pieces) before.words)

-- the state behind all of a text, and the numbers that end in it or with it
module _ (text : List ℕ) where
  abbrev last : State
  last = state_after Outside 0 text

  abbrev all : List ℕ
  all = ended_in Outside 0 text ++ ended_by last 32

  all_long : 0 + length (ended_in Outside 0 text) + length (ended_by last 32) ≡ length all
  all_long = omega (arith, length-append (ended_in Outside 0 text) (ended_by last 32))

  read_all : reading_of text ≡ prepend_all all (end_of last)
  unfolding onward
  read_all =
      ap (onward Outside 0) (sym (append-nil text))
      ∙ onward_piece Outside 0 text []
      ∙ ap (prepend_all (ended_in Outside 0 text)) (onward_end last (0 + length text))
      ∙ sym (prepend_append (ended_in Outside 0 text) (ended_by last 32) (end_of last))

  pub answer_all : answer_at (scan_after start text) ≡ scanned_for (reading_of text)
  answer_all = ap (answer_of last) all_long ∙ answer_is last all ∙ ap scanned_for (sym read_all)

  pub keep_all : (old values : List ℕ) → reading_of text ≡ numbers values →
      words_at (scan_after start text) (kept_after start text old) ≡ words_after (numbers values) old
  keep_all old values e =
      sets_more old 0 (ended_in Outside 0 text) (ended_by last 32)
      ∙ ap (sets old 0) (sym (found_all last all values (sym read_all ∙ e)))
      ∙ sets_all old values

-- what is stuck stays so
stuck_state : (state : State) (at : ℕ) (piece : List ℕ) → stuck state ≡ true → state_after state at piece ≡ state
unfolding state_after
stuck_state state at [] h = refl
stuck_state Outside at (byte ∷ piece) h = let z : ◌≡◌ {A = ℕ} 0 1 = cc (h) in absurd (omega arith)
stuck_state (Inside from value) at (byte ∷ piece) h = let z : ◌≡◌ {A = ℕ} 0 1 = cc (h) in absurd (omega arith)
stuck_state (Stuck place) at (byte ∷ piece) h = stuck_state (Stuck place) (suc at) piece h

stuck_answer : (state : State) (count other : ℕ) → stuck state ≡ true → answer_of state count ≡ answer_of state other
stuck_answer Outside count other h = let z : ◌≡◌ {A = ℕ} 0 1 = cc (h) in absurd (omega arith)
stuck_answer (Inside from value) count other h = let z : ◌≡◌ {A = ℕ} 0 1 = cc (h) in absurd (omega arith)
stuck_answer (Stuck place) count other h = refl

stuck_piece : (scan : Scan) (piece : List ℕ) → stuck scan.state ≡ true → answer_at scan ≡ answer_at (scan_after scan piece)
stuck_piece scan piece h =
    rw (stuck_state scan.state scan.at.0 piece h)
    (stuck_answer scan.state _ _ h)

pub pieces_right : PiecesRight
unfolding through
pieces_right =
    record {
      joins = λ old pieces. one_piece (gone start old) pieces;
      answers = λ old pieces. rw (one_piece (gone start old) pieces) (answer_all (flatten pieces));
      early = λ old pieces more h.
          rw (one_piece (gone start old) pieces, flatten_append pieces more)
          (stuck_piece (scan_after start (flatten pieces)) (flatten more) (rw (one_piece (gone start old) pieces) at h)
          ∙ ap answer_at (scan_append start (flatten pieces) (flatten more))
          ∙ answer_all (flatten pieces ++ flatten more));
      keeps = λ old pieces values e. rw (one_piece (gone start old) pieces) (keep_all (flatten pieces) old values e);
      fits = λ old pieces more h. rw (one_piece (gone start old) pieces) (within_more start (flatten pieces) more within_start (omega (arith, h)));
    }
