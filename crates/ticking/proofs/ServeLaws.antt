-- The work of a tick, once its releases are made.
-- Assumes nothing.
use Prim.Native.Nat.{ℕ, ◌-◌, ◌/◌, ◌≤◌, ◌<◌}
use native.Mathlib.Omega.{arith}
use mathlib.Core.Path.{◌≡◌, sym, ◌∙◌, ap}
use mathlib.Core.List.{List}
use lib.Dec.{eqb}
use Rattle.std.specs.Prelude.{Option}
use Rattle.model.specs.declared.Place.{Place}
use lib.ListN.{length, set}
use Rattle.model.specs.Lists.{word_of}
use Rattle.model.proofs.Lists.{get_d_filled, length_filled}
use Rattle.model.proofs.Filling.{filled_set}
use Rattle.machine.specs.Machine.{State, next_place, left_after, ready_after}
use Rattle.machine.specs.Slices.{place_or_none, Kept, kept, TasksHeld, StateHeld, Leaves, HasNext, released_in, served_in, reported_in, words_for}
use Rattle.machine.proofs.MachineLaws.{after_own, after_other, other_word}
use Rattle.machine.proofs.WordLaws.{next_same}
use Rattle.machine.proofs.ReleaseLaws.{word_left}

module _ (periods costs : List ℕ) (n t : ℕ) (before : Kept) (tasks : TasksHeld periods costs n) (held : StateHeld n t before)
    (has : HasNext n (released_in periods costs n t before)) (now : Kept) (next place : ℕ)
    (holds : Leaves n before (released_in periods costs n t before) now next)
    (is : place ≡ next_place (released_in periods costs n t before).ready) where
  abbrev state : State
  state = released_in periods costs n t before

  -- the place that it serves is that of a task
  pub place_in : place < n
  place_in = rw is has.is_place

  word_at : word_of now.left place ≡ state.left place
  word_at = ap (λ (words : List ℕ). word_of words place) holds.left_is ∙ get_d_filled state.left n place before.left 0 place_in

  -- what `serve` asks
  pub place_found : place ≡ next_place (word_of now.ready)
  place_found = is ∙ next_same state.ready (word_of now.ready) (λ w. sym (word_left periods costs n t before tasks held now next holds w))

  pub serve_fits : (place < n) × (place < length now.left) × (1 ≤ word_of now.left place)
  serve_fits = (
    place_in,
    rw (holds.left_is, length_filled state.left n before.left held.work.left_long) (omega (arith, place_in, held.work.left_long)),
    rw (word_at, is) has.has_work,
  )

  -- the words behind it
  abbrev words_after : ℕ → ℕ
  words_after = (served_in periods costs n t before).ready

  words_same : (w : ℕ) → ready_after (eqb (word_of now.left place) 1) place (word_of now.ready) w ≡ words_after w
  words_same w = rw (word_at, word_left periods costs n t before tasks held now next holds w, is)

  -- what it leaves is the state after the tick
  pub tick_served : (left ready : List ℕ) → left ≡ set now.left place (word_of now.left place - 1) →
      ready ≡ set now.ready (place / 64) (ready_after (eqb (word_of now.left place) 1) place (word_of now.ready) (place / 64)) →
      Leaves n before (served_in periods costs n t before) (kept left now.due ready now.nexts) next
  tick_served left ready stored cleared =
      record {
        left_is =
            stored
            ∙ ap (λ (words : List ℕ). set words place (word_of now.left place - 1)) holds.left_is
            ∙ filled_set state.left (left_after state.left (next_place state.ready)) n place (word_of now.left place - 1) before.left
            held.work.left_long place_in
            (ap (λ (x : ℕ). x - 1) word_at ∙ sym (after_own state.left (next_place state.ready) place is))
            (λ k h other. sym (after_other state.left (next_place state.ready) k (λ e. other (e ∙ sym is))));
        due_is = holds.due_is;
        ready_is =
            cleared
            ∙ ap (λ (words : List ℕ). set words (place / 64) (ready_after (eqb (word_of now.left place) 1) place (word_of now.ready) (place / 64)))
            holds.ready_is
            ∙ filled_set state.ready words_after (words_for n) (place / 64)
            (ready_after (eqb (word_of now.left place) 1) place (word_of now.ready) (place / 64)) before.ready held.words.long (omega (arith, place_in))
            (words_same (place / 64))
            (λ w h other. sym (other_word (eqb (state.left (next_place state.ready)) 1) (next_place state.ready) state.ready w
            (λ e. other (e ∙ ap (λ (x : ℕ). x / 64) (sym is)))));
        nexts_are = holds.nexts_are;
        next_is = holds.next_is;
      }

  -- and so is the place of the task behind it
  pub tick_follows : (following : Option Place) →
      following ≡ place_or_none (next_place (ready_after (eqb (word_of now.left place) 1) place (word_of now.ready))) →
      following ≡ place_or_none (next_place words_after)
  tick_follows following e =
      e
      ∙ ap place_or_none (next_same (ready_after (eqb (word_of now.left place) 1) place (word_of now.ready)) words_after words_same)

  -- and what it reports, by the work that was there
  pub tick_reported : (deadline : ℕ) (answers reports : List ℕ) →
      reports ≡ set answers place (reported_in (word_of now.left place) t deadline (word_of answers place)) →
      reports ≡ set answers place (reported_in (state.left place) t deadline (word_of answers place))
  tick_reported deadline answers reports stored = rw word_at at stored
