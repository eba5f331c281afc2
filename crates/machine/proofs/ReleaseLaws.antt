-- The releases of a tick: one task after the other in a word, one word after the other, and a tick in which nothing is due.
-- Assumes nothing.
use Prim.Native.Nat.{ℕ, zero, suc, ◌+◌, ◌-◌, ◌*◌, ◌/◌, ◌%◌, ◌≤◌, ◌<◌, min}
use native.Mathlib.Omega.{arith}
use native.Mathlib.Decide.{dec_lt}
use native.Mathlib.Nat.{add-zero}
use native.Mathlib.Numerals.{add-one}
use mathlib.Core.Path.{◌≡◌, refl, sym, ◌∙◌, ap}
use mathlib.Core.List.{List}
use mathlib.Core.Logic.{inl, inr}
use lib.Dec.{eqb}
use lib.ListN.{length, set}
use borrow.Author.Tests.{ne_eqb}
use Rattle.std.specs.Prelude.{Option}
use Rattle.model.specs.declared.Place.{Place}
use Rattle.model.specs.Lists.{filled, word_of}
use Rattle.model.specs.Choice.{on}
use Rattle.model.proofs.Filling.{Filling, filling_none, filling_at, filling_old, filling_set, filled_word, is_filled}
use Rattle.model.proofs.Lists.{get_d_filled, get_d_filled_past, length_filled}
use Rattle.model.proofs.Tests.{eqb?}
use Rattle.machine.specs.Machine.{left_with, due_with, raised, raised_by, in_word, next_place, earliest, behind, next_in}
use Rattle.machine.specs.Slices.{TasksHeld, WorkHeld, WordsHeld, StateHeld, NextKnown, Kept, Leaves, NoneDue, SomeReleased, WordReleased, released_in, words_for, end_of, place_or_none}
use Rattle.machine.proofs.WordLaws.{next_same}
use Rattle.machine.proofs.SameLaws.{raised_same}
use Rattle.machine.proofs.StepLaws.{stays}

-- the earliest tick is no later than any, and no earlier than what all have reached
pub earliest_low : (f : ℕ → ℕ) (n p : ℕ) → p < n → earliest f n ≤ f p
unfolding earliest
earliest_low f zero p h = absurd (omega arith)
earliest_low f (suc n) p h =
    elim (dec_lt p n) [
      | yes l ↦ omega (arith, earliest_low f n p l)
      | no l ↦
          let last : p ≡ n = omega arith in
          rw last (omega arith)
    ]

pub earliest_high : (f : ℕ → ℕ) (n t : ℕ) → t ≤ 4294967295 → ((p : ℕ) → p < n → t ≤ f p) → t ≤ earliest f n
unfolding earliest
earliest_high f zero t h each = h
earliest_high f (suc n) t h each = omega (arith, earliest_high f n t h (λ p l. each p (omega arith)), each n (omega arith))

earliest_most : (f : ℕ → ℕ) (n : ℕ) → earliest f n ≤ 4294967295
unfolding earliest
earliest_most f zero = omega arith
earliest_most f (suc n) = omega (arith, earliest_most f n)

pub earliest_same : (f g : ℕ → ℕ) (n : ℕ) → ((p : ℕ) → p < n → f p ≡ g p) → earliest f n ≡ earliest g n
unfolding earliest
earliest_same f g zero same = refl
earliest_same f g (suc n) same = omega (arith, earliest_same f g n (λ p h. same p (omega arith)), same n (omega arith))

-- it is the earliest of the words' earliest ticks
pub earliest_words : (f : ℕ → ℕ) (n : ℕ) → earliest (next_in f n) (words_for n) ≡ earliest f n
earliest_words f n =
    let most = earliest_most f n in
    let low : earliest f n ≤ earliest (next_in f n) (words_for n) =
    earliest_high (next_in f n) (words_for n) (earliest f n) most
    (λ w h. earliest_high (behind f (64 * w)) (in_word n w) (earliest f n) most
    (λ k l. earliest_low f n (64 * w + k) (omega arith))) in
    let high : earliest (next_in f n) (words_for n) ≤ earliest f n =
    earliest_high f n (earliest (next_in f n) (words_for n)) (earliest_most (next_in f n) (words_for n))
    (λ p h.
    let place : 64 * (p / 64) + p % 64 ≡ p = omega arith in
    omega (
      arith,
      earliest_low (next_in f n) (words_for n) (p / 64) (omega arith),
      earliest_low (behind f (64 * (p / 64))) (in_word n (p / 64)) (p % 64) (omega arith),
      ap f place,
    )) in
    omega arith

-- what holds for n tasks holds for the first of them
pub tasks_to : (periods costs : List ℕ) (n to : ℕ) → TasksHeld periods costs n → 1 ≤ to → to ≤ n → TasksHeld periods costs to
tasks_to periods costs n to tasks some within =
    record {
      some = some;
      few = omega (arith, tasks.few);
      periods_long = omega (arith, tasks.periods_long);
      costs_long = omega (arith, tasks.costs_long);
      period_low = λ p h. tasks.period_low p (omega arith);
      period_high = λ p h. tasks.period_high p (omega arith);
      cost_low = λ p h. tasks.cost_low p (omega arith);
      cost_high = λ p h. tasks.cost_high p (omega arith);
    }

pub work_to : (first n to : ℕ) (left due : List ℕ) → WorkHeld first n left due → to ≤ n → WorkHeld first to left due
work_to first n to left due work within =
    record {
      left_long = omega (arith, work.left_long);
      due_long = omega (arith, work.due_long);
      left_high = λ p low h. work.left_high p low (omega arith);
      due_high = λ p low h. work.due_high p low (omega arith);
    }

-- no bit is set where nothing is due
pub raised_none : (due : ℕ → ℕ) (t first word m : ℕ) → ((k : ℕ) → k < m → due (first + k) ≡ t → ⊥) → raised due t first word m ≡ word
unfolding raised
raised_none due t first word zero none = refl
raised_none due t first word (suc m) none =
    rw (ne_eqb (due (first + m)) t (none m (omega arith))) (raised_none due t first word m (λ k h. none k (omega arith)))

module _ (periods costs : List ℕ) (t : ℕ) (left due : List ℕ) where
  -- what is left and due once all that is due is released
  abbrev left_now : ℕ → ℕ
  left_now = left_with (word_of costs) (word_of due) t (word_of left)

  abbrev due_now : ℕ → ℕ
  due_now = due_with (word_of periods) (word_of due) t

  -- a task that is not due stays as it is
  pub left_same : (p : ℕ) → (word_of due p ≡ t → ⊥) → left_now p ≡ word_of left p
  left_same p other = rw (ne_eqb (word_of due p) t other) (add-zero (word_of left p))

  pub due_same : (p : ℕ) → (word_of due p ≡ t → ⊥) → due_now p ≡ word_of due p
  due_same p other = rw (ne_eqb (word_of due p) t other) (add-zero (word_of due p))

  -- where none of the first m tasks is due, the slices are as their release would leave them
  pub left_kept : (m : ℕ) → m ≤ length left → NoneDue m t due → left ≡ filled left_now m left
  left_kept m room none = is_filled left_now m left left room refl (λ p h. sym (left_same p (none p h))) (λ p h. refl)

  pub due_kept : (m : ℕ) → m ≤ length due → NoneDue m t due → due ≡ filled due_now m due
  due_kept m room none = is_filled due_now m due due room refl (λ p h. sym (due_same p (none p h))) (λ p h. refl)

  -- Task after task, from place `first` to before place `to`.
  module _ (first to ready : ℕ) where
    -- once the tasks before place p were looked at
    pub record Releasing (p word next : ℕ) : Type 0 where
      pub from : first ≤ p
      pub within : p ≤ to
      pub word_is : word ≡ raised (word_of due) t first ready (p - first)
      pub next_is : next ≡ earliest (behind due_now first) (p - first)

    pub releasing_none : first ≤ to → Releasing first ready 4294967295
    unfolding raised earliest
    releasing_none h =
        let none : first - first ≡ 0 = omega arith in
        record { from = omega arith; within = h; word_is = rw none refl; next_is = rw none refl }

    pub left_none : to ≤ length left → first ≤ to → NoneDue first t due → Filling left_now to first left left
    left_none room h none = record { is = left_kept first (omega arith) none; long = refl; room = room }

    pub due_none : to ≤ length due → first ≤ to → NoneDue first t due → Filling due_now to first due due
    due_none room h none = record { is = due_kept first (omega arith) none; long = refl; room = room }

    -- the words at place p before its turn
    pub due_old : (p : ℕ) (now : List ℕ) → Filling due_now to p due now → word_of now p ≡ word_of due p
    due_old p now filling = filling_old due_now to p due now filling p (omega arith)

    pub left_old : (p : ℕ) (now : List ℕ) → Filling left_now to p left now → word_of now p ≡ word_of left p
    left_old p now filling = filling_old left_now to p left now filling p (omega arith)

    module _ (p : ℕ) (h : p < to) (left_then due_then : List ℕ) (lefts : Filling left_now to p left left_then) (dues : Filling due_now to p due due_then) where
      abbrev released : ℕ → ℕ
      released more = on (eqb (word_of due_then p) t) more

      pub left_more : (next : List ℕ) → next ≡ set left_then p (word_of left_then p + released (word_of costs p)) → Filling left_now to (p + 1) left next
      left_more next e =
          filling_set left_now to p left left_then next (word_of left_then p + released (word_of costs p)) lefts h e
          (rw (left_old p left_then lefts, due_old p due_then dues))

      pub due_more : (next : List ℕ) → next ≡ set due_then p (word_of due_then p + released (word_of periods p)) → Filling due_now to (p + 1) due next
      due_more next e =
          filling_set due_now to p due due_then next (word_of due_then p + released (word_of periods p)) dues h e
          (rw (due_old p due_then dues))

      pub releasing_more : (word next word_next next_next : ℕ) (due_after : List ℕ) → Releasing p word next →
          due_after ≡ set due_then p (word_of due_then p + released (word_of periods p)) →
          word_next ≡ raised_by (eqb (word_of due_then p) t) p word → next_next ≡ min next (word_of due_after p) → Releasing (p + 1) word_next next_next
      unfolding raised earliest
      releasing_more word next word_next next_next due_after r stored raise least =
          let more : p + 1 - first ≡ suc (p - first) = omega (arith, r.from) in
          let here : first + (p - first) ≡ p = omega (arith, r.from) in
          record {
            from = omega (arith, r.from);
            within = omega arith;
            word_is = rw (more, here) (raise ∙ rw (due_old p due_then dues, r.word_is));
            next_is =
                rw (more, here)
                (least
                ∙ rw
                (filled_word due_now (p + 1) due due_after (due_more due_after stored).is p (omega arith), r.next_is));
          }

    -- all tasks were looked at
    pub some_released : (p word next : ℕ) (left_then due_then : List ℕ) → Releasing p word next → Filling left_now to p left left_then →
        Filling due_now to p due due_then → to ≤ p → SomeReleased periods costs first to t left due ready left_then due_then word next
    some_released p word next left_then due_then r lefts dues h =
        let all : to ≡ p = omega (arith, r.within) in
        record {
          left_is = filling_at left_now to left p left_then lefts to all;
          due_is = filling_at due_now to due p due_then dues to all;
          word_is = rw all r.word_is;
          next_is = rw all r.next_is;
        }

-- A word: where nothing of it is due,
module _ (periods costs : List ℕ) (n w t : ℕ) (k : Kept) (work : WorkHeld (64 * w) n k.left k.due) (none : NoneDue (64 * w) t k.due) (is : w < words_for n) where
  abbrev lefts : ℕ → ℕ
  lefts = left_now periods costs t k.left k.due

  abbrev dues : ℕ → ℕ
  dues = due_now periods costs t k.left k.due

  pub word_skipped : word_of k.nexts w ≡ next_in (word_of k.due) n w → t < word_of k.nexts w →
      WordReleased periods costs n w t k k (word_of k.nexts w)
  word_skipped next early =
      record {
        left_is = left_kept periods costs t k.left k.due (end_of n (w + 1)) (omega (arith, work.left_long)) later;
        due_is = due_kept periods costs t k.left k.due (end_of n (w + 1)) (omega (arith, work.due_long)) later;
        ready_is =
            rw (raised_none (word_of k.due) t (64 * w) (word_of k.ready w) (in_word n w) (λ q h. later (64 * w + q) (omega arith)))
            (stays k.ready w);
        nexts_are = rw (sym same) (stays k.nexts w);
        next_is = same;
      }
    where
      later : NoneDue (end_of n (w + 1)) t k.due
      later p h e =
          elim (dec_lt p (64 * w)) [
            | yes l ↦ none p l e
            | no l ↦
                let place : 64 * w + (p - 64 * w) ≡ p = omega arith in
                omega (
                  arith,
                  e,
                  next,
                  earliest_low (behind (word_of k.due) (64 * w)) (in_word n w) (p - 64 * w) (omega arith),
                  ap (word_of k.due) place,
                )
          ]

      same : word_of k.nexts w ≡ next_in dues n w
      same =
          next
          ∙ earliest_same (behind (word_of k.due) (64 * w)) (behind dues (64 * w)) (in_word n w)
          (λ q h. sym (due_same periods costs t k.left k.due (64 * w + q) (later (64 * w + q) (omega arith))))

  -- and where its tasks were looked at
  pub word_released : (to : ℕ) (now : Kept) (word next : ℕ) → to ≡ min n (64 * w + 64) →
      SomeReleased periods costs (64 * w) to t k.left k.due (word_of k.ready w) now.left now.due word next →
      now.ready ≡ set k.ready w word → now.nexts ≡ set k.nexts w next → WordReleased periods costs n w t k now next
  word_released to now word next end some readies nexts =
      let reach : to ≡ end_of n (w + 1) = omega arith in
      let many : to - 64 * w ≡ in_word n w = omega arith in
      let again : next ≡ next_in dues n w = some.next_is ∙ ap (earliest (behind dues (64 * w))) many in
      record {
        left_is = some.left_is ∙ ap (λ (x : ℕ). filled lefts x k.left) reach;
        due_is = some.due_is ∙ ap (λ (x : ℕ). filled dues x k.due) reach;
        ready_is = readies ∙ ap (set k.ready w) (some.word_is ∙ ap (raised (word_of k.due) t (64 * w) (word_of k.ready w)) many);
        nexts_are = nexts ∙ ap (set k.nexts w) again;
        next_is = again;
      }

-- a list that is filled, and filled again further on
filled_over : (f g : ℕ → ℕ) (m n : ℕ) (old : List ℕ) → m ≤ n → n ≤ length old → ((p : ℕ) → p < n → g p ≡ f p) →
    filled g n (filled f m old) ≡ filled f n old
filled_over f g m n old h room same =
    is_filled f n old (filled g n (filled f m old)) room
    (length_filled g n (filled f m old) (omega (arith, length_filled f m old (omega arith))) ∙ length_filled f m old (omega arith))
    (λ p l. get_d_filled g n p (filled f m old) 0 l ∙ same p l)
    (λ p l. get_d_filled_past g n p (filled f m old) 0 l ∙ get_d_filled_past f m p old 0 (omega arith))

-- Word after word.
module _ (periods costs : List ℕ) (n t : ℕ) (before : Kept) where
  abbrev left_then : ℕ → ℕ
  left_then = left_now periods costs t before.left before.due

  abbrev due_then : ℕ → ℕ
  due_then = due_now periods costs t before.left before.due

  abbrev word_then : ℕ → ℕ
  word_then w = raised (word_of before.due) t (64 * w) (word_of before.ready w) (in_word n w)

  -- once the words before w were looked at
  pub record Looking (w : ℕ) (k : Kept) (next : ℕ) : Type 0 where
    pub within : w ≤ words_for n
    pub left_is : k.left ≡ filled left_then (end_of n w) before.left
    pub due_is : k.due ≡ filled due_then (end_of n w) before.due
    pub ready_is : Filling word_then (words_for n) w before.ready k.ready
    pub nexts_are : Filling (next_in due_then n) (words_for n) w before.nexts k.nexts
    pub next_is : next ≡ earliest (next_in due_then n) w

  module _ (tasks : TasksHeld periods costs n) (held : StateHeld n t before) where
    pub looking_none : Looking 0 before 4294967295
    unfolding earliest
    looking_none =
        let none : end_of n 0 ≡ 0 = omega arith in
        record {
          within = omega arith;
          left_is = rw none (left_kept periods costs t before.left before.due 0 (omega arith) (λ p h. absurd (omega arith)));
          due_is = rw none (due_kept periods costs t before.left before.due 0 (omega arith) (λ p h. absurd (omega arith)));
          ready_is = filling_none word_then (words_for n) before.ready held.words.long;
          nexts_are = filling_none (next_in due_then n) (words_for n) before.nexts held.nexts_long;
          next_is = refl;
        }

    module _ (w : ℕ) (k : Kept) (next : ℕ) (looking : Looking w k next) where
      pub looking_left : length k.left ≡ length before.left
      looking_left = ap length looking.left_is ∙ length_filled left_then (end_of n w) before.left (omega (arith, held.work.left_long))

      pub looking_due : length k.due ≡ length before.due
      looking_due = ap length looking.due_is ∙ length_filled due_then (end_of n w) before.due (omega (arith, held.work.due_long))

      -- the tasks of word w and behind it are as they were
      left_there : (p : ℕ) → 64 * w ≤ p → word_of k.left p ≡ word_of before.left p
      left_there p h =
          ap (λ (words : List ℕ). word_of words p) looking.left_is ∙ get_d_filled_past left_then (end_of n w) p before.left 0 (omega arith)

      due_there : (p : ℕ) → 64 * w ≤ p → word_of k.due p ≡ word_of before.due p
      due_there p h =
          ap (λ (words : List ℕ). word_of words p) looking.due_is ∙ get_d_filled_past due_then (end_of n w) p before.due 0 (omega arith)

      -- and those before it were released
      left_here : (p : ℕ) → p < end_of n w → word_of k.left p ≡ left_then p
      left_here p h = ap (λ (words : List ℕ). word_of words p) looking.left_is ∙ get_d_filled left_then (end_of n w) p before.left 0 h

      due_here : (p : ℕ) → p < end_of n w → word_of k.due p ≡ due_then p
      due_here p h = ap (λ (words : List ℕ). word_of words p) looking.due_is ∙ get_d_filled due_then (end_of n w) p before.due 0 h

      -- so that none of them is due any more
      due_past : (p : ℕ) → p < end_of n w → word_of k.due p ≡ t → ⊥
      due_past p h e =
          elim (eqb? (word_of before.due p) t) [
            | inl same ↦ omega (arith, e, same.1, tasks.period_low p (omega arith), rw same.0 at (due_here p h))
            | inr other ↦ other.1 (sym (due_same periods costs t before.left before.due p other.1) ∙ sym (due_here p h) ∙ e)
          ]

      module _ (more : w < words_for n) where
        pub none_due : NoneDue (64 * w) t k.due
        none_due p h = due_past p (omega arith)

        pub work_held : WorkHeld (64 * w) n k.left k.due
        work_held =
            record {
              left_long = omega (arith, looking_left, held.work.left_long);
              due_long = omega (arith, looking_due, held.work.due_long);
              left_high = λ p low high. rw (left_there p low) (held.work.left_high p (omega arith) high);
              due_high = λ p low high. rw (due_there p low) (held.work.due_high p (omega arith) high);
            }

        pub ready_room : w < length k.ready
        ready_room = omega (arith, looking.ready_is.long, looking.ready_is.room)

        pub nexts_room : w < length k.nexts
        nexts_room = omega (arith, looking.nexts_are.long, looking.nexts_are.room)

        pub next_there : word_of k.nexts w ≡ next_in (word_of k.due) n w
        next_there =
            filling_old (next_in due_then n) (words_for n) w before.nexts k.nexts looking.nexts_are w (omega arith)
            ∙ held.nexts_are w more
            ∙ earliest_same (behind (word_of before.due) (64 * w)) (behind (word_of k.due) (64 * w)) (in_word n w)
            (λ q h. sym (due_there (64 * w + q) (omega arith)))

        pub not_past_law : t < 1000000 → t ≤ word_of k.nexts w
        not_past_law early =
            rw next_there
            (earliest_high (behind (word_of k.due) (64 * w)) (in_word n w) t (omega arith)
            (λ q h. rw (due_there (64 * w + q) (omega arith)) (held.not_past (64 * w + q) (omega arith))))

        -- one word more
        module _ (now : Kept) (again later : ℕ) (word : WordReleased periods costs n w t k now again) (least : later ≡ min next again) where
          lefts_same : (p : ℕ) → p < end_of n (w + 1) → left_now periods costs t k.left k.due p ≡ left_then p
          lefts_same p h =
              elim (dec_lt p (64 * w)) [
                | yes l ↦ left_same periods costs t k.left k.due p (due_past p (omega arith)) ∙ left_here p (omega arith)
                | no l ↦ rw (left_there p (omega arith), due_there p (omega arith))
              ]

          dues_same : (p : ℕ) → p < end_of n (w + 1) → due_now periods costs t k.left k.due p ≡ due_then p
          dues_same p h =
              elim (dec_lt p (64 * w)) [
                | yes l ↦ due_same periods costs t k.left k.due p (due_past p (omega arith)) ∙ due_here p (omega arith)
                | no l ↦ rw (due_there p (omega arith))
              ]

          again_is : again ≡ next_in due_then n w
          again_is =
              word.next_is
              ∙ earliest_same (behind (due_now periods costs t k.left k.due) (64 * w)) (behind due_then (64 * w)) (in_word n w)
              (λ q h. dues_same (64 * w + q) (omega arith))

          pub looking_more : Looking (w + 1) now later
          unfolding earliest
          looking_more =
              record {
                within = omega arith;
                left_is =
                    word.left_is
                    ∙ ap (filled (left_now periods costs t k.left k.due) (end_of n (w + 1))) looking.left_is
                    ∙ filled_over left_then (left_now periods costs t k.left k.due) (end_of n w) (end_of n (w + 1)) before.left
                    (omega arith) (omega (arith, held.work.left_long)) lefts_same;
                due_is =
                    word.due_is
                    ∙ ap (filled (due_now periods costs t k.left k.due) (end_of n (w + 1))) looking.due_is
                    ∙ filled_over due_then (due_now periods costs t k.left k.due) (end_of n w) (end_of n (w + 1)) before.due
                    (omega arith) (omega (arith, held.work.due_long)) dues_same;
                ready_is =
                    filling_set word_then (words_for n) w before.ready k.ready now.ready
                    (raised (word_of k.due) t (64 * w) (word_of k.ready w) (in_word n w)) looking.ready_is more word.ready_is
                    (raised_same (word_of k.due) (word_of before.due) t (64 * w) (word_of k.ready w) (in_word n w)
                    (λ q h. due_there (64 * w + q) (omega arith))
                    ∙ ap (λ (x : ℕ). raised (word_of before.due) t (64 * w) x (in_word n w))
                    (filling_old word_then (words_for n) w before.ready k.ready looking.ready_is w (omega arith)));
                nexts_are =
                    filling_set (next_in due_then n) (words_for n) w before.nexts k.nexts now.nexts
                    (next_in (due_now periods costs t k.left k.due) n w) looking.nexts_are more word.nexts_are
                    (sym word.next_is ∙ again_is);
                next_is = rw add-one (least ∙ rw (looking.next_is, again_is));
              }

      -- all words were looked at
      pub all_released : words_for n ≤ w → Leaves n before (released_in periods costs n t before) k next
      all_released past =
          let all : words_for n ≡ w = omega (arith, looking.within) in
          let end : end_of n w ≡ n = omega arith in
          record {
            left_is = looking.left_is ∙ ap (λ (x : ℕ). filled left_then x before.left) end;
            due_is = looking.due_is ∙ ap (λ (x : ℕ). filled due_then x before.due) end;
            ready_is = filling_at word_then (words_for n) before.ready w k.ready looking.ready_is (words_for n) all;
            nexts_are = filling_at (next_in due_then n) (words_for n) before.nexts w k.nexts looking.nexts_are (words_for n) all;
            next_is = looking.next_is ∙ ap (earliest (next_in due_then n)) (sym all) ∙ earliest_words due_then n;
          }

    -- Where nothing is due the slices hold what a release would leave, and the next task stays.
    module _ (place next : ℕ) (known : NextKnown n t before place next) (early : t < next) where
      later : NoneDue n t before.due
      later p h e = omega (arith, e, known.next_is, earliest_low (word_of before.due) n p h)

      dues_stay : (p : ℕ) → p < n → word_of before.due p ≡ due_then p
      dues_stay p h = sym (due_same periods costs t before.left before.due p (later p h))

      words_stay : (w : ℕ) → word_of before.ready w ≡ word_then w
      words_stay w =
          sym (raised_none (word_of before.due) t (64 * w) (word_of before.ready w) (in_word n w) (λ q h. later (64 * w + q) (omega arith)))

      pub nothing_due : Leaves n before (released_in periods costs n t before) before next
      nothing_due =
          record {
            left_is = left_kept periods costs t before.left before.due n held.work.left_long later;
            due_is = due_kept periods costs t before.left before.due n held.work.due_long later;
            ready_is = is_filled word_then (words_for n) before.ready before.ready held.words.long refl (λ w h. words_stay w) (λ w h. refl);
            nexts_are =
                is_filled (next_in due_then n) (words_for n) before.nexts before.nexts held.nexts_long refl
                (λ w h.
                held.nexts_are w h
                ∙ earliest_same (behind (word_of before.due) (64 * w)) (behind due_then (64 * w)) (in_word n w)
                (λ q l. dues_stay (64 * w + q) (omega arith)))
                (λ w h. refl);
            next_is = known.next_is ∙ earliest_same (word_of before.due) due_then n dues_stay;
          }

      pub place_stays : place ≡ next_place (released_in periods costs n t before).ready
      place_stays = known.place_is early ∙ next_same (word_of before.ready) word_then words_stay

    -- The words that the releases leave, one by one: those of no task have no bit.
    module _ (now : Kept) (next : ℕ) (leaves : Leaves n before (released_in periods costs n t before) now next) where
      pub word_left : (w : ℕ) → word_of now.ready w ≡ word_then w
      word_left w =
          elim (dec_lt w (words_for n)) [
            | yes h ↦ filled_word word_then (words_for n) before.ready now.ready leaves.ready_is w h
            | no h ↦
                ap (λ (words : List ℕ). word_of words w) leaves.ready_is
                ∙ get_d_filled_past word_then (words_for n) w before.ready 0 (omega arith)
                ∙ sym (raised_none (word_of before.due) t (64 * w) (word_of before.ready w) (in_word n w) (λ q l. absurd (omega arith)))
          ]

      pub words_left : WordsHeld n now.ready
      words_left =
          record {
            long = omega (arith, ap length leaves.ready_is, length_filled word_then (words_for n) before.ready held.words.long, held.words.long);
            rest = λ w h.
                ap (λ (words : List ℕ). word_of words w) leaves.ready_is
                ∙ get_d_filled_past word_then (words_for n) w before.ready 0 h
                ∙ held.words.rest w h;
          }

      pub place_left : (place : Option Place) → place ≡ place_or_none (next_place (word_of now.ready)) →
          place ≡ place_or_none (next_place (released_in periods costs n t before).ready)
      place_left place e = e ∙ ap place_or_none (next_same (word_of now.ready) word_then word_left)
