-- The ticks that are played: what the slices hold before and after each of them, what is reported, and where the play stops.
-- Assumes nothing.
use Prim.Native.Nat.{ℕ, zero, suc, ◌+◌, ◌-◌, ◌*◌, ◌≤◌, ◌<◌}
use native.Mathlib.Omega.{arith}
use native.Mathlib.Decide.{dec_lt}
use native.Mathlib.Numerals.{add-one}
use mathlib.Core.Path.{◌≡◌, refl, sym, ◌∙◌, ap, subst, fun_ext}
use mathlib.Core.Bool.{Bool}
use mathlib.Core.List.{List, ◌++◌}
use mathlib.Core.Logic.{inl, inr}
use Rattle.std.specs.Prelude.{Option, Some, None, is_some}
use Rattle.model.specs.declared.Place.{Place}
use lib.ListN.{length, set, drop, replicate, length-replicate}
use borrow.Author.Tests.{eq-eqb, ne_eqb}
use Rattle.model.specs.Lists.{filled, tabulate, word_of}
use Rattle.model.specs.Search.{first_from}
use lib.Seq.{ext_get_or}
use Rattle.std.proofs.lemmas.List.{get_or-replicate}
use Rattle.model.proofs.Lists.{length_tabulate, get_d_tabulate, get_d_filled, get_d_filled_past, length_filled}
use Rattle.model.proofs.Filling.{filled_set, filled_again, filled_same, filled_word, is_filled}
use Rattle.model.proofs.Search.{finds, missed}
use Rattle.model.proofs.Tests.{eqb?, ltb?, clash}
use Rattle.machine.specs.Machine.{State, in_word, after, next_place, place_served, earliest, behind, next_in, none, played, up_to, is_quiet, ticks_played}
use Rattle.machine.specs.Slices.{place_or_none, TasksHeld, DeadlinesHeld, Kept, kept, StateHeld, NextKnown, StartHeld, Leaves, PlayLeaves, HasNext, words_for, state_in, released_in, served_in, reported_in}
use Rattle.machine.proofs.MachineLaws.{Next, in_tick, left_step, left_high_law, due_is_law, words_empty, tick_empty, the_next, start_ready, stay_ready, after_own}
use Rattle.machine.proofs.WordLaws.{place_is, no_place}
use Rattle.ticking.proofs.ReportLaws.{search_on, reported, report_none, report_late, report_all, report_on, report_other, report_quiet, report_own}
use Rattle.machine.proofs.SameLaws.{Same, release_same, serve_same}
use Rattle.machine.proofs.ReleaseLaws.{earliest_same}

-- every task is due at 0 before the first tick
first_due : (m : ℕ) → 1 ≤ m → earliest (λ p. 0) m ≡ 0
unfolding earliest
first_due zero h = absurd (omega arith)
first_due (suc m) h = omega arith

module _ (periods costs : List ℕ) (n : ℕ) where
  abbrev engine : ℕ → State
  engine t = after (word_of periods) (word_of costs) n t

  abbrev raised_at : ℕ → State
  raised_at t = in_tick (word_of periods) (word_of costs) n t

  abbrev quiet : ℕ → Bool
  quiet = is_quiet (word_of periods) (word_of costs) n

  -- before tick t: the state after the ticks before it stands in the slices, and after none of them all work was done
  pub record Playing (limit : ℕ) (first : Kept) (t : ℕ) (k : Kept) (place next : ℕ) : Type 0 where
    pub early : t ≤ limit
    pub holds : Leaves n first (engine t) k next
    pub place_is : t < next → place ≡ next_place (engine t).ready
    pub busy : first_from quiet 1 t ≡ 0

  module _ (tasks : TasksHeld periods costs n) (limit : ℕ) (short : limit ≤ 1000000) (first : Kept) (start : StartHeld n first) where
    few : n ≤ 256
    few = omega (arith, tasks.few)

    pub playing_none : Playing limit first 0 first 0 0
    unfolding after first_from
    playing_none =
        record {
          early = omega arith;
          holds =
              record {
                left_is = is_filled (engine 0).left n first.left first.left start.left_long refl start.no_work (λ p h. refl);
                due_is = is_filled (engine 0).due n first.due first.due start.due_long refl start.all_due (λ p h. refl);
                ready_is =
                    is_filled (engine 0).ready (words_for n) first.ready first.ready start.words refl (λ w h. start.no_bit w) (λ w h. refl);
                nexts_are =
                    is_filled (next_in (engine 0).due n) (words_for n) first.nexts first.nexts start.nexts_long refl
                    (λ w h. start.no_next w h ∙ sym (first_due (in_word n w) (omega arith))) (λ w h. refl);
                next_is = sym (first_due n tasks.some);
              };
          place_is = λ h. absurd (omega arith);
          busy = refl;
        }

    -- so there is work in the tick
    going : (t : ℕ) → first_from quiet 1 t ≡ 0 → ¬ (place_served (word_of periods) (word_of costs) n t ≡ 256)
    going zero busy = start_ready (word_of periods) (word_of costs) n few tasks.cost_low tasks.some
    going (suc t) busy =
        stay_ready (word_of periods) (word_of costs) n few tasks.cost_low (suc t)
        (λ z. clash (quiet (suc t)) (eq-eqb (next_place (engine (suc t)).ready) 256 z)
        (missed quiet 1 (suc t) (omega arith) busy (suc t) (omega arith) (omega arith)))

    module _ (t : ℕ) (k : Kept) (place next : ℕ) (play : Playing limit first t k place next) where
      pub left_long_law : length k.left ≡ length first.left
      left_long_law = ap length play.holds.left_is ∙ length_filled (engine t).left n first.left start.left_long

      pub due_long_law : length k.due ≡ length first.due
      due_long_law = ap length play.holds.due_is ∙ length_filled (engine t).due n first.due start.due_long

      pub ready_long : length k.ready ≡ length first.ready
      ready_long = ap length play.holds.ready_is ∙ length_filled (engine t).ready (words_for n) first.ready start.words

      pub nexts_long_law : length k.nexts ≡ length first.nexts
      nexts_long_law = ap length play.holds.nexts_are ∙ length_filled (next_in (engine t).due n) (words_for n) first.nexts start.nexts_long

      -- the ready words, one by one: those of no task have no bit
      ready_rest : (w : ℕ) → words_for n ≤ w → word_of k.ready w ≡ 0
      ready_rest w h =
          ap (λ (words : List ℕ). word_of words w) play.holds.ready_is
          ∙ get_d_filled_past (engine t).ready (words_for n) w first.ready 0 h
          ∙ start.no_bit w

      ready_same : (w : ℕ) → word_of k.ready w ≡ (engine t).ready w
      ready_same w =
          elim (dec_lt w (words_for n)) [
            | yes h ↦ filled_word (engine t).ready (words_for n) first.ready k.ready play.holds.ready_is w h
            | no h ↦
                ready_rest w (omega arith)
                ∙ sym (words_empty (word_of periods) (word_of costs) n few tasks.cost_low t w (omega arith))
          ]

      same : Same n (state_in k) (engine t)
      same =
          record {
            left = filled_word (engine t).left n first.left k.left play.holds.left_is;
            due = filled_word (engine t).due n first.due k.due play.holds.due_is;
            ready = fun_ext ready_same;
          }

      released_same : Same n (released_in periods costs n t k) (raised_at t)
      released_same =
          release_same (word_of periods) (word_of costs) (word_of periods) (word_of costs) n (λ p h. refl) (λ p h. refl) t (state_in k) (engine t) same

      next_one : Next n (raised_at t).left (place_served (word_of periods) (word_of costs) n t)
      next_one = the_next (word_of periods) (word_of costs) n few tasks.cost_low t (going t play.busy)

      pub state_held : StateHeld n t k
      state_held =
          record {
            work =
                record {
                  left_long = omega (arith, left_long_law, start.left_long);
                  due_long = omega (arith, due_long_law, start.due_long);
                  left_high = λ p low h.
                      omega (
                        arith,
                        same.left p h,
                        left_high_law (word_of periods) (word_of costs) n tasks.cost_high t p h,
                        play.early,
                      );
                  due_high = λ p low h.
                      let d = due_is_law (word_of periods) (word_of costs) n tasks.period_low t p h in
                      omega (arith, same.due p h, d.3, tasks.period_high p h, play.early);
                };
            words = record { long = omega (arith, ready_long, start.words); rest = ready_rest };
            nexts_long = omega (arith, nexts_long_law, start.nexts_long);
            nexts_are = λ w h.
                filled_word (next_in (engine t).due n) (words_for n) first.nexts k.nexts play.holds.nexts_are w h
                ∙ earliest_same (behind (engine t).due (64 * w)) (behind (word_of k.due) (64 * w)) (in_word n w)
                (λ q l. sym (same.due (64 * w + q) (omega arith)));
            not_past = λ p h. omega (arith, same.due p h, (due_is_law (word_of periods) (word_of costs) n tasks.period_low t p h).2);
          }

      pub state_known : NextKnown n t k place next
      state_known =
          record {
            place_is = λ h. play.place_is h ∙ ap next_place (sym same.ready);
            next_is = play.holds.next_is ∙ earliest_same (engine t).due (word_of k.due) n (λ p h. sym (same.due p h));
          }

      pub has_next : HasNext n (released_in periods costs n t k)
      has_next =
          record {
            is_place = rw released_same.ready next_one.is_place;
            has_work =
                rw (released_same.ready, released_same.left (place_served (word_of periods) (word_of costs) n t) next_one.is_place)
                next_one.has_work;
          }

      module _ (serves : ℕ) (is : serves ≡ next_place (released_in periods costs n t k).ready) where
        place_served_law : serves ≡ place_served (word_of periods) (word_of costs) n t
        place_served_law = is ∙ ap next_place released_same.ready

        place_fits : serves < n
        place_fits = rw place_served_law next_one.is_place

      -- what is reported
      module _ (deadlines old answers : List ℕ) (due? : DeadlinesHeld periods deadlines n) (room : n ≤ length old) where
        abbrev told : ℕ → ℕ → ℕ
        told x = reported (word_of periods) (word_of costs) n (word_of deadlines) x

        module _ (serves : ℕ) (is : serves ≡ next_place (released_in periods costs n t k).ready)
            (are : answers ≡ filled (told t) n old) where
          inside : serves < n
          inside = place_fits serves is

          -- the work that is there, and what the tick leaves of it
          abbrev work : ℕ
          work = (released_in periods costs n t k).left serves

          work_is : work ≡ (raised_at t).left serves
          work_is = released_same.left serves inside

          some : 1 ≤ work
          some = rw (work_is, place_served_law serves is) next_one.has_work

          left_is_law : (engine (suc t)).left serves ≡ work - 1
          left_is_law =
              left_step (word_of periods) (word_of costs) n t serves
              ∙ after_own (raised_at t).left (place_served (word_of periods) (word_of costs) n t) serves (place_served_law serves is)
              ∙ ap (λ (x : ℕ). x - 1) (sym work_is)

          before : word_of answers serves ≡ told t serves
          before = ap (λ (words : List ℕ). word_of words serves) are ∙ get_d_filled (told t) n serves old 0 inside

          abbrev write : ℕ
          write = reported_in work t (word_of deadlines serves) (word_of answers serves)

          written : write ≡ told (suc t) serves
          written =
              elim (eqb? work 1) [
                | inr w ↦
                    rw w.0
                    (before
                    ∙ sym (report_on (word_of periods) (word_of costs) n (word_of deadlines) t serves
                    (λ z. w.1 (omega (arith, left_is_law, some, z)))))
                | inl w ↦
                    elim (ltb? t (word_of deadlines serves)) [
                      | inr l ↦
                          rw (w.0, l.0)
                          (before ∙ sym (report_late (word_of periods) (word_of costs) n (word_of deadlines) t serves l.1))
                      | inl l ↦
                          rw (w.0, l.0, add-one)
                          (sym (report_own (word_of periods) (word_of costs) n (word_of deadlines) tasks.cost_low few
                          due?.high t serves inside (going t play.busy) (place_served_law serves is) (omega (arith, left_is_law, w.1)) l.1))
                    ]
              ]

          pub told_more : (u : ℕ) → u ≡ t + 1 → (now : List ℕ) → now ≡ set answers serves write → now ≡ filled (told u) n old
          told_more u one now stored =
              rw (one, add-one)
              (stored
              ∙ ap (λ (words : List ℕ). set words serves write) are
              ∙ filled_set (told t) (told (suc t)) n serves write old room inside written
              (λ p h other. sym (report_other (word_of periods) (word_of costs) n (word_of deadlines) tasks.cost_low t p h
              (λ e. other (e ∙ sym (place_served_law serves is))))))

      module _ (now : Kept) (following : Option Place) (again : ℕ) (leaves : Leaves n k (served_in periods costs n t k) now again)
          (is : following ≡ place_or_none (next_place (served_in periods costs n t k).ready)) where
        served_same : Same n (served_in periods costs n t k) (engine (suc t))
        unfolding after
        served_same =
            serve_same n (released_in periods costs n t k) (raised_at t) released_same (λ some. has_next.is_place)
            (ap (λ (words : ℕ → ℕ). words 4) released_same.ready
            ∙ tick_empty (word_of periods) (word_of costs) n few tasks.cost_low t 4 (omega arith))

        -- the tick leaves the state after it in the slices that held the first one
        leaves_next : Leaves n first (engine (suc t)) now again
        leaves_next =
            record {
              left_is =
                  leaves.left_is
                  ∙ again_filled (engine t).left (served_in periods costs n t k).left (engine (suc t)).left n first.left k.left
                  start.left_long play.holds.left_is served_same.left;
              due_is =
                  leaves.due_is
                  ∙ again_filled (engine t).due (served_in periods costs n t k).due (engine (suc t)).due n first.due k.due
                  start.due_long play.holds.due_is served_same.due;
              ready_is =
                  leaves.ready_is
                  ∙ again_filled (engine t).ready (served_in periods costs n t k).ready (engine (suc t)).ready (words_for n) first.ready k.ready
                  start.words play.holds.ready_is (λ w h. ap (λ (words : ℕ → ℕ). words w) served_same.ready);
              nexts_are =
                  leaves.nexts_are
                  ∙ again_filled (next_in (engine t).due n) (next_in (served_in periods costs n t k).due n) (next_in (engine (suc t)).due n)
                  (words_for n) first.nexts k.nexts start.nexts_long play.holds.nexts_are
                  (λ w h. earliest_same (behind (served_in periods costs n t k).due (64 * w)) (behind (engine (suc t)).due (64 * w)) (in_word n w)
                  (λ q l. served_same.due (64 * w + q) (omega arith)));
              next_is =
                  leaves.next_is
                  ∙ earliest_same (served_in periods costs n t k).due (engine (suc t)).due n served_same.due;
            }
          where
            again_filled : (f g h : ℕ → ℕ) (m : ℕ) (old words : List ℕ) → m ≤ length old → words ≡ filled f m old →
                ((p : ℕ) → p < m → g p ≡ h p) → filled g m words ≡ filled h m old
            again_filled f g h m old words room are alike =
                ap (filled g m) are ∙ filled_again f g m old room ∙ filled_same g h m old alike

        follows : following ≡ place_or_none (next_place (engine (suc t)).ready)
        follows = is ∙ ap (λ (ready : ℕ → ℕ). place_or_none (next_place ready)) served_same.ready

        is_over : following ≡ None → next_place (engine (suc t)).ready ≡ 256
        is_over none = no_place following (next_place (engine (suc t)).ready) follows (ap is_some none)

        -- where work is left, the play goes on
        pub playing_more : (u : ℕ) → u ≡ t + 1 → t < limit → (p : Place) → following ≡ Some p → Playing limit first u now p.0 again
        playing_more u one more p some =
            let here = place_is following (next_place (engine (suc t)).ready) follows p some in
            rw (one, add-one) (record {
              early = more;
              holds = leaves_next;
              place_is = λ h. here.0;
              busy = search_on quiet t (ne_eqb (next_place (engine (suc t)).ready) 256 here.1) ∙ play.busy;
            })

        -- where none is left, it stops, and it is the first tick with that
        pub stops_quiet : (u : ℕ) → u ≡ t + 1 → t < limit → following ≡ None → PlayLeaves periods costs n limit first now u None again
        unfolding ticks_played
        stops_quiet u one more all =
            let found : first_from quiet 1 limit ≡ suc t = finds quiet 1 limit (suc t) (record {
              passes = eq-eqb (next_place (engine (suc t)).ready) 256 (is_over all);
              low = omega arith;
              high = omega arith;
              first = λ v low high. missed quiet 1 t (omega arith) play.busy v low (omega arith);
            }) in
            rw (one, add-one)
            (record { ticks_are = rw (found, ne_eqb (suc t) 0 (omega arith)) refl; state_is = leaves_next; place_is = sym all ∙ follows })

        -- and all is told
        pub told_all : (deadlines old reports : List ℕ) →
            reports ≡ filled (reported (word_of periods) (word_of costs) n (word_of deadlines) (t + 1)) n old → t < limit → following ≡ None →
            reports ≡ filled (played (word_of periods) (word_of costs) n (up_to limit (word_of deadlines))) n old
        told_all deadlines old reports are more all =
            rw add-one at are
            ∙ filled_same (reported (word_of periods) (word_of costs) n (word_of deadlines) (suc t))
            (played (word_of periods) (word_of costs) n (up_to limit (word_of deadlines))) n old
            (λ p h. report_quiet (word_of periods) (word_of costs) n (word_of deadlines) tasks.cost_low few (suc t) limit p h
            (omega arith) more (is_over all))

      -- where the limit is reached, it stops too
      at_limit : limit ≤ t → t ≡ limit
      at_limit past = omega (arith, play.early)

      pub stops_late : limit ≤ t → (found : Option Place) → found ≡ place_or_none (next_place (word_of k.ready)) →
          PlayLeaves periods costs n limit first k limit found next
      unfolding ticks_played
      stops_late past found is =
          let nothing : first_from quiet 1 limit ≡ 0 = ap (first_from quiet 1) (sym (at_limit past)) ∙ play.busy in
          subst (λ (u : ℕ). PlayLeaves periods costs n limit first k u found next) (at_limit past)
          (record { ticks_are = rw nothing (at_limit past); state_is = play.holds; place_is = is ∙ ap (λ (ready : ℕ → ℕ). place_or_none (next_place ready)) same.ready })

      pub told_late : (deadlines old answers : List ℕ) → answers ≡ filled (reported (word_of periods) (word_of costs) n (word_of deadlines) t) n old →
          limit ≤ t → answers ≡ filled (played (word_of periods) (word_of costs) n (up_to limit (word_of deadlines))) n old
      told_late deadlines old answers are past =
          are
          ∙ filled_same (reported (word_of periods) (word_of costs) n (word_of deadlines) t)
          (played (word_of periods) (word_of costs) n (up_to limit (word_of deadlines))) n old
          (λ p h. report_all (word_of periods) (word_of costs) n (word_of deadlines) t limit p (at_limit past))

  -- before the first tick, in words that were set to 0
  pub told_none : (deadlines entry cleared : List ℕ) → n ≤ length entry → cleared ≡ filled none n entry →
      cleared ≡ filled (reported (word_of periods) (word_of costs) n (word_of deadlines) 0) n cleared
  told_none deadlines entry cleared room are =
      is_filled (reported (word_of periods) (word_of costs) n (word_of deadlines) 0) n cleared cleared
      (rw (are, length_filled none n entry room) room) refl
      (λ k h.
      filled_word none n entry cleared are k h
      ∙ sym (report_none (word_of periods) (word_of costs) n (word_of deadlines) k))
      (λ k h. refl)

-- words that were set to 0 are written over, all of them
pub told_over : (n : ℕ) (f : ℕ → ℕ) (entry cleared answers : List ℕ) → n ≤ length entry → cleared ≡ filled none n entry →
    answers ≡ filled f n cleared → answers ≡ filled f n entry
told_over n f entry cleared answers room over are = are ∙ ap (filled f n) over ∙ filled_again none f n entry room

-- and the slice keeps its length
pub told_long : (n : ℕ) (f : ℕ → ℕ) (cleared answers : List ℕ) → n ≤ length cleared → answers ≡ filled f n cleared →
    length answers ≡ length cleared
told_long n f cleared answers room are = ap length are ∙ length_filled f n cleared room

-- slices of zeros hold what the engine starts with
pub start_held : (n : ℕ) (left due : List ℕ) → n ≤ 256 → n ≤ length left → n ≤ length due → ((p : ℕ) → p < n → word_of left p ≡ 0) →
    ((p : ℕ) → p < n → word_of due p ≡ 0) → StartHeld n (kept left due (replicate 4 0) (replicate 4 0))
start_held n left due few left_long due_long no_work all_due =
    record {
      left_long = left_long;
      due_long = due_long;
      no_work = no_work;
      all_due = all_due;
      words = rw (length-replicate {A = ℕ} 4 0) (omega arith);
      no_bit = zero_word;
      nexts_long = rw (length-replicate {A = ℕ} 4 0) (omega arith);
      no_next = λ w h. zero_word w;
    }
  where
    zero_word : (w : ℕ) → word_of (replicate 4 0) w ≡ 0
    zero_word zero = refl
    zero_word (suc zero) = refl
    zero_word (suc (suc zero)) = refl
    zero_word (suc (suc (suc zero))) = refl
    zero_word (suc (suc (suc (suc w)))) = refl

-- words that are filled with 0 hold no answer
pub zeros_filled : (n : ℕ) (words zeros : List ℕ) → zeros ≡ replicate n 0 → zeros ++ drop n words ≡ filled none n words
zeros_filled n words zeros e = ap (λ (front : List ℕ). front ++ drop n words) (e ∙ sym (all n))
  where
    all : (m : ℕ) → tabulate none m ≡ replicate m 0
    all m =
        ext_get_or 0 (tabulate none m) (replicate m 0) (length_tabulate none m ∙ sym (length-replicate {A = ℕ} m 0))
        (λ k h. get_d_tabulate none m k 0 (omega (arith, length_tabulate none m)) ∙ sym (get_or-replicate m k 0 0 (omega (arith, length_tabulate none m))))
