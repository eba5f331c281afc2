-- The marks over lent slices, from round to round: what is known before each round, and that the sum is then the next term.
-- Assumes nothing.
use Prim.Native.Nat.{ℕ, ◌+◌, ◌-◌, ◌≤◌, ◌<◌}
use native.Mathlib.Omega.{arith}
use native.Mathlib.Decide.{dec_le}
use mathlib.Core.Path.{◌≡◌, refl, sym, ◌∙◌, ap, subst}
use mathlib.Core.Bool.{Bool, true, false}
use mathlib.Core.List.{List}
use lib.Dec.{eqb, leb}
use lib.ListN.{length, set, length-set}
use lib.Seq.{get_or-set_same, get_or-set_other}
use borrow.Author.Tests.{eqb-true, leb-true}
use Rattle.model.specs.Choice.{both}
use Rattle.model.specs.Lists.{filled, sum_of, total, word_of}
use Rattle.model.specs.Tables.{is_other}
use Rattle.model.proofs.Filling.{filled_word}
use Rattle.model.proofs.Lists.{get_d_filled, get_d_filled_past, length_filled}
use Rattle.model.proofs.Tests.{both_true, clash}
use Rattle.equation.specs.Demand.{demand}
use Rattle.equation.specs.Laws.{cost_of}
use Rattle.equation.specs.Slices.{loads, LoadsFit}
use Rattle.solver.specs.Solver.{Solvable, SolvedBy, Followable, FollowedBy}
use Rattle.marks.specs.Invariant.{InLimits, Marked, NonePassed, places, Right}
use Rattle.marks.specs.Marks.{raise, first_mark_for, moved_at, more_at, PeriodsHigh, Markable, Passable, Passed, Advanced, Begun}
use Rattle.marks.proofs.PassLaws.{least_low_law}
use Rattle.marks.proofs.MarkLaws.{marks_right}
use Rattle.solver.proofs.SolverLaws.{Turn, turn_first, turn_late, turn_found, turn_on, gained}

-- loads within the limits can be marked
pub markable : {periods costs spreads : List ℕ} {count : ℕ} → LoadsFit periods costs spreads count → PeriodsHigh periods count → Markable periods spreads count
markable fit tall =
    record {
      few = fit.few;
      periods_long = fit.periods_long;
      spreads_long = fit.spreads_long;
      period_high = tall;
      spread_high = λ k h. (fit.each k h).spread_high;
    }

module _ (periods costs spreads : List ℕ) (own count base : ℕ) where
  -- what is known before each round
  pub record Before (start late deadline x rounds : ℕ) (marks : List ℕ) (sum least : ℕ) : Type 0 where
    pub turn : Turn base (loads periods costs spreads own count) start late deadline x rounds
    pub right : Right periods costs spreads own count base x marks sum least
    pub sum_high : sum ≤ 1000000000
    pub period_high : PeriodsHigh periods count

  -- As much more asked for as ticks more have come: the marks are right as they stand.
  pub right_raised : (more w : ℕ) (marks : List ℕ) (least : ℕ) → Right periods costs spreads own count base w marks w least →
      Right periods costs spreads own count (base + more) (w + more) marks (w + more) least
  right_raised more w marks least r =
      let later = marks_right.later (places periods costs spreads own count base) w (w + more) (word_of marks) w (omega arith) r.marked in
      record {
        marked =
            record {
              counts = later.counts;
              held = later.held;
              not_beyond = later.not_beyond;
              other = later.other;
              summed = omega (arith, later.summed);
            };
        under = r.under;
        end = r.end;
        room = r.room;
      }

  pub before_first : (start late deadline ahead : ℕ) (marks : List ℕ) (sum least : ℕ) →
      Followable periods costs spreads own count base start late deadline ahead marks sum least → Before start late deadline start 1 marks sum least
  before_first start late deadline ahead marks sum least f =
      record {
        turn = turn_first base (loads periods costs spreads own count) start late deadline f.asked f.in_time;
        right = f.right;
        sum_high = f.sum_high;
        period_high = f.period_high;
      }

  module _ (fit : LoadsFit periods costs spreads count) where
    limits : InLimits (places periods costs spreads own count base)
    limits = record { period_low = λ k h. (fit.each k h).period_low; spread_high = λ k h. (fit.each k h).spread_high }

    -- no first mark is below the least, and the own one is not either
    first_low : (others start least : ℕ) → Begun periods spreads count (loads periods costs spreads own count) base others start least →
        (k : ℕ) → k < count → (t : Bool) → is_other own k ≡ t → least ≤ first_mark_for periods spreads own k
    first_low others start least b k h true t = rw t (b.least_low k h)
    first_low others start least b k h false t = rw t (omega (arith, b.least_low k h, b.period_high k h))

    -- the first marks
    pub right_first : (old marks : List ℕ) (others start least : ℕ) → count < length old →
        Begun periods spreads count (loads periods costs spreads own count) base others start least →
        marks ≡ set (filled (first_mark_for periods spreads own) count old) count 0 →
        Right periods costs spreads own count base start marks (base + others) least
    right_first old marks others start least room b e =
        record {
          marked =
              rw b.others_are
              (marks_right.first (places periods costs spreads own count base) limits start (word_of marks) b.start_low
              (record { loads = λ k h t. word k h ∙ rw t refl; others = λ k h t. word k h ∙ rw t refl }));
          under = λ k h. rw (word k h) (first_low others start least b k h (is_other own k) refl);
          end = rw e (get_or-set_same (filled (first_mark_for periods spreads own) count old) count 0 0 (omega (arith, long)));
          room = rw e (omega (arith, length-set (filled (first_mark_for periods spreads own) count old) count 0, long));
        }
      where
        long : length (filled (first_mark_for periods spreads own) count old) ≡ length old
        long = length_filled (first_mark_for periods spreads own) count old (omega arith)

        word : (k : ℕ) → k < count → word_of marks k ≡ first_mark_for periods spreads own k
        word k h =
            rw e
            (get_or-set_other (filled (first_mark_for periods spreads own) count old) count k 0 0 (omega arith)
            ∙ get_d_filled (first_mark_for periods spreads own) count k old 0 h)

    -- where the start has passed no first mark, each load asks for one cost
    once_sum : (others start least : ℕ) → Begun periods spreads count (loads periods costs spreads own count) base others start least →
        start + raise ≤ least → base + others ≡ demand base (loads periods costs spreads own count) start
    once_sum others start least b h =
        rw b.others_are
        (marks_right.exact (places periods costs spreads own count base) limits start (first_mark_for periods spreads own)
        (base + sum_of cost_of (loads periods costs spreads own count))
        (marks_right.first (places periods costs spreads own count base) limits start (first_mark_for periods spreads own) b.start_low
        (record { loads = λ k l t. rw t refl; others = λ k l t. rw t refl }))
        (λ k l. omega (arith, first_low others start least b k l (is_other own k) refl)))

    pub right_later : (v x : ℕ) (marks : List ℕ) (sum least : ℕ) → v ≤ x → Right periods costs spreads own count base v marks sum least → Right periods costs spreads own count base x marks sum least
    right_later v x marks sum least h r =
        record {
          marked = marks_right.later (places periods costs spreads own count base) v x (word_of marks) sum h r.marked;
          under = r.under;
          end = r.end;
          room = r.room;
        }

    pub may_pass : PeriodsHigh periods count → (x : ℕ) (marks : List ℕ) (sum least : ℕ) → Right periods costs spreads own count base x marks sum least → x ≤ 1000000000 → sum ≤ 1000000000 →
        (ahead : ℕ) → ahead ≤ 1000000 → Passable periods costs marks count (x + raise) ahead sum
    may_pass tall x marks sum least r h s ahead near =
        record {
          few = fit.few;
          periods_long = fit.periods_long;
          costs_long = fit.costs_long;
          marks_long = r.room;
          period_low = limits.period_low;
          period_high = tall;
          cost_high = λ k l. (fit.each k l).cost_high;
          end = r.end;
          w_low = omega arith;
          w_high = omega arith;
          ahead_high = near;
          sum_high = s;
        }

    -- where x has passed no mark, the sum is the next term
    right_sum : (x : ℕ) (marks : List ℕ) (sum least : ℕ) → Right periods costs spreads own count base x marks sum least → NonePassed (places periods costs spreads own count base) x (word_of marks) →
        sum ≡ demand base (loads periods costs spreads own count) x
    right_sum x marks sum least r none =
        marks_right.exact (places periods costs spreads own count base) limits x (word_of marks) sum r.marked none

    module _ (x ahead : ℕ) (marks : List ℕ) (sum least : ℕ) (r : Right periods costs spreads own count base x marks sum least) (h : x ≤ 1000000000) (after : List ℕ) (new_sum new_least : ℕ) where
      module _ (p : Passed periods costs marks count (x + raise) ahead sum after new_sum new_least) where
        word : (k : ℕ) → k < count → word_of after k ≡ moved_at periods marks (x + raise) k
        word k l = filled_word (moved_at periods marks (x + raise)) count marks after p.marks_are k l

        passed : Marked (places periods costs spreads own count base) x (word_of after) (sum + total (more_at periods costs marks (x + raise)) count)
            × NonePassed (places periods costs spreads own count base) x (word_of after)
        passed = marks_right.passed (places periods costs spreads own count base) limits x (word_of marks) (word_of after) sum (omega arith) r.marked word

        passed_right : Right periods costs spreads own count base x after new_sum new_least
        passed_right =
            record {
              marked = rw p.sum_is passed.0;
              under = λ k l. omega (arith, word k l, p.least_is, least_low_law (x + raise + ahead) (moved_at periods marks (x + raise)) count k l);
              end = rw p.marks_are (get_d_filled_past (moved_at periods marks (x + raise)) count count marks 0 (omega arith) ∙ r.end);
              room = rw p.marks_are (omega (arith, length_filled (moved_at periods marks (x + raise)) count marks (omega (arith, r.room)), r.room));
            }

      -- after a round's look at the marks
      pub advanced_right : Advanced periods costs marks count (x + raise) ahead sum least after new_sum new_least →
          Right periods costs spreads own count base x after new_sum new_least × (new_sum ≡ demand base (loads periods costs spreads own count) x)
      advanced_right a =
          elim (dec_le (x + raise) least) [
            | yes l ↦
                let s = a.stays l in
                let same : Right periods costs spreads own count base x after new_sum new_least = rw (s.0, s.1, s.2) r in
                (same, right_sum x after new_sum new_least same (λ k m. omega (arith, ap (λ (ms : List ℕ). word_of ms k) s.0, r.under k m)))
            | no l ↦
                let p = a.passes (omega arith) in
                (passed_right p, right_sum x after new_sum new_least (passed_right p) (passed p).1)
          ]

    -- The start is the answer where it is one cost of everything and has passed no mark.
    pub solved_at_once : (others start least late deadline : ℕ) →
        Begun periods spreads count (loads periods costs spreads own count) base others start least →
        Solvable base (loads periods costs spreads own count) start late deadline → start + late ≤ deadline →
        (ends : Bool) → ends ≡ both (eqb start (base + others)) (leb (start + raise) least) → ends ≡ true →
        SolvedBy base (loads periods costs spreads own count) start late deadline false (base + others + late) 1
    solved_at_once others start least late deadline b a h ends e taken =
        let tests = both_true (eqb start (base + others)) (leb (start + raise) least) (sym e ∙ taken) in
        let same = eqb-true start (base + others) tests.0 in
        let next = once_sum others start least b (leb-true (start + raise) least tests.1) in
        subst (λ (n : ℕ). SolvedBy base (loads periods costs spreads own count) start late deadline false (n + late) 1) same
        (turn_found base (loads periods costs spreads own count) start late deadline start 1
        (turn_first base (loads periods costs spreads own count) start late deadline a h) (base + others) next (sym same))

    -- the first marks are right for the start
    pub may_follow : (old marks : List ℕ) (others start least late deadline ahead : ℕ) → count < length old →
        Begun periods spreads count (loads periods costs spreads own count) base others start least →
        Solvable base (loads periods costs spreads own count) start late deadline → start + late ≤ deadline → ahead ≡ least - raise →
        marks ≡ set (filled (first_mark_for periods spreads own) count old) count 0 →
        Followable periods costs spreads own count base start late deadline ahead marks (base + others) least
    may_follow old marks others start least late deadline ahead room b a h near e =
        record {
          fit = fit;
          asked = a;
          in_time = h;
          right = right_first old marks others start least room b e;
          sum_high = b.once_high;
          period_high = b.period_high;
          ahead_high = omega (arith, near, b.least_high);
        }

    module _ (start late deadline x rounds : ℕ) (marks : List ℕ) (sum least : ℕ) (t : Before start late deadline x rounds marks sum least) where
      pub x_high : x ≤ 100000000
      x_high = omega (arith, t.turn.in_time, t.turn.asked.deadline_high)

      pub may_advance : (ahead : ℕ) → ahead ≤ 1000000 → Passable periods costs marks count (x + raise) ahead sum
      may_advance = may_pass t.period_high x marks sum least t.right (omega (arith, x_high)) t.sum_high

      module _ (ahead : ℕ) (after : List ℕ) (new_sum new_least : ℕ)
          (a : Advanced periods costs marks count (x + raise) ahead sum least after new_sum new_least) where
        pub next_is : new_sum ≡ demand base (loads periods costs spreads own count) x
        next_is = (advanced_right x ahead marks sum least t.right (omega (arith, x_high)) after new_sum new_least a).1

        pub before_next : (new_sum ≡ x → ⊥) → new_sum + late ≤ deadline → Before start late deadline new_sum (rounds + 1) after new_sum new_least
        before_next differs h =
            record {
              turn = turn_on base (loads periods costs spreads own count) start late deadline x rounds t.turn new_sum next_is differs h;
              right =
                  right_later x new_sum after new_sum new_least
                  (omega (arith, gained base (loads periods costs spreads own count) start late deadline x rounds t.turn new_sum next_is differs))
                  (advanced_right x ahead marks sum least t.right (omega (arith, x_high)) after new_sum new_least a).0;
              sum_high = omega (arith, t.turn.asked.deadline_high);
              period_high = t.period_high;
            }

        -- the sequence is late
        pub followed_late : deadline < new_sum + late →
            FollowedBy periods costs spreads own count base start late deadline true 0 rounds after new_least
        followed_late h =
            record {
              solved = turn_late base (loads periods costs spreads own count) start late deadline x rounds t.turn new_sum next_is h;
              within = omega (arith, t.turn.in_time);
              held = λ e. absurd (clash true refl e);
            }

        -- or has come to its end, for which the marks are right
        pub followed_found : new_sum ≡ x → FollowedBy periods costs spreads own count base start late deadline false x rounds after new_least
        followed_found same =
            record {
              solved = turn_found base (loads periods costs spreads own count) start late deadline x rounds t.turn new_sum next_is same;
              within = t.turn.in_time;
              held = λ e.
                  subst (λ (n : ℕ). Right periods costs spreads own count base x after n new_least) same
                  (advanced_right x ahead marks sum least t.right (omega (arith, x_high)) after new_sum new_least a).0;
            }
