-- One turn of the search over q: what is known before it, and the ways in which it goes on.
-- Assumes nothing.
use Prim.Native.Nat.{ℕ, ◌+◌, ◌*◌, ◌-◌, ◌≤◌, ◌<◌, max}
use native.Mathlib.Omega.{arith}
use native.Mathlib.Decide.{ℕ_discrete}
use mathlib.Core.Path.{◌≡◌, refl, sym, ◌∙◌, ap, subst}
use mathlib.Core.Bool.{Bool, true, false}
use mathlib.Core.List.{List}
use lib.Dec.{eqb, leb}
use lib.ListN.{length, set}
use borrow.Author.Tests.{leb-true}
use Rattle.model.specs.Choice.{both}
use Rattle.model.specs.Lists.{largest_to, filled}
use Rattle.model.proofs.Tests.{both_true}
use Rattle.model.proofs.Lists.{largest_more, largest_none}
use Rattle.model.specs.Tables.{open_word}
use Rattle.equation.specs.Laws.{IsSmallest, NotAbove}
use Rattle.equation.specs.Slices.{loads, LoadsFit}
use Rattle.equation.proofs.Laws.{raised_not_above}
use Rattle.marks.specs.Marks.{raise, first_mark_for, PeriodsHigh}
use Rattle.marks.specs.Invariant.{Right}
use Rattle.solver.specs.Solver.{Solvable, SolvedBy, Followable, FollowedBy}
use Rattle.solver.proofs.RoundLaws.{right_raised, solved_at_once, may_follow}
use Rattle.jobs.specs.Overlaps.{Studied, base_at, limit_at, window_at, response_at, ends_at}
use Rattle.jobs.specs.Slices.{studied_from, StudiedFits, LongestBy, Beginnable, Searchable}
use Rattle.jobs.proofs.SearchLaws.{Going, window_is, start_past, solved_late, solved_found, response_is, goes_on, late_by, stopped_by, open_by}

module _ (periods costs spreads : List ℕ) (own count blocked cost period deadline : ℕ) where
  abbrev subject : Studied
  subject = studied_from periods costs spreads own count blocked cost period deadline

  -- Before q is tried: none before it has ended it; the numbers that go along are those of q; and `x`, which is the sum, is above no w(q).
  pub record Trying (ahead q base x passed limit largest : ℕ) (marks : List ℕ) (least : ℕ) : Type 0 where
    pub fit : LoadsFit periods costs spreads count
    pub period_high : PeriodsHigh periods count
    pub numbers : StudiedFits subject
    pub ahead_high : ahead ≤ 1000000
    pub few : q ≤ 64
    pub going : Going subject q
    pub base_is : base ≡ base_at subject q
    pub passed_is : passed ≡ q * period
    pub passed_high : passed ≤ 1000000 * q
    pub limit_is : limit ≡ limit_at subject q
    pub limit_high : limit ≤ 1000000 * q + 1000000
    pub base_high : base ≤ 1000000 * q + 2000000
    pub largest_is : largest ≡ largest_to (response_at subject) q
    pub largest_high : largest ≤ 1000000
    pub above : passed < x
    pub x_high : x ≤ 1000000000
    pub not_above : NotAbove base (loads periods costs spreads own count) x
    pub right : Right periods costs spreads own count base x marks x least

  -- what q = 0 has for a base and a limit
  first_base : cost + blocked ≡ base_at subject 0
  first_base = omega arith

  first_limit : deadline ≡ limit_at subject 0
  first_limit = omega arith

  -- none is before q = 0
  none_before : Going subject 0
  none_before p h = absurd (omega arith)

  pub trying_first : (start ahead : ℕ) (marks : List ℕ) (least : ℕ) →
      Searchable periods costs spreads own count subject start ahead marks least →
      Trying ahead 0 (cost + blocked) start 0 deadline 0 marks least
  trying_first start ahead marks least a =
      record {
        fit = a.fit;
        period_high = a.period_high;
        numbers = a.numbers;
        ahead_high = a.ahead_high;
        few = omega arith;
        going = none_before;
        base_is = first_base;
        passed_is = omega arith;
        passed_high = omega arith;
        limit_is = first_limit;
        limit_high = omega (arith, a.numbers.deadline_high);
        base_high = omega (arith, a.numbers.blocking_high, a.numbers.cost_high);
        largest_is = sym (largest_none (response_at subject));
        largest_high = omega arith;
        above = a.start_low;
        x_high = a.start_high;
        not_above = a.not_above;
        right = a.right;
      }

  -- before any mark is set
  module _ (others least : ℕ) (a : Beginnable periods costs spreads own count subject others least) where
    -- the first term is late
    pub begin_late : deadline < cost + blocked + others → LongestBy subject 0 1
    begin_late h =
        late_by subject 0 (omega arith) none_before
        (start_past subject 0 (cost + blocked + others)
        (subst (λ (b : ℕ). NotAbove b (loads periods costs spreads own count) (cost + blocked + others)) first_base a.not_above)
        (omega (arith, first_limit)))

    module _ (in_time : cost + blocked + others ≤ deadline) where
      asked : Solvable (cost + blocked) (loads periods costs spreads own count) (cost + blocked + others) 0 deadline
      asked =
          record {
            base_positive = omega (arith, a.numbers.cost_low);
            not_above = a.not_above;
            start_high = a.begun.once_high;
            late_high = omega arith;
            deadline_high = omega (arith, a.numbers.deadline_high);
          }

      -- it has passed no mark, and so is within the period
      pub begin_found : (ends : Bool) →
          ends ≡ both (eqb (cost + blocked + others) (cost + blocked + others)) (leb (cost + blocked + others + raise) least) → ends ≡ true →
          LongestBy subject (cost + blocked + others) 1
      begin_found ends e taken =
          let once = cost + blocked + others in
          let low = leb-true (once + raise) least (both_true (eqb once once) (leb (once + raise) least) (sym e ∙ taken)).1 in
          let solved = solved_at_once periods costs spreads own count (cost + blocked) a.fit others once least 0 deadline a.begun asked (omega arith) ends e taken in
          let found =
          solved_found subject 0 once once 1
          (subst (λ (b : ℕ). SolvedBy b (loads periods costs spreads own count) once 0 (limit_at subject 0) false (once + 0) 1) first_base
          (subst (λ (l : ℕ). SolvedBy (cost + blocked) (loads periods costs spreads own count) once 0 l false (once + 0) 1) first_limit solved)) in
          let window = window_is subject 0 once found.0 found.1 in
          let response = response_is subject 0 once window in
          stopped_by subject 0 (omega arith) none_before (omega (arith, window, found.0.positive)) (omega (arith, response, low, a.least_own)) once
          (omega (arith, response, largest_more (response_at subject) 0, largest_none (response_at subject)))

      -- else the first marks are set
      pub begin_search : (old marks : List ℕ) (ahead : ℕ) → count < length old → ahead ≡ least - raise →
          marks ≡ set (filled (first_mark_for periods spreads own) count old) count 0 →
          Searchable periods costs spreads own count subject (cost + blocked + others) ahead marks least
      begin_search old marks ahead room near e =
          let first =
          may_follow periods costs spreads own count (cost + blocked) a.fit old marks others (cost + blocked + others) least 0 deadline ahead room
          a.begun asked (omega arith) near e in
          record {
            fit = a.fit;
            period_high = a.begun.period_high;
            numbers = a.numbers;
            start_low = a.begun.start_low;
            start_high = a.begun.once_high;
            not_above = a.not_above;
            right = first.right;
            ahead_high = first.ahead_high;
          }

  module _ (ahead q base x passed limit largest : ℕ) (marks : List ℕ) (least : ℕ) (t : Trying ahead q base x passed limit largest marks least) where
    base_low : 1 ≤ base
    base_low = omega (arith, t.base_is, t.numbers.cost_low)

    -- the term to go on from is late already
    pub turn_past : q < 64 → limit < x → LongestBy subject 0 (q + 1)
    turn_past h late =
        late_by subject q h t.going
        (start_past subject q x (subst (λ (b : ℕ). NotAbove b (loads periods costs spreads own count) x) t.base_is t.not_above) (omega (arith, t.limit_is)))

    pub may_try : q < 64 → x ≤ limit → Followable periods costs spreads own count base x 0 limit ahead marks x least
    may_try h in_time =
        record {
          fit = t.fit;
          asked =
              record {
                base_positive = base_low;
                not_above = t.not_above;
                start_high = t.x_high;
                late_high = omega arith;
                deadline_high = omega (arith, t.limit_high);
              };
          in_time = omega arith;
          right = t.right;
          sum_high = t.x_high;
          period_high = t.period_high;
          ahead_high = t.ahead_high;
        }

    -- the sequence is late
    pub turn_late : q < 64 → (window spent : ℕ) (after : List ℕ) (new_least : ℕ) →
        FollowedBy periods costs spreads own count base x 0 limit true window spent after new_least → LongestBy subject 0 (q + 1)
    turn_late h window spent after new_least followed =
        late_by subject q h t.going (solved_late subject q x 0 spent (rw (t.base_is, t.limit_is) at followed.solved))

    module _ (window spent : ℕ) (after : List ℕ) (new_least : ℕ)
        (followed : FollowedBy periods costs spreads own count base x 0 limit false window spent after new_least) where
      found : IsSmallest (base_at subject q) (loads periods costs spreads own count) window × (window ≤ limit_at subject q)
      found = solved_found subject q x window spent (rw (t.base_is, t.limit_is) at followed.solved)

      small : IsSmallest base (loads periods costs spreads own count) window
      small = subst (λ (b : ℕ). IsSmallest b (loads periods costs spreads own count) window) (sym t.base_is) found.0

      -- it is not before the term that it was gone on from, and so behind the q periods
      pub window_low : passed < window
      window_low = omega (arith, t.above, t.not_above window small.positive small.solution)

      pub window_fits : window ≤ limit
      window_fits = omega (arith, found.1, t.limit_is)

      window_found : window_at subject q ≡ window
      window_found = window_is subject q window found.0 found.1

      response_found : response_at subject q ≡ window - passed
      response_found = response_is subject q window window_found ∙ ap (λ (n : ℕ). window - n) (sym t.passed_is)

      module _ (new_largest : ℕ) (raised : new_largest ≡ max largest (window - passed)) where
        largest_now : new_largest ≡ largest_to (response_at subject) (q + 1)
        largest_now = omega (arith, raised, t.largest_is, response_found, largest_more (response_at subject) q)

        -- no R(q) up to here is past the deadline
        pub new_high : new_largest ≤ 1000000
        new_high = omega (arith, raised, t.largest_high, window_fits, t.limit_is, t.passed_is, t.numbers.deadline_high)

        pub new_low : 1 ≤ new_largest
        new_low = omega (arith, raised, window_low)

        -- "stop at the first R(q) ≤ T"
        pub turn_stops : q < 64 → window - passed ≤ period → LongestBy subject new_largest (q + 1)
        turn_stops h low =
            stopped_by subject q h t.going (omega (arith, window_found, window_low)) (omega (arith, response_found)) new_largest largest_now

        -- or go on to the next q: the numbers that go along are raised, and the marks stay
        pub turn_on : q < 64 → period < window - passed → (next_base next_x next_passed next_limit : ℕ) → next_base ≡ base + cost → next_x ≡ window + cost →
            next_passed ≡ passed + period → next_limit ≡ limit + period →
            Trying ahead (q + 1) next_base next_x next_passed next_limit new_largest after new_least
        turn_on h above next_base next_x next_passed next_limit base_raised x_raised passed_raised limit_raised =
            record {
              fit = t.fit;
              period_high = t.period_high;
              numbers = t.numbers;
              ahead_high = t.ahead_high;
              few = omega arith;
              going = λ p l.
                  elim (ℕ_discrete p q) [
                    | yes e ↦
                        subst (λ (n : ℕ). ends_at subject n ≡ false) (sym e)
                        (goes_on subject q (omega (arith, window_found, window_low)) (omega (arith, response_found)))
                    | no e ↦ t.going p (omega arith)
                  ];
              base_is = omega (arith, base_raised, t.base_is);
              passed_is = omega (arith, passed_raised, t.passed_is);
              passed_high = omega (arith, passed_raised, t.passed_high, t.numbers.period_high);
              limit_is = omega (arith, limit_raised, t.limit_is);
              limit_high = omega (arith, limit_raised, t.limit_high, t.numbers.period_high);
              base_high = omega (arith, base_raised, t.base_high, t.numbers.cost_high);
              largest_is = largest_now;
              largest_high = new_high;
              above = omega (arith, passed_raised, x_raised);
              x_high = omega (arith, x_raised, window_fits, t.limit_high, t.numbers.cost_high);
              not_above = rw (base_raised, x_raised) (raised_not_above base (loads periods costs spreads own count) cost window base_low small);
              right = rw (base_raised, x_raised) (right_raised periods costs spreads own count base cost window after new_least (followed.held refl));
            }

    -- no q is left
    pub turn_open : 64 ≤ q → LongestBy subject open_word 64
    turn_open h =
        let all : q ≡ 64 = omega (arith, t.few) in
        open_by subject (subst (Going subject) all t.going)
