-- From both starts the same answers, and from the default no more rounds.
-- Assumes nothing.
use Rattle.std.specs.Prelude.{Ok, Err}
use Prim.Native.Nat.{ℕ, ◌+◌, ◌-◌, ◌≤◌, ◌<◌}
use native.Mathlib.Omega.{arith}
use native.Mathlib.Decide.{dec_le}
use mathlib.Core.Path.{◌≡◌, refl, sym, ◌∙◌, ap}
use mathlib.Core.List.{List}
use lib.ListN.{length}
use Rattle.model.specs.Lists.{filled, word_of}
use Rattle.model.specs.Tables.{task_of, loads_of}
use Rattle.model.proofs.Lists.{get_d_filled, get_d_filled_past}
use Rattle.tables.specs.Refusals.{Check}
use Rattle.tables.specs.Layout.{task_count, tasks_of, table_of}
use Rattle.tables.specs.Checks.{table_check}
use Rattle.tables.specs.Meaning.{TableRight}
use Rattle.tables.proofs.CheckLaws.{table_right}
use Rattle.tables.proofs.LayoutLaws.{tasks_count}
use Rattle.equation.specs.declared.Start.{Start}
use Rattle.equation.specs.declared.Start.TheVariants.{EveryCost, OwnCost}
use Rattle.equation.specs.Laws.{IsSmallest}
use Rattle.equation.proofs.Laws.{sequence_reaches}
use Rattle.equation.proofs.StartLaws.{both_starts}
use Rattle.response.specs.Analysis.{base_of, start_of, answer_of, rounds_of}
use Rattle.response.specs.Outcome.{rounds_after}
use Rattle.response.specs.Statements.{x}
use Rattle.response.specs.Starts.{came_to, TwoStarts}
use Rattle.response.proofs.TableLaws.{tasks_fit_law, periods_of}
use Rattle.response.proofs.Demands.{answer_word, rounds_word}

-- never more, and at most one fewer
abbrev Fewer : ℕ → ℕ → Type 0
Fewer new old = (new ≤ old) × (old ≤ new + 1)

stayed : (word : ℕ) → Fewer word word
stayed word = (omega arith, omega arith)

module _ (bytes : List ℕ) (right : TableRight bytes) (i : ℕ) (h : i < task_count bytes) where
  base_positive : 1 ≤ base_of (table_of bytes) i
  base_positive = omega (arith, (tasks_fit_law bytes right.records).cost_low i (omega (arith, tasks_count bytes)))

  reached : (start : Start) (w : ℕ) → IsSmallest (base_of (table_of bytes) i) (loads_of (tasks_of bytes) i) w →
      (start_of start (table_of bytes) i ≤ w) × (x start (table_of bytes) i (w - start_of start (table_of bytes) i) ≡ w)
  reached start w s =
      let base = base_of (table_of bytes) i in
      let loads = loads_of (tasks_of bytes) i in
      let low = both_starts.not_above start base loads (periods_of bytes right.records i) w s.positive s.solution in
      (low, sequence_reaches.reaches base loads (start_of start (table_of bytes) i) w base_positive low s)

  -- the answer is what the sequence has come to in its last round
  followed : (start : Start) → answer_of (table_of bytes) i ≡ came_to start bytes i (rounds_of start (table_of bytes) i)
  unfolding answer_of rounds_of
  followed start =
      sym
      (both_starts.answers start (base_of (table_of bytes) i) (loads_of (tasks_of bytes) i)
      (task_of (tasks_of bytes) i).latest (task_of (tasks_of bytes) i).deadline base_positive (periods_of bytes right.records i))

  fewer : Fewer (rounds_of EveryCost (table_of bytes) i) (rounds_of OwnCost (table_of bytes) i)
  unfolding rounds_of
  fewer =
      let base = base_of (table_of bytes) i in
      let loads = loads_of (tasks_of bytes) i in
      let late = (task_of (tasks_of bytes) i).latest in
      let due = (task_of (tasks_of bytes) i).deadline in
      let periods = periods_of bytes right.records i in
      (both_starts.fewer base loads late due base_positive periods, both_starts.one_more base loads late due base_positive periods)

module _ (bytes answers rounds : List ℕ) where
  -- words of a task, and words that have stayed
  filled_fewer : TableRight bytes → (i : ℕ) →
      Fewer (word_of (filled (rounds_of EveryCost (table_of bytes)) (task_count bytes) rounds) i)
      (word_of (filled (rounds_of OwnCost (table_of bytes)) (task_count bytes) rounds) i)
  filled_fewer right i =
      elim (dec_le (task_count bytes) i) [
        | yes h ↦
            rw (
              get_d_filled_past (rounds_of EveryCost (table_of bytes)) (task_count bytes) i rounds 0 h,
              get_d_filled_past (rounds_of OwnCost (table_of bytes)) (task_count bytes) i rounds 0 h,
            )
            (stayed (word_of rounds i))
        | no h ↦
            let inside : i < task_count bytes = omega arith in
            rw (
              get_d_filled (rounds_of EveryCost (table_of bytes)) (task_count bytes) i rounds 0 inside,
              get_d_filled (rounds_of OwnCost (table_of bytes)) (task_count bytes) i rounds 0 inside,
            )
            (fewer bytes right i inside)
      ]

  words_fewer : (i : ℕ) → Fewer (word_of (rounds_after EveryCost bytes answers rounds) i) (word_of (rounds_after OwnCost bytes answers rounds) i)
  unfolding rounds_after
  words_fewer i = go (table_check bytes (length answers) (length rounds)) refl
    where
      go : (c : Check) → table_check bytes (length answers) (length rounds) ≡ c →
          Fewer (word_of (rounds_after EveryCost bytes answers rounds) i) (word_of (rounds_after OwnCost bytes answers rounds) i)
      go (Ok _) e = rw e (filled_fewer (table_right 1 bytes (length answers) (length rounds) e).0 i)
      go (Err r) e = rw e (stayed (word_of rounds i))

pub two_starts : TwoStarts
two_starts =
    record {
      same_answers = λ start other lent result another o p. (o.verdict_is ∙ sym p.verdict_is, o.answers_are ∙ sym p.answers_are);
      reached = λ start bytes right i w h s. reached bytes right i h start w s;
      followed = λ start lent result o accepted i h.
          answer_word start lent result o accepted i h
          ∙ followed lent.bytes accepted.right i h start
          ∙ ap (came_to start lent.bytes i) (sym (rounds_word start lent result o accepted i h));
      never_more = λ lent result old o p i.
          rw (o.rounds_are, p.rounds_are) (words_fewer lent.bytes lent.answers lent.rounds i);
    }
