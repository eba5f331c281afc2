-- The worked tables: one test, which the checker computes over the whole list, and the rule at each row of it.
-- Assumes nothing.
use Prim.Native.Nat.{ℕ}
use mathlib.Core.Path.{◌≡◌, refl}
use mathlib.Core.Bool.{Bool, true, false}
use mathlib.Core.List.{List, [], ◌∷◌}
use lib.Dec.{eqb}
use Rattle.model.specs.Choice.{both}
use Rattle.model.specs.Lists.{tabulate, gather, sum_of, largest_of}
use Rattle.model.specs.Search.{first_from}
use Rattle.model.proofs.Tests.{both_true, clash}
use Rattle.equation.specs.Demand.{demand}
use Rattle.equation.specs.Sequence.{term}
use Rattle.blocking.specs.Ceilings.{ceiling, blocking_of}
use borrow.Author.Tests.{eqb-true}
use Rattle.equation.specs.declared.Start.{Start}
use Rattle.equation.specs.declared.Start.TheVariants.{EveryCost, OwnCost}
use Rattle.response.specs.Analysis.{answer_of, rounds_of}
use Rattle.response.specs.Worked.{Said, nothing, says, Worked, worked_table, tasks_in, worked_tables, Gives, WorkedRight, EachRight, WorkedTablesRight}

-- are two lists the same, element by element?
unfoldable pub same_by : {A : Type 0} → (A → A → Bool) → List A → List A → Bool
same_by test [] [] = true
same_by test [] (y ∷ ys) = false
same_by test (x ∷ xs) [] = false
same_by test (x ∷ xs) (y ∷ ys) = both (test x y) (same_by test xs ys)

pub same_by_law : {A : Type 0} (test : A → A → Bool) → ((x y : A) → test x y ≡ true → x ≡ y) → (xs ys : List A) → same_by test xs ys ≡ true → xs ≡ ys
unfolding same_by
same_by_law test means [] [] p = refl
same_by_law test means [] (y ∷ ys) p = absurd (clash false p refl)
same_by_law test means (x ∷ xs) [] p = absurd (clash false p refl)
same_by_law test means (x ∷ xs) (y ∷ ys) p =
    let b = both_true (test x y) (same_by test xs ys) p in
    rw (means x y b.0, same_by_law test means xs ys b.1)

gives : (ℕ → ℕ) → ℕ → Said → Bool
gives f n nothing = true
gives f n (says words) = same_by eqb (tabulate f n) words

gives_means : (f : ℕ → ℕ) (n : ℕ) (said : Said) → gives f n said ≡ true → Gives f n said
unfolding gives
gives_means f n nothing p = tt
gives_means f n (says words) p = same_by_law eqb eqb-true (tabulate f n) words p

right_from : Worked → Start → Bool
right_from w start = gives (rounds_of start (worked_table w)) (tasks_in w) (w.rounds start)

right : Worked → Bool
right w =
    both (gives (blocking_of (worked_table w)) (tasks_in w) w.blocking)
    (both (gives (answer_of (worked_table w)) (tasks_in w) w.answers)
    (both (right_from w EveryCost) (right_from w OwnCost)))

right_means : (w : Worked) → right w ≡ true → WorkedRight w
unfolding right right_from
right_means w p =
    let a = both_true (gives (blocking_of (worked_table w)) (tasks_in w) w.blocking) _ p in
    let b = both_true (gives (answer_of (worked_table w)) (tasks_in w) w.answers) _ a.1 in
    let c = both_true (right_from w EveryCost) (right_from w OwnCost) b.1 in
    record {
      blocking_said = gives_means _ _ _ a.0;
      answers_said = gives_means _ _ _ b.0;
      rounds_said = from c.0 c.1;
    }
  where
    from : right_from w EveryCost ≡ true → right_from w OwnCost ≡ true →
        (start : Start) → Gives (rounds_of start (worked_table w)) (tasks_in w) (w.rounds start)
    from every own EveryCost = gives_means _ _ _ every
    from every own OwnCost = gives_means _ _ _ own

all_right : List Worked → Bool
all_right [] = true
all_right (w ∷ ws) = both (right w) (all_right ws)

each_right : (ws : List Worked) → all_right ws ≡ true → EachRight ws
unfolding all_right
each_right [] p = tt
each_right (w ∷ ws) p =
    let b = both_true (right w) (all_right ws) p in
    (right_means w b.0, each_right ws b.1)

computed : all_right worked_tables ≡ true
unfolding all_right right right_from gives same_by worked_tables tabulate gather sum_of largest_of first_from demand term ceiling blocking_of answer_of rounds_of
computed = refl

pub worked_tables_right : WorkedTablesRight
unfolding WorkedTablesRight
worked_tables_right = each_right worked_tables computed
