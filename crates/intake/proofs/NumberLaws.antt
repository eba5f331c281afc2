-- The numbers that C gets.
-- Assumes nothing.
use Rattle.std.specs.Prelude.{Ok, Err}
use Prim.Native.Nat.{ℕ, ◌<◌}
use native.Mathlib.Omega.{arith}
use mathlib.Core.Path.{refl, sym, subst}
use mathlib.Core.Logic.{◌≢◌}
use mathlib.Core.List.{List}
use lib.ListN.{length}
use Rattle.answering.specs.declared.Verdict.{Verdict}
use Rattle.answering.specs.declared.Verdict.TheVariants as verdict
use Rattle.response.specs.Verdicts.{code_of, verdict_place}
use Rattle.response.specs.Outcome.{verdict_of}
use Rattle.response.proofs.PlaceLaws.{verdict_place_law}
use Rattle.printing.proofs.LongestLaws.{number_small}
use Rattle.intake.specs.Intake.{Condition, Ended, State, condition_of, Ends, bytes_in, ended_for}
use Rattle.intake.specs.Numbers.{ended_place, CodesDrawn}

-- no place is far on
place_for : (condition : Condition) (verdict : Verdict) → verdict_place verdict < 65536 → ended_place (ended_for condition verdict) < 65536
place_for (Ok fit) verdict h = h
place_for (Err why) verdict h = omega arith

module _ {state : State} {answers rounds : List ℕ} {ended : Ended} {fill : ℕ} {answers_now rounds_now : List ℕ}
    (e : Ends state answers rounds ended fill answers_now rounds_now) where
  pub ended_place_law : ended_place ended < 65536
  ended_place_law =
      subst (λ (x : Ended). ended_place x < 65536) (sym e.answered.ended_is)
      (place_for (condition_of state) (verdict_of (bytes_in state) (length answers) (length rounds))
      (verdict_place_law (bytes_in state) (length answers) (length rounds)))

own : (verdict : Verdict) → (code_of verdict ≢ 252) × (code_of verdict ≢ 253)
own (verdict.Refused refusal) = (λ e. omega (arith, e, number_small refusal), λ e. omega (arith, e, number_small refusal))
own verdict.Schedulable = (λ e. omega (arith, e), λ e. omega (arith, e))
own (verdict.Late place) = (λ e. omega (arith, e), λ e. omega (arith, e))

pub codes_drawn : CodesDrawn
codes_drawn = record { ready = refl; short = refl; wrong = refl; own = own }
