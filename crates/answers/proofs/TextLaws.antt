-- The text of what the intake says at the end is that of what the analysis says of all the bytes that came.
-- Assumes nothing.
use Rattle.std.specs.Prelude.{Ok}
use Prim.Native.Nat.{ℕ, ◌≤◌}
use mathlib.Core.Path.{◌≡◌, refl, sym, ◌∙◌, ap}
use mathlib.Core.List.{List}
use lib.ListN.{length}
use Rattle.equation.specs.declared.Start.TheVariants.{EveryCost}
use Rattle.answering.specs.declared.Verdict.{Verdict}
use Rattle.response.specs.Outcome.{verdict_of, lending, leaving, Outcome}
use Rattle.printing.specs.Appended.{Appended}
use Rattle.printing.specs.Text.{text_of}
use Rattle.printing.specs.Answered.{zeros, answer_text}
use Rattle.printing.specs.Longest.{longest}
use Rattle.printing.proofs.AppendLaws.{as_text}
use Rattle.printing.proofs.AnsweredLaws.{text_of_outcome, text_of_first_bytes}
use Rattle.printing.proofs.LongestLaws.{text_whole}
use Rattle.intake.specs.Intake.{Ended, State, condition_of, bytes_in, Ends}
use Rattle.answers.specs.Input.{PrintsAll}

module _ {state : State} {ended : Ended} {fill : ℕ} {answers rounds : List ℕ} (ready : condition_of state ≡ Ok tt)
    (e : Ends state zeros zeros ended fill answers rounds) where
  answered : ended ≡ Ok (verdict_of (bytes_in state) 200 200)
  answered = e.answered.ended_is ∙ rw ready refl

  pub prints : {verdict : Verdict} {old new : List ℕ} {end : ℕ} → ended ≡ Ok verdict → longest ≤ length old →
      Appended old 0 (text_of (bytes_in state) verdict answers rounds) end new → PrintsAll state old end new
  prints {verdict} {old} {new} {end} is room a =
      let outcome : Outcome EveryCost (lending (bytes_in state) zeros zeros) (leaving verdict answers rounds) =
      record {
        verdict_is = (let same : Ok verdict ≡ Ok (verdict_of (bytes_in state) 200 200) = sym is ∙ answered in cc);
        answers_are = e.answered.answers_are ∙ rw ready refl;
        rounds_are = e.answered.rounds_are ∙ rw ready refl;
      }
      in
      λ bytes k.
      text_whole EveryCost bytes old end new room
      (as_text a
      (text_of_outcome EveryCost (bytes_in state) (leaving verdict answers rounds) outcome
      ∙ ap (answer_text EveryCost) k.kept
      ∙ text_of_first_bytes EveryCost bytes))
