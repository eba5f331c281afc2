-- `worked::comparing::same_outcome` meets its contract: the numbers, the places and then the words decide.
-- Assumes nothing.
use Rattle.std.proofs.Common.{sym, ◌∙◌}
use borrow.Author.Tests.{eqb-true}
use Rattle.worked.proofs.WordLaws.{pointwise_is, words_decide}
use Rattle.worked.proofs.comparing.same_outcome.Goals as goal
use Rattle.worked.proofs.comparing.same_outcome.Goals.{then-code, else-code}

pub returns-then-place : goal.returns-then-place
returns-then-place c =
    elim c.if-code.branch [
      | then-code w ↦
          words_decide c.args.verdict c.args.other c.args.answers.now c.args.others.now _ _ c.code.ensures c.code-2.ensures w.if-code.true _ _
          w.place.ensures w.place-then-code.ensures c.eq.result
          (eqb-true _ _ (sym w.value-is ∙ c.if-place.true))
          (c.eq.ensures ∙ pointwise_is c.args.answers.now c.args.others.now)
      | else-code w ↦ absurd (w.if-code.false (eqb-true _ _ (sym w.value-is ∙ c.if-place.true)))
    ]
