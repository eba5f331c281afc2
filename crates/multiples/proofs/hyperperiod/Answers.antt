-- `multiples::hyperperiod` meets its contract: each turn joins the period of one task more.
-- Assumes nothing.
use Rattle.std.proofs.Common.{rules, sym, ◌∙◌, arith}
use borrow.Author.Tests.{ltb-true, ltb-false}
use Rattle.std.proofs.lemmas.List.{length_push}
use Rattle.tables.proofs.WalkLaws.{turn, some_bytes, walking_first, found_long, period_is, period_within}
use Rattle.multiples.proofs.JoinLaws.{joining_first, joining_all, joining_over, joining_more}
use Rattle.multiples.proofs.hyperperiod.Goals as goal

pub chunks_exact-requires : goal.chunks_exact-requires
chunks_exact-requires c = some_bytes c.requires c.of-layout.ensures

pub loop-record-init : goal.loop-record-init
loop-record-init c =
    let some = some_bytes c.requires c.of-layout.ensures in (
      search rules,
      tt,
      joining_first
          (walking_first c.requires c.of-layout.ensures (cc) (cc)
          (rw (c.into_iter-record-iterator.ensures.into_iter_gives, c.take-record-items.ensures.source) c.chunks_exact.ensures.rest)),
    )

pub word-requires : goal.word-requires
word-requires c = omega (arith, found_long c.loop-record.invariant.2.walk (turn c.in-Some.ensures.steps))

pub joined-common-requires-clause-le_period : goal.joined-common-requires-clause-le_period
joined-common-requires-clause-le_period c =
    let t = turn c.in-Some.ensures.steps in
    omega (arith, period_is c.loop-record.invariant.2.walk t c.word.ensures, period_within c.loop-record.invariant.2.walk t)

pub returns-then-is_over : goal.returns-then-is_over
returns-then-is_over c =
    joining_over c.loop-record.invariant.2 (turn c.in-Some.ensures.steps) c.word.ensures c.joined-common.ensures
    (ltb-true _ _ (sym c.is_over.ensures ∙ c.if-is_over.true))

pub loop-record-preserved : goal.loop-record-preserved
loop-record-preserved c = (
  search rules,
  tt,
  joining_more c.loop-record.invariant.2 (turn c.in-Some.ensures.steps) c.word.ensures c.joined-common.ensures (length_push _ _)
      (ltb-false _ _ (sym c.is_over.ensures ∙ c.if-is_over.false)),
)

pub returns : goal.returns
returns c = joining_all c.loop-record.invariant.2 (λ some. (c.in-None.ensures.steps some).1.0)
