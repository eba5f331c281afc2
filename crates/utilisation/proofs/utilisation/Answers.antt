-- `utilisation::utilisation` meets its contract: each turn adds the share of one task more.
-- Assumes nothing.
use Rattle.std.proofs.Common.{rules, arith}
use Rattle.std.proofs.lemmas.List.{length_push}
use Rattle.tables.proofs.WalkLaws.{turn, some_bytes, walking_first, found_long, period_is, period_within}
use Rattle.utilisation.proofs.SumLaws.{summing_first, summing_all, next_fits, summing_more}
use Rattle.utilisation.proofs.utilisation.Goals as goal

pub chunks_exact-requires : goal.chunks_exact-requires
chunks_exact-requires c = some_bytes c.requires c.of-layout.ensures

pub loop-record-init : goal.loop-record-init
loop-record-init c =
    let some = some_bytes c.requires c.of-layout.ensures in (
      search rules,
      tt,
      summing_first
          (walking_first c.requires c.of-layout.ensures (cc) (cc)
          (rw (c.into_iter-record-iterator.ensures.into_iter_gives, c.take-record-items.ensures.source) c.chunks_exact.ensures.rest)),
    )

pub word-requires : goal.word-requires
word-requires c = omega (arith, found_long c.loop-record.invariant.2.walk (turn c.in-Some.ensures.steps))

pub word-requires-in-loop-record : goal.word-requires-in-loop-record
word-requires-in-loop-record c = omega (arith, found_long c.loop-record.invariant.2.walk (turn c.in-Some.ensures.steps))

pub share-sum-requires : goal.share-sum-requires
share-sum-requires c =
    let t = turn c.in-Some.ensures.steps in
    omega (arith, period_is c.loop-record.invariant.2.walk t c.word-in-loop-record.ensures, (period_within c.loop-record.invariant.2.walk t).low)

pub overflow_add-sum : goal.overflow_add-sum
overflow_add-sum c =
    omega (
      arith,
      next_fits c.loop-record.invariant.2 (turn c.in-Some.ensures.steps) c.word.ensures c.word-in-loop-record.ensures c.share-sum.ensures,
    )

pub loop-record-preserved : goal.loop-record-preserved
loop-record-preserved c = (
  search rules,
  tt,
  summing_more c.loop-record.invariant.2 (turn c.in-Some.ensures.steps) c.word.ensures c.word-in-loop-record.ensures c.share-sum.ensures
      (length_push _ _),
)

pub returns : goal.returns
returns c = summing_all c.loop-record.invariant.2 (λ some. (c.in-None.ensures.steps some).1.0)
