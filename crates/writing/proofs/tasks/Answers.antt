-- `writing::tasks` meets its contract: each turn appends one line.
-- Assumes nothing.
use Rattle.std.proofs.Common.{rules, arith, refl, ◌∙◌, ◌≡◌}
use Rattle.std.proofs.lemmas.List.{length_push}
use Rattle.tables.specs.Layout.{task_at}
use Rattle.tables.proofs.WalkLaws.{turn}
use Rattle.printing.proofs.JoinedLaws.{joined_none, joined_more}
use Rattle.writing.specs.Text.{task_line}
use Rattle.writing.proofs.HeadLaws.{layout_right, some_bytes, records_fit, record_is}
use Rattle.writing.proofs.ChunkLaws.{ahead_first, all_taken, found_long, record_same, ahead_more}
use Rattle.writing.proofs.tasks.Goals as goal

pub chunks_exact-requires : goal.chunks_exact-requires
chunks_exact-requires c = some_bytes _ _ c.requires c.of-layout.ensures

pub loop-record-init : goal.loop-record-init
loop-record-init c =
    let sized : c.into_iter-record-iterator.result.iter.size ≡ c.of-layout.result.size = cc in (
      omega (arith, sized, some_bytes _ _ c.requires c.of-layout.ensures),
      tt,
      ahead_first sized (cc) (rw c.from-n.ensures (records_fit _ _ c.requires c.of-layout.ensures))
          (rw (c.into_iter-record-iterator.ensures.into_iter_gives, c.take-record-items.ensures.source) c.chunks_exact.ensures.rest),
      joined_none _ _ _,
    )

pub read-requires : goal.read-requires
read-requires c =
    record {
      sound = layout_right _ _ c.requires c.of-layout.ensures;
      size_in_bounds = omega (arith, found_long c.loop-record.invariant.2 (turn c.in-Some.ensures.steps));
    }

pub loop-record-preserved : goal.loop-record-preserved
loop-record-preserved c =
    let ahead = c.loop-record.invariant.2 in
    let t = turn c.in-Some.ensures.steps in
    let sound = layout_right _ _ c.requires c.of-layout.ensures in (
      search rules,
      tt,
      ahead_more ahead t (length_push _ _),
      rw (length_push c.loop-record.yielded c.in-Some.record)
          (joined_more task_line (task_at c.args.table.now) _ c.loop-record.invariant.3
          (record_is _ _ c.requires c.of-layout.ensures _ (c.read.ensures.result_value ∙ record_same ahead t sound (refl))) c.task.ensures),
    )

pub returns : goal.returns
returns c =
    rw (← (all_taken c.loop-record.invariant.2 (λ some. (c.in-None.ensures.steps some).1.0) ∙ c.from-n.ensures)) c.loop-record.invariant.3
