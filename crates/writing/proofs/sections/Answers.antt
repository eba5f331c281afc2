-- `writing::sections` meets its contract: each turn appends one line.
-- Assumes nothing.
use Rattle.std.proofs.Common.{rules, arith, ◌∙◌}
use Rattle.std.proofs.lemmas.List.{length_push}
use Rattle.tables.specs.Layout.{row_at}
use Rattle.tables.proofs.WalkLaws.{turn}
use Rattle.printing.proofs.JoinedLaws.{joined_none, joined_more}
use Rattle.writing.specs.Text.{section_line}
use Rattle.writing.proofs.HeadLaws.{rows_fit, row_is}
use Rattle.writing.proofs.ChunkLaws.{ahead_first, all_taken, found_long, row_same, ahead_more}
use Rattle.writing.proofs.sections.Goals as goal

pub loop-row-init : goal.loop-row-init
loop-row-init c = (
  search rules,
  tt,
  ahead_first (cc) (cc) (rw c.from-m.ensures (rows_fit _ _ c.requires c.of-layout.ensures _ c.from.ensures))
      (rw (c.into_iter-row-iterator.ensures.into_iter_gives, c.take-row-items.ensures.source) c.chunks_exact.ensures.rest),
  joined_none _ _ _,
)

pub read-requires : goal.read-requires
read-requires c = omega (arith, found_long c.loop-row.invariant.2 (turn c.in-Some.ensures.steps))

pub loop-row-preserved : goal.loop-row-preserved
loop-row-preserved c =
    let ahead = c.loop-row.invariant.2 in
    let t = turn c.in-Some.ensures.steps in (
      search rules,
      tt,
      ahead_more ahead t (length_push _ _),
      rw (length_push c.loop-row.yielded c.in-Some.row)
          (joined_more section_line (row_at c.args.table.now) _ c.loop-row.invariant.3
          (row_is _ _ c.requires c.of-layout.ensures _ _ c.from.ensures (c.read.ensures.result_value ∙ row_same ahead t (omega arith))) c.section.ensures),
    )

pub returns : goal.returns
returns c =
    rw (← (all_taken c.loop-row.invariant.2 (λ some. (c.in-None.ensures.steps some).1.0) ∙ c.from-m.ensures)) c.loop-row.invariant.3
