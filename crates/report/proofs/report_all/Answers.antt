-- `report::report_all` meets its contract: each read goes on, and what is kept is what is kept behind all that was read.
-- Assumes nothing.
use Prim.Native.Nat.{ℕ}
use borrow.Author.Rules.{rules}
use Rattle.io.specs.Counts.{IsPrefixLen}
use lib.ListN.{length-replicate}
use mathlib.Core.Path.{◌∙◌}
use Rattle.report.proofs.ReadLaws.{sofar_none, sofar_countable, sofar_room, sofar_more}
use Rattle.report.proofs.report_all.Goals as goal

pub loop-total-init : goal.loop-total-init
loop-total-init c = sofar_none c.begin-report.ensures c.requires (length-replicate {A = ℕ} 4096 0) (length-replicate {A = ℕ} 65536 0)

pub lines-told-requires : goal.lines-told-requires
lines-told-requires c =
    let counts : IsPrefixLen c.in_ok-taken.taken c.read.new.buf = search rules in
    record {
      countable = sofar_countable c.loop-total.invariant c.read.new.buf c.in_ok-taken.taken c.if-taken-eq0.array_long counts;
      more_in_bounds = sofar_room c.loop-total.invariant c.read.new.buf c.in_ok-taken.taken c.if-taken-eq0.array_long counts;
    }

pub loop-total-preserved : goal.loop-total-preserved
loop-total-preserved c =
    let counts : IsPrefixLen c.in_ok-taken.taken c.read.new.buf = search rules in
    sofar_more c.loop-total.invariant c.read.new.buf c.in_ok-taken.taken c.if-taken-eq0.array_long counts
    c.loop-total-test.true c.lines-told.ensures.goes_on c.lines-told.auto.store (c.lines-told.auto.out ∙ c.loop-total.invariant.out_long)
