-- `checker::read_list` meets its contract: each read goes on, and scan and words are those behind what was read.
-- Assumes nothing.
use Prim.Native.Nat.{ℕ}
use lib.ListN.{length-replicate}
use Rattle.checker.proofs.ReadLaws.{sofar_none, sofar_fits, sofar_last, sofar_more, sofar_less}
use Rattle.checker.proofs.read_list.Goals as goal

pub loop-scan-init : goal.loop-scan-init
loop-scan-init g c = sofar_none c.begin-scan.ensures c.requires (length-replicate {A = ℕ} 65536 0)

pub take_in-requires : goal.take_in-requires
take_in-requires g c =
    sofar_fits c.loop-scan.invariant c.loop-scan-test.true c.read.new.buf c.in_ok-taken.taken c.read.auto.buf c.in_ok-taken.ensures.bound

pub returns-in-Break : goal.returns-in-Break
returns-in-Break g c =
    sofar_last c.loop-scan.invariant c.loop-scan-test.true c.read.new.buf c.in_ok-taken.taken c.read.auto.buf c.in_ok-taken.ensures.bound
    c.take_in.ensures c.in-Break.is

pub loop-scan-smaller : goal.loop-scan-smaller
loop-scan-smaller g c =
    sofar_less c.loop-scan.invariant c.loop-scan-test.true c.read.new.buf c.in_ok-taken.taken c.read.auto.buf c.in_ok-taken.ensures.bound
    c.take_in.ensures c.in-Continue.is

pub loop-scan-preserved : goal.loop-scan-preserved
loop-scan-preserved g c =
    sofar_more c.loop-scan.invariant c.loop-scan-test.true c.read.new.buf c.in_ok-taken.taken c.read.auto.buf c.in_ok-taken.ensures.bound
    c.take_in.ensures c.in-Continue.is
