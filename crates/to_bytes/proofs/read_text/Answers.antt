-- `to_bytes::read_text` meets its contract: each read goes on, and reader and slices are those behind what was read.
-- Assumes nothing.
use Prim.Native.Nat.{ℕ}
use lib.ListN.{length-replicate}
use Rattle.to_bytes.proofs.ReadLaws.{sofar_none, sofar_bounded, sofar_more}
use Rattle.to_bytes.proofs.read_text.Goals as goal

pub loop-total-init : goal.loop-total-init
loop-total-init g c = sofar_none c.begin-reader.ensures c.requires (length-replicate {A = ℕ} 65536 0)

pub go_on-reader-requires-clause-bounded : goal.go_on-reader-requires-clause-bounded
go_on-reader-requires-clause-bounded g c =
    sofar_bounded c.loop-total.invariant c.loop-total-test.true c.read.new.buf c.in_ok-taken.taken c.if-taken-eq0.array_long c.in_ok-taken.ensures.bound

pub loop-total-preserved : goal.loop-total-preserved
loop-total-preserved g c =
    sofar_more c.loop-total.invariant c.loop-total-test.true c.read.new.buf c.in_ok-taken.taken c.if-taken-eq0.array_long c.in_ok-taken.ensures.bound
    c.go_on-reader.ensures.spot_value c.go_on-reader.ensures.places_after
