-- `jobs::search` meets its contract: each turn tries one q, by the laws of `TryingLaws`.
-- Assumes nothing.
use native.Mathlib.Omega.{arith}
use Prim.Native.Nat.{◌≤◌}
use mathlib.Core.Path.{refl}
use borrow.Author.Rules.{rules}
use Rattle.jobs.proofs.TryingLaws.{trying_first, turn_past, turn_late, window_low, new_low, new_high, turn_stops, turn_on, turn_open}
use Rattle.jobs.proofs.search.Goals as goal

pub loop-q-init : goal.loop-q-init
loop-q-init c = (trying_first _ _ _ _ _ _ _ _ _ _ _ _ _ c.requires, refl)

pub returns-then-limit-x : goal.returns-then-limit-x
returns-then-limit-x c = (turn_past _ _ _ _ _ _ _ _ _ _ _ _ _ _ _ _ _ _ c.loop-q.invariant.0 (omega (arith, c.loop-q-test.true)) c.if-limit-x.true, record {})

pub returns-in_default : goal.returns-in_default
returns-in_default c = (turn_late _ _ _ _ _ _ _ _ _ _ _ _ _ _ _ _ _ _ c.loop-q.invariant.0 (omega (arith, c.loop-q-test.true)) _ _ _ _ (rw c.in_default.is at c.follow-followed.ensures), record {})

pub overflow_sub-response : goal.overflow_sub-response
overflow_sub-response c = omega (arith, window_low _ _ _ _ _ _ _ _ _ _ _ _ _ _ _ _ _ _ c.loop-q.invariant.0 _ _ _ _ (rw c.in-Some.is at c.follow-followed.ensures))

pub returns-then-response-period : goal.returns-then-response-period
returns-then-response-period c = let followed = (rw c.in-Some.is at c.follow-followed.ensures) in
    let low : 1 ≤ c.max-largest.result = new_low _ _ _ _ _ _ _ _ _ _ _ _ _ _ _ _ _ _ c.loop-q.invariant.0 _ _ _ _ followed _ c.max-largest.ensures in
    let high : c.max-largest.result ≤ 1000000 = new_high _ _ _ _ _ _ _ _ _ _ _ _ _ _ _ _ _ _ c.loop-q.invariant.0 _ _ _ _ followed _ c.max-largest.ensures in
    (turn_stops _ _ _ _ _ _ _ _ _ _ _ _ _ _ _ _ _ _ c.loop-q.invariant.0 _ _ _ _ followed _ c.max-largest.ensures (omega (arith, c.loop-q-test.true)) c.if-response-period.true, (low, omega arith))

pub loop-q-preserved : goal.loop-q-preserved
loop-q-preserved c = (turn_on _ _ _ _ _ _ _ _ _ _ _ _ _ _ _ _ _ _ c.loop-q.invariant.0 _ _ _ _ (rw c.in-Some.is at c.follow-followed.ensures) _ c.max-largest.ensures (omega (arith, c.loop-q-test.true)) c.if-response-period.false _ _ _ _ (omega arith) (omega arith) (omega arith) (omega arith), search rules)

pub returns : goal.returns
returns c = (turn_open _ _ _ _ _ _ _ _ _ _ _ _ _ _ _ _ _ _ c.loop-q.invariant.0 (omega (arith, c.loop-q-test.false)), record {})
