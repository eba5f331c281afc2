use Rattle.blocking.proofs.SweepLaws.{Counted}
use Rattle.blocking.proofs.rows_of.Given as goal

abbrev pub invariant-loop-semaphore : goal.invariant-loop-semaphore
invariant-loop-semaphore l = Counted l.semaphores l.count l.semaphore-index l.found
