use Rattle.blocking.proofs.SweepLaws.{Looked}
use Rattle.blocking.proofs.longest_kept.Given as goal

abbrev pub invariant-loop-section : goal.invariant-loop-section
invariant-loop-section l = Looked l.kept l.section-index l.most
