-- So many numbers are appended.
-- Assumes nothing.
use Rattle.printing.specs.Page.{Wrote}
use Rattle.worked.specs.Numbers.{numbers_text}
use Rattle.worked.proofs.numbers.append_numbers.Given as goal

abbrev pub invariant-loop-i : goal.invariant-loop-i
invariant-loop-i l = Wrote l.initial.page (numbers_text l.words l.i) l.page
