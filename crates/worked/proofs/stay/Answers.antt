-- `worked::stay` meets its contract: the test of every word left is the specification's.
-- Assumes nothing.
use Rattle.std.proofs.Common.{rules, ◌≡◌, ◌≢◌, ℕ, drop}
use borrow.Author.Tests.{tests}
use Rattle.std.proofs.lemmas.Iterator.{YieldsList-from_slice, cases_from_all}
use Rattle.std.proofs.lemmas.Iterator.Adapters.{YieldsList-from_skip}
use Rattle.worked.proofs.WordLaws.{all_is}
use Rattle.worked.proofs.stay.Goals as goal

pub returns : goal.returns
returns c =
    all_is (drop c.args.first.0 c.args.words.now) c.all.result
    (cases_from_all _ _ _ (λ (w : ℕ). w ≡ 2779096485) (λ (w : ℕ). w ≢ 2779096485) c.all.ensures.ran
    (YieldsList-from_skip c.args.first.0 (YieldsList-from_slice c.args.words.now (cc (c.skip.ensures.source, c.iter.ensures.rest))) c.skip.ensures.count)
    (λ x q k. search (rules, tests)) (λ x q k. search (rules, tests)))
