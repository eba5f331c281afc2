-- `ticking::largest` meets its contract: it is the greatest of the first n words.
-- Assumes nothing.
use Rattle.std.proofs.Common.{◌≡◌, take, max, rules, ◌∙◌}
use Rattle.std.specs.List.{fold}
use Rattle.machine.proofs.StepLaws.{largest_fold}
use Rattle.ticking.proofs.largest.Goals as goal

pub returns : goal.returns
returns c = let mirrored : c.fold.result ≡ fold max 0 (take c.args.n c.args.words.now) = search rules in
    mirrored ∙ largest_fold c.args.words.now c.args.n c.requires
