-- `writing::delays` meets its contract: by the tests of the two numbers.
-- Assumes nothing.
use Prim.Native.Nat.{ℕ}
use mathlib.Core.Path.{◌∙◌, ap}
use mathlib.Core.List.{◌++◌}
use Rattle.printing.specs.Text.{bytes_of, with_number}
use Rattle.printing.proofs.PageLaws.{both, none, as_wrote}
use Rattle.writing.specs.Text.{next_number}
use Rattle.writing.proofs.DelayLaws.{delays_both, delays_latest, delays_none}
use Rattle.writing.proofs.delays.Goals as goal

pub returns-in-0-eq0 : goal.returns-in-0-eq0
returns-in-0-eq0 c = as_wrote (none _) (delays_none _ _ c.in-0-eq0.is-0 c.in-0-eq0.is-1)

pub returns-in-0-default : goal.returns-in-0-default
returns-in-0-default c =
    as_wrote c.append_with_number.ensures
    (ap (with_number (bytes_of " jitter ")) c.from.ensures ∙ delays_latest c.args.earliest.0 c.args.latest.0 c.in-0-default.is-0 c.in-0-default.is-1.1)

pub returns-in_default : goal.returns-in_default
returns-in_default c =
    as_wrote (both c.append_with_number-in_default.ensures c.next_number.ensures)
    (ap (λ (n : ℕ). with_number (bytes_of " delays ") n ++ next_number c.args.latest.0) c.from-in_default.ensures
    ∙ delays_both c.args.earliest.0 c.args.latest.0 c.in_default.is-0.1)
