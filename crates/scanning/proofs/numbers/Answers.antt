-- `scanning::numbers` meets its contract, by its two passes.
-- Assumes nothing.
use Rattle.std.proofs.lemmas.Result.{err_from_is_err_and}
use Rattle.scanning.proofs.ReadLaws.{read_fault, read_all}
use Rattle.scanning.proofs.numbers.Goals as goal

pub returns-in_err-pass : goal.returns-in_err-pass
returns-in_err-pass c =
    let p = err_from_is_err_and c.from_residual.result c.from_residual.ensures.1 in
    rw (p.1, p.2) (read_fault c.pass.ensures c.in_err-pass.was)

pub returns : goal.returns
returns c = read_all c.pass.ensures c.in_ok-pass.was c.pass-2.ensures
