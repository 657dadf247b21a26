-- `inputs::check_verdict` meets its contract. Assumes nothing.
use Rattle.std.proofs.Common.{ap}
use Rattle.std.proofs.lemmas.Result.{err_from_is_err_and}
use Rattle.inputs.specs.Read.{check_verdict}
use Rattle.inputs.proofs.check_verdict.Goals as goal

pub returns-in_err-check_list : goal.returns-in_err-check_list
returns-in_err-check_list c =
    let p = err_from_is_err_and c.from_residual.result c.from_residual.ensures.1 in
    rw (p.1, p.2) (ap check_verdict c.in_err-check_list.ensures)

pub returns : goal.returns
returns c = ap check_verdict c.in_ok-check_list.ensures
