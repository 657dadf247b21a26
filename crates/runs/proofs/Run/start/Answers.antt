-- `Run::start` meets its contract: the tests are the definition's, and the run is the one that goes with the answer.
use Rattle.std.proofs.lemmas.Result.{err_from_is_err_and}
use Rattle.heads.specs.View.{cols_of}
use Rattle.runs.specs.Start.{plan}
use Rattle.runs.proofs.Starting.{start_unfit, start_named, start_misnamed}
use Rattle.runs.proofs.Run.start.Goals as goal

pub returns : goal.returns
returns c =
    let a = c.args in
    start_named (plan a.fixed a.from a.to a.names.text.now a.names.from.now a.names.to.now (cols_of a.columns)) c.is_sized-sized.result c.are_ranges-ranges.result c.is_sized-sized.ensures c.are_ranges-ranges.ensures c.if-not-sized-counted.false c.in_ok-check_list.ensures c.fresh.ensures

pub returns-then-not-sized-counted : goal.returns-then-not-sized-counted
returns-then-not-sized-counted c =
    let a = c.args in
    start_unfit (plan a.fixed a.from a.to a.names.text.now a.names.from.now a.names.to.now (cols_of a.columns)) c.is_sized-sized.result c.are_ranges-ranges.result c.is_sized-sized.ensures c.are_ranges-ranges.ensures c.if-not-sized-counted.true

pub returns-in_err-check_list : goal.returns-in_err-check_list
returns-in_err-check_list c =
    let a = c.args in
    let p = err_from_is_err_and c.from_residual.result c.from_residual.ensures.1 in
    rw (p.1, p.2)
    (start_misnamed (plan a.fixed a.from a.to a.names.text.now a.names.from.now a.names.to.now (cols_of a.columns)) c.is_sized-sized.result c.are_ranges-ranges.result c.is_sized-sized.ensures c.are_ranges-ranges.ensures c.if-not-sized-counted.false c.in_err-check_list.ensures)
