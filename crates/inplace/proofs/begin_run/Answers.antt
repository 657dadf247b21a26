-- `begin_run` meets its contract.
use Rattle.heads.specs.View.{cols_of}
use Rattle.inplace.proofs.CallLaws.{begins_so}
use Rattle.inplace.proofs.begin_run.Goals as goal

pub returns : goal.returns
returns c =
    let a = c.args in
    begins_so a.settings a.from.now a.to.now a.names.text.now a.names.from.now a.names.to.now (cols_of a.columns) c.start.ensures c.streams_in.ensures c.eight_of.ensures c.eight_of-2.ensures
