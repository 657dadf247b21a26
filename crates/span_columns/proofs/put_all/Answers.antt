-- `span_columns::put_all` meets its contract: what is left to write is what the records that are left give. Assumes nothing.
use Rattle.layouts.proofs.Rows.{given_at, given_end}
use Rattle.span_columns.proofs.Writing.{filling_fits, filling_step, filling_end}
use Rattle.layouts.specs.Given.{given}
use Rattle.span_columns.proofs.put_all.Goals as goal

pub put_pieces-at-requires : goal.put_pieces-at-requires
put_pieces-at-requires c =
    let a = c.args in
    filling_fits _ _ _ _ _ _ (given a.giving a.base c.in-Some.r) _ (given_at c.in-Some.ensures.steps a.giving a.base) c.loop-r.invariant c.requires

pub loop-r-preserved : goal.loop-r-preserved
loop-r-preserved c =
    let a = c.args in
    filling_step _ _ _ _ _ _ (given a.giving a.base c.in-Some.r) _ (given_at c.in-Some.ensures.steps a.giving a.base) c.loop-r.invariant c.put_pieces-at.ensures

pub returns : goal.returns
returns c =
    filling_end _ _ _ _ _ _ (given_end c.in-None.ensures.steps.0 c.args.giving c.args.base) c.loop-r.invariant
