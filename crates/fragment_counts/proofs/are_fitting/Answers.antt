-- `fragment_counts::are_fitting` meets its contract: the records that are left fit behind the one ahead exactly if all do. Assumes nothing.
use Rattle.layouts.proofs.Rows.{fitting_at, fitting_end}
use mathlib.Core.Path.{sym, ◌∙◌}
use Rattle.fragment_counts.proofs.are_fitting.Goals as goal

pub returns-then-not-is_fitting : goal.returns-then-not-is_fitting
returns-then-not-is_fitting c =
    let l = c.loop-r in
    sym (sym l.invariant ∙ fitting_at c.in-Some.ensures.steps c.args.base l.ahead ∙ rw (sym c.is_fitting.ensures ∙ c.if-not-is_fitting.true))

pub loop-r-preserved : goal.loop-r-preserved
loop-r-preserved c =
    let l = c.loop-r in
    sym (rw (sym c.is_fitting.ensures ∙ c.if-not-is_fitting.false) at (fitting_at c.in-Some.ensures.steps c.args.base l.ahead)) ∙ l.invariant

pub returns : goal.returns
returns c =
    let l = c.loop-r in
    sym (sym l.invariant ∙ fitting_end c.in-None.ensures.steps.0 c.args.base l.ahead)
