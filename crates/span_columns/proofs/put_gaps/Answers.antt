-- `span_columns::put_gaps` meets its contract: what is left to write are the gaps of the walk from here on. Assumes nothing.
use Rattle.layouts.proofs.Rows.{walk_at, walk_end}
use Rattle.span_columns.proofs.Writing.{filling_fits, filling_step, filling_end}
use Rattle.spans.specs.Turn.{gap_end}
use Rattle.spans.specs.Spans.{stretch}
use mathlib.Core.List.{[]}
use mathlib.Core.Path.{refl}
use Rattle.span_columns.proofs.put_gaps.Goals as goal

pub put_stretch-at-requires : goal.put_stretch-at-requires
put_stretch-at-requires c =
    let l = c.loop-r in
    rw c.gap_end.ensures (filling_fits _ _ _ _ _ _ (stretch l.place (gap_end l.place c.in-Some.r)) _
    (walk_at c.in-Some.ensures.steps l.place c.args.base.stop) l.invariant c.requires)

pub loop-r-preserved : goal.loop-r-preserved
loop-r-preserved c =
    let l = c.loop-r in
    rw c.next_place-place.ensures (filling_step _ _ _ _ _ _ (stretch l.place (gap_end l.place c.in-Some.r)) _
    (walk_at c.in-Some.ensures.steps l.place c.args.base.stop) l.invariant (rw c.gap_end.ensures at c.put_stretch-at.ensures))

pub put_stretch-requires : goal.put_stretch-requires
put_stretch-requires c =
    let l = c.loop-r in
    filling_fits _ _ _ _ _ _ (stretch l.place c.args.base.stop) [] (walk_end c.in-None.ensures.steps.0 l.place c.args.base.stop) l.invariant c.requires

pub returns : goal.returns
returns c =
    let l = c.loop-r in
    filling_end _ _ _ _ _ _ refl (filling_step _ _ _ _ _ _ (stretch l.place c.args.base.stop) []
    (walk_end c.in-None.ensures.steps.0 l.place c.args.base.stop) l.invariant c.put_stretch.ensures)
