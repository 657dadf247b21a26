-- `fragment_counts::count_gaps` meets its contract: the gaps counted and those of the walk from here on are all gaps. Assumes nothing.
use Rattle.layouts.proofs.Rows.{walk_at, walk_end}
use Rattle.layouts.specs.Fragments.{walk}
use Rattle.spans.proofs.Columns.{count_of}
use Rattle.spans.specs.Records.{rest}
use Rattle.spans.specs.Turn.{gap_end, next_place}
use Rattle.spans.specs.Spans.{stretch}
use lib.ListN.{length, length-append}
use mathlib.Core.List.{[]}
use native.Mathlib.Omega.{arith}
use mathlib.Core.Path.{ap}
use Rattle.fragment_counts.proofs.count_gaps.Goals as goal

pub overflow_add-n : goal.overflow_add-n
overflow_add-n c =
    omega (arith, c.loop-r.invariant.0, c.stretch_count-n.ensures.1, ap length c.in-Some.ensures.steps, count_of c.args.records, c.ranges.records)

pub loop-r-preserved : goal.loop-r-preserved
loop-r-preserved c =
    let l = c.loop-r in
    let r = c.in-Some.r in
    let e = c.in-Some.ensures.steps in (
      omega (arith, l.invariant.0, c.stretch_count-n.ensures.1, ap length e),
      rw c.next_place-place.ensures (omega (
        arith,
        l.invariant.1,
        rw c.gap_end.ensures at c.stretch_count-n.ensures.0,
        ap length (walk_at e l.place c.args.base.stop),
        length-append (stretch l.place (gap_end l.place r)) (walk (next_place l.place r) c.args.base.stop (rest c.next.new.self)),
      )),
    )

pub overflow_add-result : goal.overflow_add-result
overflow_add-result c =
    omega (arith, c.loop-r.invariant.0, c.stretch_count.ensures.1, count_of c.args.records, c.ranges.records)

pub returns : goal.returns
returns c =
    let l = c.loop-r in
    omega (
      arith,
      l.invariant.1,
      c.stretch_count.ensures.0,
      ap length (walk_end c.in-None.ensures.steps.0 l.place c.args.base.stop),
      length-append (stretch l.place c.args.base.stop) [],
    )
