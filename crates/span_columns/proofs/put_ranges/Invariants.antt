use Rattle.span_columns.proofs.Writing.{Filling}
use Rattle.layouts.specs.Layout.{owned}
use Rattle.layouts.specs.Given.{given}
use Rattle.spans.specs.Records.{spans_of, rest}
use lib.ListN.{length}
use Prim.Native.Nat.{◌+◌, ◌≤◌}
use Rattle.span_columns.proofs.put_ranges.Given as goal

abbrev pub invariant-loop-r : goal.invariant-loop-r
invariant-loop-r l =
    let left = rest l.r-iterator in
    let all = spans_of l.records in
    (l.at + length left + length left ≤ length all + length all)
    × (l.done + length left ≤ length all)
    × Filling (owned (given l.giving l.base) 0 all) l.initial.from l.initial.to l.from l.to l.done (owned (given l.giving l.base) l.at left)
