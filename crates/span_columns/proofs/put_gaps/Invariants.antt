use Rattle.span_columns.proofs.Writing.{Filling}
use Rattle.layouts.specs.Fragments.{walk}
use Rattle.spans.specs.Records.{spans_of, rest}
use Rattle.span_columns.proofs.put_gaps.Given as goal

abbrev pub invariant-loop-r : goal.invariant-loop-r
invariant-loop-r l =
    Filling (walk l.initial.place l.end (spans_of l.records)) l.initial.starts l.initial.stops l.starts l.stops l.at (walk l.place l.end (rest l.r-iterator))
