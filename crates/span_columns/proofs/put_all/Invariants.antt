use Rattle.span_columns.proofs.Writing.{Filling}
use Rattle.layouts.specs.Given.{all_given}
use Rattle.spans.specs.Records.{spans_of, rest}
use Rattle.span_columns.proofs.put_all.Given as goal

abbrev pub invariant-loop-r : goal.invariant-loop-r
invariant-loop-r l =
    Filling (all_given l.giving l.base (spans_of l.records)) l.initial.starts l.initial.stops l.starts l.stops l.at (all_given l.giving l.base (rest l.r-iterator))
