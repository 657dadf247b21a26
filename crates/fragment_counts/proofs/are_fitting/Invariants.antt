use Rattle.layouts.specs.Judged.{all_fitting}
use Rattle.spans.specs.Records.{spans_of, rest}
use mathlib.Core.Path.{◌≡◌}
use Rattle.fragment_counts.proofs.are_fitting.Given as goal

abbrev pub invariant-loop-r : goal.invariant-loop-r
invariant-loop-r l = all_fitting l.base l.ahead (rest l.r-iterator) ≡ all_fitting l.base 0 (spans_of l.records)
