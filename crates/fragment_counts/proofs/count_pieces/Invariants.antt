use Rattle.layouts.specs.Given.{all_given}
use Rattle.spans.specs.Records.{spans_of, rest}
use lib.ListN.{length}
use mathlib.Core.Path.{◌≡◌}
use Prim.Native.Nat.{◌+◌, ◌≤◌}
use Rattle.fragment_counts.proofs.count_pieces.Given as goal

abbrev pub invariant-loop-r : goal.invariant-loop-r
invariant-loop-r l =
    let left = rest l.r-iterator in
    let all = spans_of l.records in
    (l.n + length left + length left ≤ length all + length all) × (l.n + length (all_given l.giving l.base left) ≡ length (all_given l.giving l.base all))
