use Rattle.layouts.specs.Fragments.{walk}
use Rattle.spans.specs.Records.{spans_of, rest}
use lib.ListN.{length}
use mathlib.Core.Path.{◌≡◌}
use Prim.Native.Nat.{◌+◌, ◌≤◌}
use Rattle.fragment_counts.proofs.count_gaps.Given as goal

abbrev pub invariant-loop-r : goal.invariant-loop-r
invariant-loop-r l =
    let left = rest l.r-iterator in
    let all = spans_of l.records in
    (l.n + length left ≤ length all) × (l.n + length (walk l.place l.end left) ≡ length (walk l.initial.place l.end all))
