-- `Run::are_ranges` meets its contract. The loop's invariant: the ranges passed stand among the rows.
use Rattle.std.proofs.Common.{arith, sym}
use Rattle.basics.proofs.SaysLaws.{says_true}
use Rattle.runs.proofs.Starting.{ranged_says, unranged}
use Rattle.runs.proofs.Run.are_ranges.Goals as goal
use Rattle.runs.proofs.Run.are_ranges.Goals.{then-to-k-via-then-to-k, then-to-k-via-else-to-k+then-rows-to}

pub returns-then-streams-gt-STREAMS : goal.returns-then-streams-gt-STREAMS
returns-then-streams-gt-STREAMS c = unranged _ _ _ _ (λ h. omega (arith, h.0))

pub returns-then-to-k : goal.returns-then-to-k
returns-then-to-k c =
    unranged _ _ _ _ (λ h.
    let inside = h.1 c.loop-k.k c.loop-k-test.true in
    elim c.then-to-k.branch [ then-to-k-via-then-to-k w ↦ omega (arith, inside.0) | then-to-k-via-else-to-k+then-rows-to w ↦ omega (arith, inside.1) ])

pub returns : goal.returns
returns c = sym (says_true (ranged_says _ _ _ _) (omega arith, λ k h. c.loop-k.invariant k (omega (arith, h))))
