-- `Ring::scan`: at each turn, the answer rows hold what the test keeps of what was passed.
use mathlib.Core.Path.{sym, ◌∙◌}
use native.Mathlib.Omega.{arith}
use Rattle.queue.proofs.Scanning.{scanning_start, scanning_pass, scanning_put, scanning_end}
use Rattle.queue.proofs.Ring.scan.Goals as goal
use Rattle.queue.proofs.Ring.scan.Goals.{then-reaches, else-reaches}

pub loop-k-init : goal.loop-k-init
loop-k-init c = scanning_start _ _ _ _

pub loop-k-preserved : goal.loop-k-preserved
loop-k-preserved c = elim c.if-reaches.branch [
  | then-reaches w ↦ rw (w.answers-is, w.n-is) (scanning_put _ _ _ _ _ _ _ c.loop-k.invariant _ c.slot-slot.ensures (sym c.reaches.ensures ∙ w.if-reaches.true) (omega (arith, c.requires)))
  | else-reaches w ↦ rw (w.answers-is, w.n-is) (scanning_pass _ _ _ _ _ _ _ c.loop-k.invariant _ c.slot-slot.ensures (sym c.reaches.ensures ∙ w.if-reaches.false))
]

pub returns : goal.returns
returns c = scanning_end c.args.self _ c.args.b _ _ _ _ c.loop-k.invariant (omega arith) c.requires.cleared
