-- `Ring::pack`: at each turn, what was kept is what the test keeps of what was passed, and the rest is as it was.
use mathlib.Core.Path.{sym, ◌∙◌}
use Rattle.queue.proofs.Clearing.{packing_drop, packing_keep}
use Rattle.queue.proofs.Ring.pack.Goals as goal
use Rattle.queue.proofs.Ring.pack.Goals.{then-lasts, else-lasts}

pub loop-k-preserved : goal.loop-k-preserved
loop-k-preserved c = elim c.if-lasts.branch [
  | then-lasts w ↦ rw (w.queue-is, w.kept-is) (packing_keep c.args.self _ _ _ _ _ c.loop-k.invariant _ c.loop-k-test.true c.place_of-at.ensures.0 _ w.place_of-to.ensures.0 (sym (rw c.from.ensures at c.lasts.ensures) ∙ w.if-lasts.true))
  | else-lasts w ↦ rw (w.queue-is, w.kept-is) (packing_drop c.args.self _ _ _ _ _ c.loop-k.invariant _ c.loop-k-test.true c.place_of-at.ensures.0 (sym (rw c.from.ensures at c.lasts.ensures) ∙ w.if-lasts.false))
]
