use Rattle.queue.proofs.Clearing.{Skipping}
use Rattle.queue.proofs.Ring.skip.Given as goal

abbrev pub invariant-loop-led : goal.invariant-loop-led
invariant-loop-led l = Skipping l.fn.self l.led l.queue l.from

abbrev pub decreases-loop-led : goal.decreases-loop-led
decreases-loop-led l = l.led.len
