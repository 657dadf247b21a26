use Rattle.queue.proofs.Clearing.{Packing}
use Rattle.queue.proofs.Ring.pack.Given as goal

abbrev pub invariant-loop-k : goal.invariant-loop-k
invariant-loop-k l = Packing l.self l.from l.initial.queue l.queue l.kept l.k
