use Rattle.queue.proofs.Scanning.{Scanning}
use Rattle.queue.proofs.Ring.scan.Given as goal

abbrev pub invariant-loop-k : goal.invariant-loop-k
invariant-loop-k l = Scanning l.self l.queue l.b.stop l.initial.answers l.answers l.n l.k
