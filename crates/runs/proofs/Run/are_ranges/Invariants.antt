use Rattle.runs.proofs.Starting.{Ranged}
use Rattle.runs.proofs.Run.are_ranges.Given as goal

abbrev pub invariant-loop-k : goal.invariant-loop-k
invariant-loop-k l = Ranged l.rows l.k l.from l.to
