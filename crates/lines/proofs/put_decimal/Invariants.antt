use Rattle.lines.proofs.Spelling.{Spelling}
use Rattle.lines.proofs.put_decimal.Given as goal

abbrev pub invariant-loop-k : goal.invariant-loop-k
invariant-loop-k l = Spelling l.initial.out l.at l.n l.out l.k l.rest
