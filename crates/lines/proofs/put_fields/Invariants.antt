use Rattle.lines.proofs.Fields.{Writing}
use Rattle.lines.proofs.put_fields.Given as goal

abbrev pub invariant-loop-n : goal.invariant-loop-n
invariant-loop-n l = Writing l.initial.out l.at l.numbers l.out l.place l.n-index
