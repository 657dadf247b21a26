use Rattle.replies.specs.Source.{source_of}
use Rattle.replies.proofs.Writing.{Writing}
use Rattle.replies.proofs.put_records.Given as goal

abbrev pub invariant-loop-i : goal.invariant-loop-i
invariant-loop-i l = Writing (source_of l.rows) l.n l.initial.out l.at l.out l.place l.i
