use Rattle.fields.specs.Scan.{Counting}
use Rattle.fields.proofs.digits_from.Given as goal

abbrev pub invariant-loop-i : goal.invariant-loop-i
invariant-loop-i l = Counting l.text l.from l.i l.value
