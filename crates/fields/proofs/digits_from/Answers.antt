use Rattle.std.proofs.Common.{arith}
use Rattle.fields.proofs.Numbers.{counting_more}
use Rattle.fields.proofs.digits_from.Goals as goal

pub loop-i-preserved : goal.loop-i-preserved
loop-i-preserved c = counting_more c.loop-i.invariant (omega arith) (omega arith) (omega arith) (omega arith)
