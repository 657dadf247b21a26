-- `lines::fields_size` meets its contract: the bytes of the numbers passed and those of the rest are all. Assumes nothing.
use native.Mathlib.Omega.{arith}
use Rattle.lines.proofs.Fields.{size_more, size_none}
use Rattle.lines.proofs.fields_size.Goals as goal

pub loop-n-preserved : goal.loop-n-preserved
loop-n-preserved c = omega (arith, size_more c.args.numbers.now c.loop-n.n-index (omega arith))

pub returns : goal.returns
returns c = omega (arith, size_none c.args.numbers.now c.loop-n.n-index (omega arith))
