-- `rows::name_at` meets its contract: the bytes that agree with the name seen are the start of the field. Assumes nothing.
use Rattle.std.proofs.Common.{arith}
use Rattle.rows.proofs.Seeing.{seen_same}
use Rattle.rows.proofs.name_at.Goals as goal

pub returns : goal.returns
returns c = seen_same c.requires.1 c.args.at c.agree-same.result (omega arith) (omega arith) c.agree-same.ensures.1 c.field_end-to.ensures (omega arith) (omega arith)
