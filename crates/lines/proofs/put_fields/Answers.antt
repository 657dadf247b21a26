-- `lines::put_fields` meets its contract: what is left to write gives the same list. Assumes nothing.
use native.Mathlib.Omega.{arith}
use Rattle.lines.proofs.Fields.{writing_room, writing_field, writing_done}
use Rattle.lines.proofs.put_fields.Goals as goal

pub put_field-place-requires : goal.put_field-place-requires
put_field-place-requires c = writing_room c.loop-n.invariant c.requires (omega arith)

pub loop-n-preserved : goal.loop-n-preserved
loop-n-preserved c = writing_field c.loop-n.invariant c.requires (omega arith) c.put_field-place.ensures

pub returns : goal.returns
returns c = writing_done c.loop-n.invariant c.requires (omega arith)
