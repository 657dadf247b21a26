-- `inputs::read_part` meets its contract. Assumes nothing.
use Rattle.std.proofs.Common.{refl}
use Rattle.inputs.proofs.Filling.{part_read}
use Rattle.inputs.proofs.read_part.Goals as goal

pub returns : goal.returns
returns c = part_read _ c.args.names _ _ _ _ _ _ _ c.requires refl c.read_rows.ensures
