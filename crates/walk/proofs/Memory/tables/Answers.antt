-- `walk::Memory::tables` meets its contract: the list is the first text, and as many names as were read have slots. Assumes nothing.
use mathlib.Core.Path.{sym}
use native.Mathlib.Omega.{arith}
use lib.Seq.{length-take-le}
use Rattle.walk.proofs.FineLaws.{list_ends, list_in}
use Rattle.walk.proofs.Memory.tables.Goals as goal

pub bounds-texts-0 : goal.bounds-texts-0
bounds-texts-0 c = omega (arith, list_ends c.args.texts.bytes.now c.args.texts.ends.now c.requires)

pub slice_bounds-names-end : goal.slice_bounds-names-end
slice_bounds-names-end c = sym (length-take-le _ _ (list_in c.args.texts.bytes.now c.args.texts.ends.now c.requires))
