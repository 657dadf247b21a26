use mathlib.Core.Path.{◌≡◌}
use Prim.Native.Nat.{◌+◌, ◌*◌, ◌≤◌}
use lib.ListN.{length, drop}
use Rattle.lines.specs.Lines.{numbered}
use Rattle.lines.proofs.fields_size.Given as goal

abbrev pub invariant-loop-n : goal.invariant-loop-n
invariant-loop-n l = (l.size ≤ 21 * l.n-index) × (l.size + length (numbered (drop l.n-index l.numbers)) ≡ length (numbered l.numbers))
