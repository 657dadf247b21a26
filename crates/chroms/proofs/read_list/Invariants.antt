use Rattle.std.specs.Prelude.{length}
use Prim.Native.Nat.{◌-◌}
use Rattle.fields.proofs.Tables.{Filling}
use Rattle.chroms.specs.Entry.{entry_of, from_of, to_of, len_of}
use Rattle.chroms.proofs.read_list.Given as goal

abbrev pub invariant-loop-at : goal.invariant-loop-at
invariant-loop-at l = Filling entry_of from_of to_of len_of l.text l.initial.from l.initial.to l.initial.len l.from l.to l.len l.n l.at

abbrev pub decreases-loop-at : goal.decreases-loop-at
decreases-loop-at l = length l.text - l.at
