use Prim.Native.Nat.{◌≤◌}
use Rattle.heads.specs.Move.{PlacedIn}
use Rattle.heads.proofs.is_placed.Given as goal

abbrev pub invariant-loop-k : goal.invariant-loop-k
invariant-loop-k l = PlacedIn l.chroms l.starts l.stops l.k l.next l.from l.to × (l.streams ≤ 8)
