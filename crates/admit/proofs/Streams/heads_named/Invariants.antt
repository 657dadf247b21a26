use mathlib.Core.Path.{◌≡◌}
use mathlib.Core.Bool.{true}
use Prim.Native.Nat.{ℕ, ◌<◌}
use Rattle.admit.specs.Right.{head_named}
use Rattle.admit.proofs.Streams.heads_named.Given as goal

abbrev pub invariant-loop-k : goal.invariant-loop-k
invariant-loop-k l = (j : ℕ) → j < l.k → head_named l.self.count l.self.ended.now l.self.row.now l.self.from.now l.self.to.now j ≡ true
