use mathlib.Core.Path.{◌≡◌}
use mathlib.Core.Bool.{true}
use Prim.Native.Nat.{ℕ, ◌<◌}
use Rattle.queue.specs.Ring.{nth}
use Rattle.admit.proofs.NamedLaws.{is_named}
use Rattle.admit.proofs.Streams.slots_named.Given as goal

abbrev pub invariant-loop-k : goal.invariant-loop-k
invariant-loop-k l = (j : ℕ) → j < l.k → is_named l.self.count l.self.from.now l.self.to.now (nth l.ring l.queue j) ≡ true
