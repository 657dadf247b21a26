use mathlib.Core.Path.{◌≡◌}
use mathlib.Core.Bool.{true}
use Prim.Native.Nat.{ℕ, ◌<◌}
use Rattle.queue.specs.Ring.{nth}
use Rattle.queue.specs.Deeds.{ends}
use Rattle.queue.proofs.Ring.live_ahead.Given as goal

abbrev pub invariant-loop-k : goal.invariant-loop-k
invariant-loop-k l = (j : ℕ) → j < l.k → ends l.from (nth l.self l.queue j) ≡ true
