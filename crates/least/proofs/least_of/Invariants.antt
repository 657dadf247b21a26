use Rattle.std.proofs.Common.{◌≡◌, ◌-◌}
use Rattle.least.specs.Least.{best_from}
use Rattle.least.proofs.least_of.Given as goal

abbrev pub invariant-loop-k : goal.invariant-loop-k
invariant-loop-k l = l.best ≡ best_from l.q l.ended l.n (8 - l.k) l.k
