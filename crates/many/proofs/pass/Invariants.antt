use Rattle.std.proofs.Common.{◌≡◌, ◌-◌, ◌≤◌, length}
use Rattle.std.specs.Prelude.{None}
use Rattle.heads.specs.View.{cols_of, heads_in}
use Rattle.pulls.specs.Pulls.{lent}
use Rattle.many.proofs.Passing.{Passing}
use Rattle.many.proofs.pass.Given as goal

abbrev pub invariant-loop-k : goal.invariant-loop-k
invariant-loop-k l = record {
  passing : Passing (record { s = cols_of l.s; lengths = l.lengths; t = cols_of l.bases; v = l.run; l = lent l.initial.queue l.initial.answers; ns = l.initial.counts }) (heads_in l.heads) l.ring l.mark l.offer l.free l.k (lent l.queue l.answers) l.counts;
  passed : l.passed ≡ l.k;
  last : l.last ≡ None;
  first : l.k ≡ 0 → l.run.settings.room ≤ length l.answers - l.free;
}
