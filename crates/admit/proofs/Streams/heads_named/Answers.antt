-- `Streams::heads_named`: one head that names no row is enough.
use mathlib.Core.Path.{sym, ◌∙◌}
use Rattle.basics.proofs.EdgeLaws.{upto_fail}
use Rattle.admit.specs.Right.{head_named, heads_named}
use Rattle.admit.proofs.Streams.heads_named.Goals as goal

pub returns-then-not-is_head_named : goal.returns-then-not-is_head_named
unfolding heads_named
returns-then-not-is_head_named c =
    let s = c.args.self in
    sym (upto_fail (head_named s.count s.ended.now s.row.now s.from.now s.to.now) s.count c.loop-k.k c.loop-k-test.true (sym c.is_head_named.ensures ∙ c.if-not-is_head_named.true))
