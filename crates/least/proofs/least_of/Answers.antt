-- `least_of` meets its contract. The loop's invariant: the best so far is that of the places looked at.
use Rattle.std.proofs.Common.{arith, refl, sym, ap, ◌∙◌, ◌≡◌}
use Rattle.least.specs.Least.{stream_of}
use Rattle.least.proofs.LeastLaws.{one_back}
use Rattle.least.proofs.least_of.Goals as goal

pub loop-k-init : goal.loop-k-init
loop-k-init c = refl

pub loop-k-preserved : goal.loop-k-preserved
loop-k-preserved c = one_back c.args.q c.args.ended c.args.n c.loop-k.k c.loop-k-test.true (omega arith) c.loop-k.invariant c.better-best.ensures

pub returns-in_err-best : goal.returns-in_err-best
returns-in_err-best c =
    let z : c.loop-k.k ≡ 0 = omega (arith, c.loop-k-test.false) in
    c.from_residual.ensures ∙ ap stream_of (sym c.in_err-best.was ∙ rw z at c.loop-k.invariant)

pub returns : goal.returns
returns c =
    let z : c.loop-k.k ≡ 0 = omega (arith, c.loop-k-test.false) in
    ap stream_of (sym c.in_ok-best.was ∙ rw z at c.loop-k.invariant)
