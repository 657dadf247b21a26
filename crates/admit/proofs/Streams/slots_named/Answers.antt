-- `Streams::slots_named`: one record that names no row is enough; else all were gone through.
use mathlib.Core.Path.{sym, ◌∙◌}
use native.Mathlib.Omega.{arith}
use Rattle.admit.proofs.NamedLaws.{slots_pass, slots_fail}
use Rattle.admit.proofs.Streams.slots_named.Goals as goal

pub returns-then-not-is_named : goal.returns-then-not-is_named
returns-then-not-is_named c =
    sym (slots_fail _ _ _ c.args.ring _ _ c.loop-k-test.true (sym (rw c.slot-slot.ensures at c.is_named.ensures) ∙ c.if-not-is_named.true))

pub returns : goal.returns
returns c = sym (slots_pass _ _ _ c.args.ring _ (λ k h. c.loop-k.invariant k (omega (arith, h, c.loop-k-test.false))))
