-- `listing::list_bases` meets its contract: one base more at a time. Assumes nothing.
use mathlib.Core.Path.{refl, sym, ◌∙◌}
use native.Mathlib.Omega.{arith}
use Rattle.std.proofs.Common.{rules}
use Rattle.pulls.specs.Pulls.{lent}
use Rattle.listing.proofs.Telling.{telling_start, telling_end, telling_done, telling_on, bases_fewer}
use Rattle.listing.proofs.list_bases.Goals as goal

pub loop-i-init : goal.loop-i-init
loop-i-init c =
    (telling_start _ _ _ _ _ _ (lent _ _) _ c.requires.1 c.requires.2, record { queue = refl; answers = refl; buffer = refl })

pub list_row-base-requires : goal.list_row-base-requires
list_row-base-requires c = bases_fewer c.requires.0 c.loop-i-test.true

pub returns-in_default : goal.returns-in_default
returns-in_default c =
    telling_done c.loop-i.invariant.0 c.loop-i-test.true c.list_row-base.ensures (sym c.step_after.ensures ∙ c.in_default.is)

pub loop-i-preserved : goal.loop-i-preserved
loop-i-preserved c =
    let kept = c.loop-i.invariant.1 in (
      telling_on c.loop-i.invariant.0 c.loop-i-test.true c.list_row-base.ensures (sym c.step_after.ensures ∙ c.in-Some.is) (search rules),
      record { queue = omega (arith, kept.queue); answers = omega (arith, kept.answers); buffer = omega (arith, kept.buffer) },
    )

pub returns : goal.returns
returns c = telling_end c.loop-i.invariant.0 c.loop-i-test.false
