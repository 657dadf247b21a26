-- `chroms::line_at` meets its contract: each way to end is a law of the line. Assumes nothing.
use Rattle.std.proofs.Common.{arith, ◌∙◌}
use Rattle.chroms.proofs.Entries.{one_none, one_lf}
use Rattle.chroms.proofs.line_at.Goals as goal

pub returns-in-None : goal.returns-in-None
returns-in-None c = one_none c.field_end-a.ensures (omega (arith, c.in-None.ensures.lookup))

pub returns-in-Some : goal.returns-in-Some
returns-in-Some c =
    let at = c.in-Some.ensures.lookup.3 in
    one_lf c.field_end-a.ensures at.0 (λ h. c.in-Some.field-0-test.1 (at.1 0 ∙ h))
