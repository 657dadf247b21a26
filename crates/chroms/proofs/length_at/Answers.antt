-- `chroms::length_at` meets its contract: each way to end is a law of the line. Assumes nothing.
use Rattle.std.proofs.Common.{arith, sym, ◌∙◌}
use Rattle.chroms.proofs.Entries.{two_none, two_lf, length_to}
use Rattle.chroms.proofs.length_at.Goals as goal

pub returns-in-None : goal.returns-in-None
returns-in-None c =
    let e = sym c.number_at.ensures ∙ c.in_ok-length.was in
    let f = length_to c.requires.0 c.requires.1 c.requires.2 e in
    two_none c.requires.0 c.requires.1 c.requires.2 e (omega (arith, f.inside, c.in-None.ensures.lookup))

pub returns-in-Some-eq10 : goal.returns-in-Some-eq10
returns-in-Some-eq10 c =
    let at = c.in-Some-eq10.ensures.lookup.3 in
    two_lf c.requires.0 c.requires.1 c.requires.2 (sym c.number_at.ensures ∙ c.in_ok-length.was) at.0 (sym (at.1 0) ∙ c.in-Some-eq10.field-0-test)
