-- `lines::put_line` meets its contract: it is measured, and then its four parts are written one behind the other. Assumes nothing.
use mathlib.Core.List.{[], ◌∷◌}
use native.Mathlib.Omega.{arith}
use Rattle.lines.specs.Lines.{numbered}
use Rattle.lines.proofs.Putting.{length_parts, puts_none, puts_parts}
use Rattle.lines.proofs.put_line.Goals as goal

pub returns-in_err-left : goal.returns-in_err-left
returns-in_err-left c =
    let a = c.args in
    rw c.from_residual.ensures (puts_none (omega (arith, length_parts a.head.now a.name.now (numbered a.numbers.now) (10 ∷ []))))

pub returns-then-left-name : goal.returns-then-left-name
returns-then-left-name c =
    let a = c.args in
    puts_none (omega (arith, length_parts a.head.now a.name.now (numbered a.numbers.now) (10 ∷ [])))

pub returns : goal.returns
returns c =
    puts_parts
    (omega arith)
    c.put_bytes-a.ensures
    c.put_bytes-b.ensures
    c.put_fields-c.ensures
    c.put_bytes-d.ensures
