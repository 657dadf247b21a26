-- `lines::put_decimal` meets its contract: what is left to write gives the same list. Assumes nothing.
use native.Mathlib.Omega.{arith}
use Rattle.lines.proofs.Spelling.{spelling_start, spelling_digit, spelling_first}
use Rattle.lines.proofs.put_decimal.Goals as goal

pub loop-k-init : goal.loop-k-init
loop-k-init c =
    let a = c.args in
    rw c.places-size.ensures.0 (spelling_start a.out.now a.at a.n (omega arith))

pub loop-k-preserved : goal.loop-k-preserved
loop-k-preserved c = spelling_digit c.loop-k.invariant (omega arith)

pub returns : goal.returns
returns c = record { stop = omega arith; laid_in = spelling_first c.loop-k.invariant (omega arith) }

pub bounds-out-at : goal.bounds-out-at
bounds-out-at c = omega (arith, c.loop-k.invariant.some, c.loop-k.invariant.room, c.loop-k.invariant.kept)
