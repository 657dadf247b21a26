-- `lines::put_bytes` meets its contract: after i turns the buffer is `paste` of the first i bytes. Assumes nothing.
use mathlib.Core.Path.{◌≡◌, refl, ◌∙◌}
use native.Mathlib.Omega.{arith}
use native.Mathlib.Numerals.{add-one}
use lib.ListN.{length, length-set}
use lib.Seq.{paste-suc}
use Rattle.lines.proofs.Laying.{laid_paste}
use Rattle.lines.proofs.put_bytes.Goals as goal

pub loop-i-preserved : goal.loop-i-preserved
loop-i-preserved c =
    let a = c.args in
    let i = c.loop-i.i in
    let inv = c.loop-i.invariant in
    (simp length-set inv.0, rw (inv.1, add-one) (paste-suc a.out.now a.at a.bytes.now i 0 (omega arith) (omega arith)))

pub returns : goal.returns
returns c =
    let a = c.args in
    let e : c.loop-i.i ≡ length a.bytes.now = omega arith in
    record { stop = refl; laid_in = c.loop-i.invariant.1 ∙ rw e (laid_paste a.out.now a.at a.bytes.now) }
