-- `replies::put_records` meets its contract: the lines that are left give the same. Assumes nothing.
use mathlib.Core.Path.{ap}
use native.Mathlib.Omega.{arith}
use Prim.Native.Nat.{ℕ}
use Rattle.std.specs.Prelude.{Option, ok_or}
use Rattle.lines.specs.declared.Cut.{Cut}
use Rattle.replies.proofs.Writing.{writing_line, writing_full, writing_done}
use Rattle.replies.proofs.put_records.Goals as goal

pub loop-i-preserved : goal.loop-i-preserved
loop-i-preserved c =
    let cut : Cut = record { 0 = c.loop-i.place } in
    writing_line c.loop-i.invariant cut (omega arith) c.put_record-put.ensures (ap (λ (o : Option ℕ). ok_or o cut) c.in-Some.is)

pub returns-in_default : goal.returns-in_default
returns-in_default c =
    let cut : Cut = record { 0 = c.loop-i.place } in
    writing_full c.loop-i.invariant (omega arith) c.put_record-put.ensures (ap (λ (o : Option ℕ). ok_or o cut) c.in_default.is)

pub returns : goal.returns
returns c = writing_done c.loop-i.invariant (omega arith)
