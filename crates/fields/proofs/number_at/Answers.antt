-- `fields::number_at` meets its contract: 19 digits at most are counted, and the byte behind them decides. Assumes nothing.
use Rattle.std.proofs.Common.{arith, sym}
use Rattle.fields.proofs.Numbers.{counting_few, number_empty, number_other, number_ends}
use Rattle.fields.proofs.number_at.Goals as goal

pub returns-then-digits-from : goal.returns-then-digits-from
returns-then-digits-from c =
    let r = c.digits_from-digits.ensures in
    sym (number_empty r.counting c.if-digits-from.true (λ h. r.stopped (omega (arith, h))))

pub returns-then-is_over : goal.returns-then-is_over
returns-then-is_over c =
    let r = c.digits_from-digits.ensures in
    sym (number_ends r.counting (c.is_over.ensures.over c.if-is_over.true) (omega (arith, r.counting.low)) (omega (arith, r.high)) (omega (arith, counting_few r.counting 19 (omega (arith, r.high)))))

pub returns-then-digits-far : goal.returns-then-digits-far
returns-then-digits-far c =
    let r = c.digits_from-digits.ensures in
    sym (number_other r.counting (c.is_over.ensures.inside c.if-is_over.false) (c.is_over.ensures.more c.if-is_over.false) (r.stopped (omega (arith, c.is_over.ensures.inside c.if-is_over.false))))
