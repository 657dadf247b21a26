-- `fields::twentieth` meets its contract: one digit more, if it is one, fits and is the last. Assumes nothing.
use Rattle.std.proofs.Common.{arith, sym, ◌∙◌, get_or}
use Rattle.fields.proofs.Numbers.{counting_more, number_other, number_large, number_long, number_ends, digit_none}
use Rattle.fields.proofs.twentieth.Goals as goal

pub returns-then-not-matches : goal.returns-then-not-matches
returns-then-not-matches c = sym (number_other c.requires.0 c.requires.2 c.requires.3 (digit_none (get_or c.args.text.now c.args.at 0) (λ p q. omega (arith, p, q))))

pub returns-in_err-checked_mul : goal.returns-in_err-checked_mul
returns-in_err-checked_mul c =
    c.from_residual.ensures ∙ sym (number_large c.requires.0 c.requires.2 (omega arith) (omega arith) (omega (arith, c.in_err-checked_mul.ensures)))

pub returns-in_err-value : goal.returns-in_err-value
returns-in_err-value c =
    c.from_residual-in_err-value.ensures ∙ sym (number_large c.requires.0 c.requires.2 (omega arith) (omega arith) (omega (arith, c.in_err-value.ensures, c.in_ok-checked_mul.ensures)))

pub returns-then-is_over : goal.returns-then-is_over
returns-then-is_over c =
    let n = counting_more c.requires.0 c.requires.2 (omega arith) (omega arith) {w = c.in_ok-value.value} (omega (arith, c.in_ok-value.ensures, c.in_ok-checked_mul.ensures)) in
    sym (number_ends n (c.is_over.ensures.over c.if-is_over.true) (omega arith) (omega arith) (omega arith))

pub returns : goal.returns
returns c =
    let n = counting_more c.requires.0 c.requires.2 (omega arith) (omega arith) {w = c.in_ok-value.value} (omega (arith, c.in_ok-value.ensures, c.in_ok-checked_mul.ensures)) in
    sym (number_long n (c.is_over.ensures.inside c.if-is_over.false) (c.is_over.ensures.more c.if-is_over.false) (omega arith))
