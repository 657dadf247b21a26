-- `chroms::check_list` meets its contract: the tests come in the definition's order. Assumes nothing.
use Rattle.std.proofs.Common.{arith, sym}
use Rattle.chroms.proofs.Checks.{check_outside, check_uncounted, check_fine, check_names, all_fine}
use Rattle.chroms.proofs.check_list.Goals as goal

pub returns-in_default : goal.returns-in_default
returns-in_default c = sym (check_outside _ _ _ c.in_default.ensures)

pub returns-then-count-lt1 : goal.returns-then-count-lt1
returns-then-count-lt1 c = sym (check_uncounted _ _ _ c.in-Some.ensures.1 (λ p q. omega (arith, p, q)))

pub returns-then-not-are_fine : goal.returns-then-not-are_fine
returns-then-not-are_fine c =
    sym (check_names _ _ _ c.in-Some.ensures.1 (omega arith) (omega arith) (sym (all_fine _ _ _ c.in-Some.ensures.1 _ (rw c.in-Some.ensures.0 at c.if-not-are_fine.ensures))))

pub returns : goal.returns
returns c =
    sym (check_fine _ _ _ c.in-Some.ensures.1 (omega arith) (omega arith) (sym (all_fine _ _ _ c.in-Some.ensures.1 _ (rw c.in-Some.ensures.0 at c.if-not-are_fine.ensures))))
