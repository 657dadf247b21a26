-- `give_all` meets its contract: its tests, and then its loop.
use Rattle.std.proofs.Common.{sym, ◌∙◌}
use Rattle.many.proofs.Whole.{told_going, none_given, over_given, wrong_given}
use Rattle.many.proofs.give_all.Goals as goal

pub returns-then-even-bases : goal.returns-then-even-bases
returns-then-even-bases c = none_given _ c.are_even-even.ensures c.if-even-bases.true _ c.none_passed.ensures

pub returns-in-Over : goal.returns-in-Over
returns-in-Over c =
    over_given _ c.are_even-even.ensures c.if-even-bases.false _ (sym c.stage.ensures ∙ c.in-Over.is) _ c.none_passed-in-Over.ensures

pub returns-then-not-is_right : goal.returns-then-not-is_right
returns-then-not-is_right c =
    wrong_given _ c.are_even-even.ensures (told_going _ _ c.stage.ensures c.in_default.not-Over) _ c.none_passed-then-not-is_right.ensures c.if-even-bases.false (c.if-not-even.false) (record { ring = c.ring.ensures; is = c.is_right.ensures }) (c.if-not-is_right.true)
