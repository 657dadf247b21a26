-- `least_of_two` meets its contract: of one stream its mark decides, of two their marks and their heads.
use Rattle.std.proofs.Common.{arith, refl, sym, ◌∙◌}
use Rattle.least.proofs.LeastLaws.{of_one, of_both}
use Rattle.least.proofs.least_of_two.Goals as goal

pub returns-then-has_ended : goal.returns-then-has_ended
returns-then-has_ended c = of_one c.args.q c.args.ended c.args.n c.requires.0 (omega (arith, c.if-n-lt2.true)) _ (sym c.if-has_ended.true ∙ c.has_ended.ensures)

pub returns-else-has_ended : goal.returns-else-has_ended
returns-else-has_ended c = of_one c.args.q c.args.ended c.args.n c.requires.0 (omega (arith, c.if-n-lt2.true)) _ (sym c.if-has_ended.false ∙ c.has_ended.ensures)

pub returns-then-has_ended-3 : goal.returns-then-has_ended-3
returns-then-has_ended-3 c =
    of_both c.args.q c.args.ended c.args.n (omega (arith, c.if-n-lt2.false)) c.requires.1 _ _ _ (sym c.if-has_ended-3.true ∙ c.has_ended-then-has_ended-2.ensures) (sym c.if-has_ended-2.true ∙ c.has_ended-2.ensures) refl

pub returns-else-has_ended-3 : goal.returns-else-has_ended-3
returns-else-has_ended-3 c =
    of_both c.args.q c.args.ended c.args.n (omega (arith, c.if-n-lt2.false)) c.requires.1 _ _ _ (sym c.if-has_ended-3.false ∙ c.has_ended-then-has_ended-2.ensures) (sym c.if-has_ended-2.true ∙ c.has_ended-2.ensures) refl

pub returns-then-has_ended-4 : goal.returns-then-has_ended-4
returns-then-has_ended-4 c =
    of_both c.args.q c.args.ended c.args.n (omega (arith, c.if-n-lt2.false)) c.requires.1 _ _ _ (sym c.if-has_ended-4.true ∙ c.has_ended-3.ensures) (sym c.if-has_ended-2.false ∙ c.has_ended-2.ensures) refl

pub returns-then-is_sooner : goal.returns-then-is_sooner
returns-then-is_sooner c =
    of_both c.args.q c.args.ended c.args.n (omega (arith, c.if-n-lt2.false)) c.requires.1 _ _ _ (sym c.if-has_ended-4.false ∙ c.has_ended-3.ensures) (sym c.if-has_ended-2.false ∙ c.has_ended-2.ensures) (sym c.if-is_sooner.true ∙ c.is_sooner.ensures ∙ rw c.best_at.ensures)

pub returns : goal.returns
returns c =
    of_both c.args.q c.args.ended c.args.n (omega (arith, c.if-n-lt2.false)) c.requires.1 _ _ _ (sym c.if-has_ended-4.false ∙ c.has_ended-3.ensures) (sym c.if-has_ended-2.false ∙ c.has_ended-2.ensures) (sym c.if-is_sooner.false ∙ c.is_sooner.ensures ∙ rw c.best_at.ensures)
