-- `NameList::is_within` meets its contract: the columns are equally long, and each name is inside. Assumes nothing.
use Rattle.std.proofs.Common.{sym, ◌∙◌}
use borrow.Author.Tests.{ne_eqb}
use Rattle.fields.proofs.Naming.{within_if, within_uneven}
use Rattle.fields.proofs.NameList.is_within.Goals as goal

pub returns-then-self : goal.returns-then-self
returns-then-self c = within_if _ _ _ _ c.if-self.true c.are_inside.ensures

pub returns-else-self : goal.returns-else-self
returns-else-self c = ne_eqb _ _ c.if-self.false ∙ sym (within_uneven _ _ _ (λ h. c.if-self.false (sym h)))
