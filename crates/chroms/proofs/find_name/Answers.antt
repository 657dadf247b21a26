-- `chroms::find_name` meets its contract. Assumes nothing.
use Rattle.std.proofs.Common.{sym, ◌∙◌}
use Rattle.chroms.proofs.Checks.{found_at, found_refused}
use Rattle.chroms.proofs.find_name.Goals as goal

pub returns-in_err-names : goal.returns-in_err-names
returns-in_err-names c = c.from_residual.ensures ∙ sym (found_refused _ _ _ _ c.in_err-names.ensures)

pub returns : goal.returns
returns c = sym (found_at _ _ _ _ _ c.in_ok-names.ensures.1 (rw c.in_ok-names.ensures.0 at c.find_from.ensures))
