-- `inputs::parts_all` meets its contract: by whether the ends rise, and by the last of them. Assumes nothing.
use Rattle.std.proofs.Common.{true, false, refl, ap, ◌∙◌}
use Rattle.std.specs.Option.{unwrap_or}
use Rattle.std.proofs.lemmas.List.Sorted.{non_decreasing_from_is_sorted}
use Rattle.inputs.proofs.Parting.{last_is, ends_tested}
use Rattle.inputs.proofs.parts_all.Goals as goal

pub returns-then-is_sorted : goal.returns-then-is_sorted
returns-then-is_sorted c =
    ends_tested _ _ true (rw c.if-is_sorted.true at (non_decreasing_from_is_sorted _ _ c.is_sorted.ensures.cases)) (c.unwrap_or-last.ensures ∙ ap (λ o. unwrap_or o 0) (c.copied.ensures ∙ c.last.ensures.value) ∙ last_is c.args.ends.now)

pub returns-else-is_sorted : goal.returns-else-is_sorted
returns-else-is_sorted c =
    c.if-is_sorted.false ∙ ends_tested _ _ false (rw c.if-is_sorted.false at (non_decreasing_from_is_sorted _ _ c.is_sorted.ensures.cases)) refl
