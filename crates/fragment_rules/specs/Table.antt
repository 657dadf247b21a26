-- The table of the rules of all twenty-five pairs, as the source has it: a row for each choice for A, in it an entry for each choice for B.
use Rattle.std.specs.Prelude.{List, [], ◌∷◌}
use Rattle.fragment_rules.specs.declared.Parting.{Parting}
use Rattle.fragment_rules.specs.declared.Parting.TheVariants.{Bare, Single, EachRecord, EachClip, EachGap}
use Rattle.fragment_rules.specs.declared.Giving.{Giving}
use Rattle.fragment_rules.specs.declared.Giving.TheVariants.{Nothing, Record, Clip, Outside}
use Rattle.fragment_rules.specs.declared.Rule.{Rule}

abbrev pub entry : Parting → Giving → Rule
entry p g = record { 0 = p; 1 = g }

unfoldable pub table : List (List Rule)
table =
    (entry Bare Nothing ∷ entry Bare Record ∷ entry Bare Record ∷ entry Bare Clip ∷ entry Bare Outside ∷ [])
    ∷ (entry EachRecord Nothing ∷ entry EachRecord Record ∷ entry EachRecord Record ∷ entry EachRecord Clip ∷ entry EachRecord Outside ∷ [])
    ∷ (entry Single Nothing ∷ entry Single Record ∷ entry Single Record ∷ entry Single Clip ∷ entry Single Outside ∷ [])
    ∷ (entry EachClip Nothing ∷ entry EachClip Record ∷ entry EachClip Record ∷ entry EachClip Clip ∷ entry EachClip Outside ∷ [])
    ∷ (entry EachGap Nothing ∷ entry EachGap Record ∷ entry EachGap Record ∷ entry EachGap Clip ∷ entry EachGap Outside ∷ [])
    ∷ []
