-- Worked examples, computed of the definitions.
use Rattle.std.specs.Prelude.{◌≡◌, refl, ℕ, Result, Ok, Err}
use mathlib.Core.List.{List, [], ◌∷◌, flat_map}
use Rattle.spans.specs.declared.Span.{Span}
use Rattle.fragment_rules.specs.declared.Choice.TheVariants.{Whole, Piece, Inverse}
use Rattle.fragment_rules.specs.Rules.{rule_of}
use Rattle.layouts.specs.declared.Refusal.{Refusal}
use Rattle.layouts.specs.declared.Refusal.TheVariants.{Backwards, Records, Room}
use Rattle.layouts.specs.declared.Written.{Written}
use Rattle.spans.specs.Spans.{span}
use Rattle.layouts.specs.Fragments.{pieces, walk, gaps}
use Rattle.layouts.specs.Given.{bases}
use Rattle.layouts.specs.Judged.{all_fitting, wrote, judged}

-- "Base 10-20: record 5-12 has piece 10-12, inverse 5-10; 8-25 has inverse 8-10, 20-25." "Base 0-20, records 2-5, 8-10: gaps 0-2, 5-8, 10-20."
pub worked : (pieces Piece (span 10 20) (span 5 12) ≡ span 10 12 ∷ [])
    × (pieces Inverse (span 10 20) (span 5 12) ≡ span 5 10 ∷ [])
    × (pieces Inverse (span 10 20) (span 8 25) ≡ span 8 10 ∷ span 20 25 ∷ [])
    × (gaps (span 0 20) (span 2 5 ∷ span 8 10 ∷ []) ≡ span 0 2 ∷ span 5 8 ∷ span 10 20 ∷ [])
unfolding walk
worked = (refl, refl, refl, refl)

-- the answer to a base and records under A Inverse and B Whole, with so many slots for fragments and for pieces
abbrev answer : Span → List Span → ℕ → ℕ → Result Written Refusal
answer base rs slots room = judged (rule_of Inverse Whole) base rs slots room

-- "a base with start > stop is 6; then 13, then 14": all three at once; a record that touches, with no slots; one slot too few for the gaps, for the pieces; just enough
pub refusals : (answer (span 20 10) (span 20 30 ∷ []) 0 0 ≡ Err Backwards)
    × (answer (span 10 20) (span 20 30 ∷ []) 0 0 ≡ Err Records)
    × (answer (span 0 20) (span 2 5 ∷ span 8 10 ∷ []) 2 2 ≡ Err Room)
    × (answer (span 0 20) (span 2 5 ∷ span 8 10 ∷ []) 3 1 ≡ Err Room)
    × (answer (span 0 20) (span 2 5 ∷ span 8 10 ∷ []) 3 2 ≡ Ok (wrote 3 2))
unfolding walk bases all_fitting flat_map
refusals = (refl, refl, refl, refl, refl)
