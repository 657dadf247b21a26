-- What the two words of a rule mean, by the fragments' definitions: what a record gives, and the base parts of the fragments.
use Rattle.std.specs.Prelude.{ℕ}
use mathlib.Core.List.{List, [], ◌∷◌, map, flat_map}
use Rattle.std.proofs.Math.Option.{Option, none, some}
use Rattle.spans.specs.declared.Span.{Span}
use Rattle.fragment_rules.specs.declared.Choice.TheVariants.{None, Whole, Piece, Inverse}
use Rattle.fragment_rules.specs.declared.Parting.{Parting}
use Rattle.fragment_rules.specs.declared.Parting.TheVariants.{Bare, Single, EachRecord, EachClip, EachGap}
use Rattle.fragment_rules.specs.declared.Giving.{Giving}
use Rattle.fragment_rules.specs.declared.Giving.TheVariants.{Nothing, Record, Clip, Outside}
use Rattle.spans.specs.Spans.{clipped}
use Rattle.layouts.specs.Fragments.{pieces, gaps}

-- what a record gives: the pieces of the choice that the kind of giving stands for
abbrev pub given : Giving → Span → Span → List Span
given Nothing = pieces None
given Record = pieces Whole
given Clip = pieces Piece
given Outside = pieces Inverse

-- what all records give
abbrev pub all_given : Giving → Span → List Span → List Span
all_given g base rs = flat_map (given g base) rs

-- 0 where the base is absent, 1 where it is present
abbrev pub mark_of : Parting → ℕ
mark_of Bare = 0
mark_of Single = 1
mark_of EachRecord = 1
mark_of EachClip = 1
mark_of EachGap = 1

-- base parts that are all present
abbrev pub present_all : List Span → List (Option Span)
present_all xs = map (λ (x : Span). some x) xs

-- the base part of one fragment a record, and of one where there is none
abbrev pub each_record : Span → List Span → List (Option Span)
each_record base [] = some base ∷ []
each_record base (r ∷ rs) = map (λ (x : Span). some base) (r ∷ rs)

-- the base parts of the fragments, one a fragment
unfoldable pub bases : Parting → Span → List Span → List (Option Span)
bases Bare base rs = none ∷ []
bases Single base rs = some base ∷ []
bases EachRecord base rs = each_record base rs
bases EachClip base rs = present_all (map (clipped base) rs)
bases EachGap base rs = present_all (gaps base rs)
