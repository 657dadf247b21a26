-- The fragments of one base and one stream's records, from the words of the scope document, "Fragments".
use Rattle.std.specs.Prelude.{ℕ}
use mathlib.Core.List.{List, [], ◌∷◌, ◌++◌, map, flat_map}
use Rattle.std.proofs.Math.Option.{Option, none, some}
use Rattle.spans.specs.declared.Span.{Span}
use Rattle.fragment_rules.specs.declared.Choice.{Choice}
use Rattle.fragment_rules.specs.declared.Choice.TheVariants.{None, Whole, WholeWide, Piece, Inverse}
use Rattle.spans.specs.Spans.{stretch, clipped, before, after}
use Rattle.spans.specs.Turn.{gap_end, next_place}

-- "B None: nothing. B Whole or WholeWide: the record. B Piece: larger start, smaller stop. B Inverse: what lies before base start, then what lies after base stop, where not empty."
abbrev pub pieces : Choice → Span → Span → List Span
pieces None base r = []
pieces Whole base r = r ∷ []
pieces WholeWide base r = r ∷ []
pieces Piece base r = clipped base r ∷ []
pieces Inverse base r = before base r ++ after base r

-- "B of all records"
abbrev pub all_pieces : Choice → Span → List Span → List Span
all_pieces b base rs = flat_map (pieces b base) rs

-- the gaps from a place of the walk on: "A last gap runs to base stop if the place is below it."
unfoldable pub walk : ℕ → ℕ → List Span → List Span
walk place stop [] = stretch place stop
walk place stop (r ∷ rs) = stretch place (gap_end place r) ++ walk (next_place place r) stop rs

-- the gaps of a base: "Walk from base start"
abbrev pub gaps : Span → List Span → List Span
gaps base rs = walk base.start base.stop rs

-- a fragment: its base part, "absent or present", and its B pieces
pub record Fragment : Type 0 where
  pub base : Option Span
  pub pieces : List Span

abbrev pub fragment : Option Span → List Span → Fragment
fragment b ps = record { base = b; pieces = ps }

-- "A Whole: no records, one fragment with the base and no B; else one fragment a record, with that record's B."
abbrev pub whole : Choice → Span → List Span → List Fragment
whole b base [] = fragment (some base) [] ∷ []
whole b base (r ∷ rs) = map (λ (x : Span). fragment (some base) (pieces b base x)) (r ∷ rs)

-- "A None or WholeWide: one fragment, base absent or present, B of all records. A Piece: one fragment a record, base clipped to it, B of all records. A Inverse: one fragment a gap, B of all records."
unfoldable pub fragments : Choice → Choice → Span → List Span → List Fragment
fragments None b base rs = fragment none (all_pieces b base rs) ∷ []
fragments Whole b base rs = whole b base rs
fragments WholeWide b base rs = fragment (some base) (all_pieces b base rs) ∷ []
fragments Piece b base rs = map (λ (r : Span). fragment (some (clipped base r)) (all_pieces b base rs)) rs
fragments Inverse b base rs = map (λ (g : Span). fragment (some g) (all_pieces b base rs)) (gaps base rs)
