-- Laws of the columns that a layout is written to: what the base parts, the ranges and the marks come to. Assumes nothing.
use Prim.Native.Nat.{ℕ}
use mathlib.Core.Path.{◌≡◌, refl, sym, ap, ◌∙◌}
use mathlib.Core.List.{List, [], ◌∷◌, map, flat_map}
use mathlib.Core.Bool.{true, false}
use mathlib.Core.Option.{Option, some}
use native.Mathlib.Omega.{arith}
use lib.ListN.{length, replicate, length-map}
use Rattle.spans.specs.declared.Span.{Span}
use Rattle.fragment_rules.specs.declared.Parting.{Parting}
use Rattle.fragment_rules.specs.declared.Parting.TheVariants.{Bare, Single, EachRecord, EachClip, EachGap}
use Rattle.fragment_rules.specs.declared.Giving.TheVariants.{Clip}
use Rattle.spans.specs.Spans.{span, clipped}
use Rattle.layouts.specs.Fragments.{gaps}
use Rattle.layouts.specs.Given.{bases, each_record, present_all, all_given, mark_of}
use Rattle.layouts.specs.Layout.{Layout, if_any, shared, owning}
use Rattle.layouts.specs.Columns.{Columns, columns, holding, mark, part_start, part_stop, starts_of, stops_of, over}
use Rattle.span_columns.specs.Writing.{Fronts}
use Rattle.layouts.proofs.Bases.{map_map}

never : false ≡ true → ⊥
never e = let z : ◌≡◌ {A = ℕ} 0 1 = cc in omega arith

-- one value for each element
pub map_one : {A B C : Type 0} (f : B → C) (b : B) (l : List A) → replicate (length l) (f b) ≡ map f (map (λ (x : A). b) l)
map_one f b [] = refl
map_one f b (x ∷ l) = rw (map_one f b l)

-- one value in a column of base parts that are all the same
module _ (f : Option Span → ℕ) (p : Parting) (base : Span) (rs : List Span) where
  pub same_single : p ≡ Single → replicate (length (bases p base rs)) (f (some base)) ≡ map f (bases p base rs)
  unfolding bases
  same_single e = rw e

  pub same_records : p ≡ EachRecord → replicate (length (bases p base rs)) (f (some base)) ≡ map f (bases p base rs)
  unfolding bases
  same_records e = rw e (go rs)
    where
      go : (l : List Span) → replicate (length (each_record base l)) (f (some base)) ≡ map f (each_record base l)
      go [] = refl
      go (r ∷ l) = ap (λ (k : ℕ). replicate k (f (some base))) (length-map (r ∷ l) (λ (x : Span). some base)) ∙ map_one f (some base) (r ∷ l)

-- the columns of base parts that are all present
module _ (xs : List Span) where
  present_marks : replicate (length (present_all xs)) 1 ≡ map mark (present_all xs)
  present_marks = rw length-map (go xs)
    where
      go : (l : List Span) → replicate (length l) 1 ≡ map mark (present_all l)
      go [] = refl
      go (x ∷ l) = rw (go l)

  present_starts : starts_of xs ≡ map part_start (present_all xs)
  present_starts = sym (map_map part_start (λ (x : Span). some x) xs)

  present_stops : stops_of xs ≡ map part_stop (present_all xs)
  present_stops = sym (map_map part_stop (λ (x : Span). some x) xs)

-- the clips of all records are their pieces
clips : (base : Span) (rs : List Span) → all_given Clip base rs ≡ map (clipped base) rs
unfolding flat_map
clips base [] = refl
clips base (r ∷ rs) = rw (clips base rs)

-- spans that stand for base parts: as many, with their starts and stops
pub record Stands (xs : List Span) (bs : List (Option Span)) : Type 0 where
  pub count : length bs ≡ length xs
  pub starts : starts_of xs ≡ map part_start bs
  pub stops : stops_of xs ≡ map part_stop bs

stands : (xs : List Span) → Stands xs (present_all xs)
stands xs = record { count = length-map xs (λ (x : Span). some x); starts = present_starts xs; stops = present_stops xs }

module _ (p : Parting) (base : Span) (rs : List Span) where
  pub clips_stand : p ≡ EachClip → Stands (all_given Clip base rs) (bases p base rs)
  unfolding bases
  clips_stand e = rw (e, clips base rs) (stands (map (clipped base) rs))

  pub gaps_stand : p ≡ EachGap → Stands (gaps base rs) (bases p base rs)
  unfolding bases
  gaps_stand e = rw e (stands (gaps base rs))

-- the column of marks
pub marks : (p : Parting) (base : Span) (rs : List Span) → replicate (length (bases p base rs)) (mark_of p) ≡ map mark (bases p base rs)
unfolding bases
marks Bare base rs = refl
marks Single base rs = refl
marks EachRecord base rs = same_records mark EachRecord base rs refl
marks EachClip base rs = present_marks (map (clipped base) rs)
marks EachGap base rs = present_marks (gaps base rs)

-- the ranges of fragments that share the pieces
pub shared_starts : (k : ℕ) (bs : List (Option Span)) → replicate (length bs) 0 ≡ starts_of (shared k bs)
shared_starts k bs = map_one (λ (x : Span). x.start) (span 0 k) bs

pub shared_stops : (ps : List Span) (bs : List (Option Span)) → replicate (length bs) (length (if_any bs ps)) ≡ stops_of (shared (length ps) bs)
shared_stops ps [] = refl
shared_stops ps (b ∷ bs) = map_one (λ (x : Span). x.stop) (span 0 (length ps)) (b ∷ bs)

-- fragments that own their pieces are one a record
pub owning_count : (p : Parting) (base : Span) (rs : List Span) → owning p (length rs) ≡ true → length (bases p base rs) ≡ length rs
unfolding bases
owning_count Bare base rs h = absurd (never h)
owning_count Single base rs h = absurd (never h)
owning_count EachRecord base [] h = absurd (never h)
owning_count EachRecord base (r ∷ rs) h = length-map (r ∷ rs) (λ (x : Span). some base)
owning_count EachClip base rs h = absurd (never h)
owning_count EachGap base rs h = absurd (never h)

-- the seven columns hold a layout
pub laid : (l : Layout) (c : Columns) {p s e f t ps pe : List ℕ} → p ≡ over (map mark l.bases) c.present →
    Fronts (map part_start l.bases) (map part_stop l.bases) c.bstart c.bstop s e →
    Fronts (starts_of l.ranges) (stops_of l.ranges) c.from c.to f t →
    Fronts (starts_of l.pieces) (stops_of l.pieces) c.pstart c.pstop ps pe → columns p s e f t ps pe ≡ holding l c
laid l c m b r q = rw (m, b.starts_are, b.stops_are, r.starts_are, r.stops_are, q.starts_are, q.stops_are)
