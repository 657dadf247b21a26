-- The counts of `specs.Most` are enough, and the promise leaves one result. Assumes nothing.
use Prim.Native.Nat.{ℕ, ◌+◌, ◌*◌, ◌≤◌, min, max}
use mathlib.Core.Path.{◌≡◌, sym, ap, ◌∙◌}
use mathlib.Core.List.{List, [], ◌∷◌, flat_map}
use mathlib.Core.Bool.{Bool, true, false, ◌&&◌}
use mathlib.Core.Option.{Option, some}
use native.Mathlib.Omega.{arith}
use native.Mathlib.Nat.{suc-mul}
use borrow.Author.Tests.{le-leb}
use lib.Dec.{ltb, leb}
use lib.ListN.{length, length-append, length-map}
use Rattle.spans.specs.declared.Span.{Span}
use Rattle.fragment_rules.specs.declared.Choice.{Choice}
use Rattle.fragment_rules.specs.declared.Choice.TheVariants.{None, Whole, WholeWide, Piece, Inverse}
use Rattle.layouts.specs.declared.Refusal.{Refusal}
use Rattle.layouts.specs.declared.Refusal.TheVariants.{Room, Backwards, Records}
use Rattle.layouts.specs.declared.Written.{Written}
use Rattle.std.specs.Prelude.{Result, Ok, Err}
use Rattle.spans.specs.Spans.{stretch, only_if, span, clipped, before, after}
use Rattle.layouts.specs.Fragments.{pieces, all_pieces, walk, gaps, fragment, fragments, whole}
use Rattle.spans.specs.Turn.{gap_end, next_place}
use Rattle.fragment_rules.specs.Rules.{rule_of, giving_of}
use Rattle.layouts.specs.Given.{all_given}
use Rattle.layouts.specs.Columns.{Columns}
use Rattle.layouts.specs.Layout.{layout, if_any}
use Rattle.layouts.specs.Judged.{judged, unless, wrote, all_fitting}
use Rattle.parts.specs.Promise.{Parted}
use Rattle.parts.specs.Most.{most_fragments, most_pieces}
use Rattle.layouts.proofs.Reading.{given_is, fragments_count}

-- a stretch is one span at most
short : (a e : ℕ) → length (stretch a e) ≤ 1
short a e = go (ltb a e)
  where
    go : (t : Bool) → length (only_if t (span a e)) ≤ 1
    go true = omega arith
    go false = omega arith

-- one gap more than records, at most
few_gaps : (place stop : ℕ) (rs : List Span) → length (walk place stop rs) ≤ length rs + 1
unfolding walk
few_gaps place stop [] = omega (arith, short place stop)
few_gaps place stop (r ∷ rs) =
    omega (arith, length-append (stretch place (gap_end place r)) (walk (next_place place r) stop rs), short place (gap_end place r), few_gaps (next_place place r) stop rs)

-- at most k pieces a record are at most k times as many as records
few_each : (f : Span → List Span) (k : ℕ) → ((r : Span) → length (f r) ≤ k) → (rs : List Span) → length (flat_map f rs) ≤ length rs * k
unfolding flat_map
few_each f k h [] = omega arith
few_each f k h (r ∷ rs) = omega (arith, length-append (f r) (flat_map f rs), h r, few_each f k h rs, suc-mul (length rs) k)

pub most_fragments_lem : (a b : Choice) (base : Span) (rs : List Span) → length (fragments a b base rs) ≤ most_fragments a (length rs)
unfolding fragments
most_fragments_lem None b base rs = omega arith
most_fragments_lem WholeWide b base rs = omega arith
most_fragments_lem Piece b base rs = omega (arith, length-map rs (λ (r : Span). fragment (some (clipped base r)) (all_pieces b base rs)))
most_fragments_lem Inverse b base rs = omega (arith, length-map (gaps base rs) (λ (g : Span). fragment (some g) (all_pieces b base rs)), few_gaps base.start base.stop rs)
most_fragments_lem Whole b base rs = go rs
  where
    go : (l : List Span) → length (whole b base l) ≤ max 1 (length l)
    go [] = omega arith
    go (r ∷ l) = omega (arith, length-map (r ∷ l) (λ (x : Span). fragment (some base) (pieces b base x)))

-- what one record gives, at most
few_pieces : (b : Choice) (base : Span) (rs : List Span) → length (all_pieces b base rs) ≤ most_pieces b (length rs)
few_pieces None base rs = omega (arith, few_each (pieces None base) 0 (λ r. omega arith) rs)
few_pieces Whole base rs = omega (arith, few_each (pieces Whole base) 1 (λ r. omega arith) rs)
few_pieces WholeWide base rs = omega (arith, few_each (pieces WholeWide base) 1 (λ r. omega arith) rs)
few_pieces Piece base rs = omega (arith, few_each (pieces Piece base) 1 (λ r. omega arith) rs)
few_pieces Inverse base rs =
    omega (
      arith,
      few_each (pieces Inverse base) 2 (λ r. omega (
        arith,
        length-append (before base r) (after base r),
        short r.start (min r.stop base.start),
        short (max r.start base.stop) r.stop,
      )) rs,
    )

none_or_all : (bs : List (Option Span)) (ps : List Span) → length (if_any bs ps) ≤ length ps
none_or_all [] ps = omega arith
none_or_all (b ∷ bs) ps = omega arith

pub most_pieces_lem : (a b : Choice) (base : Span) (rs : List Span) → length (layout (rule_of a b) base rs).pieces ≤ most_pieces b (length rs)
most_pieces_lem a b base rs =
    let e : all_given (giving_of b) base rs ≡ all_pieces b base rs = ap (λ (g : Span → Span → List Span). flat_map (g base) rs) (given_is b) in
    omega (arith, none_or_all (layout (rule_of a b) base rs).bases (all_given (giving_of b) base rs), ap length e, few_pieces b base rs)

-- with that many slots lent, no call is refused for room
not_room : (t : Bool) (x : Refusal) (r : Result Written Refusal) → (x ≡ Room → ⊥) → unless t x r ≡ Err Room → r ≡ Err Room
not_room true x r h e = e
not_room false x r h e = absurd (h (let q : ◌≡◌ {A = Result Written Refusal} (Err x) (Err Room) = e in cc))

pub enough : (a b : Choice) (base : Span) (rs : List Span) (slots room : ℕ) → most_fragments a (length rs) ≤ slots → most_pieces b (length rs) ≤ room →
    judged (rule_of a b) base rs slots room ≡ Err Room → ⊥
enough a b base rs slots room p q e =
    let n = length (layout (rule_of a b) base rs).bases in
    let m = length (layout (rule_of a b) base rs).pieces in
    let fits : leb n slots && leb m room ≡ true = rw (le-leb n slots (omega (arith, fragments_count a b base rs, most_fragments_lem a b base rs)), le-leb m room (omega (arith, most_pieces_lem a b base rs))) in
    let w : Result Written Refusal = unless (leb n slots && leb m room) Room (Ok (wrote n m)) in
    let z : w ≡ Err Room = not_room (all_fitting base 0 rs) Records w (λ h. differ_records h) (not_room (leb base.start base.stop) Backwards (unless (all_fitting base 0 rs) Records w) (λ h. differ_backwards h) e) in
    let y : ◌≡◌ {A = Result Written Refusal} (Ok (wrote n m)) (Err Room) = rw fits at z in
    let k : ◌≡◌ {A = ℕ} 0 1 = cc in
    omega arith
  where
    differ_records : Records ≡ Room → ⊥
    differ_records h = let k : ◌≡◌ {A = ℕ} 0 1 = cc in omega arith

    differ_backwards : Backwards ≡ Room → ⊥
    differ_backwards h = let k : ◌≡◌ {A = ℕ} 0 1 = cc in omega arith

-- two results that the promise allows are one
pub one_result : (a b : Choice) (base : Span) (starts stops : List ℕ) (c : Columns) {r r₁ : Result Written Refusal} {c' c₁ : Columns} →
    Parted a b base starts stops c r c' → Parted a b base starts stops c r₁ c₁ → (r ≡ r₁) × (c' ≡ c₁)
one_result a b base starts stops c {r} {r₁} p q =
    let e : r ≡ r₁ = p.answer_is ∙ sym q.answer_is in
    (e, p.columns_are ∙ rw e (sym q.columns_are))
