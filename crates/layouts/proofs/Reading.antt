-- What a caller reads back from the columns are the fragments. Assumes nothing.
use Prim.Native.Nat.{ℕ, suc, ◌+◌, ◌≤◌}
use mathlib.Core.Path.{◌≡◌, refl, sym, ap, ap₂, ◌∙◌}
use mathlib.Core.List.{List, [], ◌∷◌, ◌++◌, map, flat_map, zip_with, append_assoc}
use mathlib.Core.Option.{Option, none, some}
use native.Mathlib.Omega.{arith}
use native.Mathlib.Nat.{zero-lt-suc, le_refl}
use borrow.Author.Tests.{lt-ltb}
use lib.ListN.{length, take, length-append, length-map}
use lib.Seq.{slice, take-length, take-append-le, take-append-add, take-append_seam, drop-append_seam, take_at}
use Rattle.spans.specs.declared.Span.{Span}
use Rattle.fragment_rules.specs.declared.Choice.{Choice}
use Rattle.fragment_rules.specs.declared.Choice.TheVariants.{None, Whole, WholeWide, Piece, Inverse}
use Rattle.spans.specs.Spans.{span, spans, clipped}
use Rattle.layouts.specs.Columns.{starts_of, stops_of, Columns, mark, part_start, part_stop, part, holding, read_back}
use Rattle.layouts.specs.Fragments.{pieces, gaps, Fragment, fragment, fragments}
use Rattle.layouts.specs.Given.{bases, present_all, given, all_given}
use Rattle.fragment_rules.specs.Rules.{giving_of, rule_of}
use Rattle.layouts.specs.Layout.{Layout, layout, shared, owned, if_any, held}
use Rattle.layouts.proofs.Bases.{map_map, length_owned}

-- ---- lists side by side

-- two lists in front of two others, side by side
zip_maps : {A B C D : Type 0} (h : B → C → D) (f : A → B) (g : A → C) (l : List A) (bs : List B) (cs : List C) →
    zip_with h (map f l ++ bs) (map g l ++ cs) ≡ map (λ (x : A). h (f x) (g x)) l ++ zip_with h bs cs
unfolding zip_with
zip_maps h f g [] bs cs = refl
zip_maps h f g (x ∷ l) bs cs = rw (zip_maps h f g l bs cs)

zip_fronts : {A B C : Type 0} (h : A → B → C) (us bs : List A) (cs ds : List B) → length us ≡ length cs →
    zip_with h (us ++ bs) (cs ++ ds) ≡ zip_with h us cs ++ zip_with h bs ds
unfolding zip_with
zip_fronts h [] bs [] ds e = refl
zip_fronts h [] bs (c ∷ cs) ds e = absurd (omega arith)
zip_fronts h (a ∷ us) bs [] ds e = absurd (omega arith)
zip_fronts h (a ∷ us) bs (c ∷ cs) ds e = rw (zip_fronts h us bs cs ds (omega arith))

length_zip : {A B C : Type 0} (h : A → B → C) (us : List A) (bs : List B) → length us ≡ length bs → length (zip_with h us bs) ≡ length us
unfolding zip_with
length_zip h [] bs e = refl
length_zip h (a ∷ us) [] e = absurd (omega arith)
length_zip h (a ∷ us) (b ∷ bs) e = ap suc (length_zip h us bs (omega arith))

-- a function that changes nothing
map_self : {A : Type 0} (f : A → A) → ((x : A) → f x ≡ x) → (l : List A) → map f l ≡ l
map_self f h [] = refl
map_self f h (x ∷ l) = ap₂ ◌∷◌ (h x) (map_self f h l)

-- ---- the columns, read back

-- each range ends within k pieces
abbrev Within : ℕ → List Span → Type 0
Within k [] = Unit
Within k (x ∷ xs) = (x.stop ≤ k) × Within k xs

-- pieces behind the last range are not seen
held_front : (bs : List (Option Span)) (xs ps qs : List Span) → Within (length ps) xs → held bs xs (ps ++ qs) ≡ held bs xs ps
unfolding zip_with
held_front [] xs ps qs w = refl
held_front (b ∷ bs) [] ps qs w = refl
held_front (b ∷ bs) (x ∷ xs) ps qs w = rw (take-append-le x.stop ps qs w.0, held_front bs xs ps qs w.1)

part_back : (b : Option Span) → part (mark b) (span (part_start b) (part_stop b)) ≡ b
part_back none = refl
part_back (some x) = refl

spans_back : (xs : List Span) (us bs : List ℕ) → spans (starts_of xs ++ us) (stops_of xs ++ bs) ≡ xs ++ spans us bs
spans_back xs us bs =
    zip_maps span (λ (x : Span). x.start) (λ (x : Span). x.stop) xs us bs
    ∙ ap (λ (l : List Span). l ++ spans us bs) (map_self (λ (x : Span). span x.start x.stop) (λ x. refl) xs)

parts_back : (bs : List (Option Span)) (ms us vs : List ℕ) →
    zip_with part (map mark bs ++ ms) (spans (map part_start bs ++ us) (map part_stop bs ++ vs)) ≡ bs ++ zip_with part ms (spans us vs)
parts_back bs ms us vs =
    ap (zip_with part (map mark bs ++ ms)) (zip_maps span part_start part_stop bs us vs)
    ∙ zip_maps part mark (λ (b : Option Span). span (part_start b) (part_stop b)) bs ms (spans us vs)
    ∙ ap (λ (l : List (Option Span)). l ++ zip_with part ms (spans us vs)) (map_self (λ (b : Option Span). part (mark b) (span (part_start b) (part_stop b))) part_back bs)

-- of what stands in the columns, the first fragments are those in front
front_held : (bs bs₁ : List (Option Span)) (xs xs₁ ps ps₁ : List Span) → length bs ≡ length xs → Within (length ps) xs →
    take (length bs) (held (bs ++ bs₁) (xs ++ xs₁) (ps ++ ps₁)) ≡ held bs xs ps
front_held bs bs₁ xs xs₁ ps ps₁ e w =
    let f : Option Span → Span → Fragment = λ b x. fragment b (slice x.start x.stop (ps ++ ps₁)) in
    ap (take (length bs)) (zip_fronts f bs bs₁ xs xs₁ e)
    ∙ take_at (zip_with f bs xs) (zip_with f bs₁ xs₁) (length bs) (length_zip f bs xs e)
    ∙ held_front bs xs ps ps₁ w

pub reads : (l : Layout) (c : Columns) → length l.bases ≡ length l.ranges → Within (length l.pieces) l.ranges →
    read_back (length l.bases) (holding l c) ≡ held l.bases l.ranges l.pieces
reads l c e w =
    rw (parts_back l.bases _ _ _, spans_back l.ranges _ _, spans_back l.pieces _ _) (front_held l.bases _ l.ranges _ l.pieces _ e w)

-- ---- the layout of a pair holds its fragments

-- fragments that share all pieces
module _ (ps : List Span) where
  slice_all : slice 0 (length ps) ps ≡ ps
  slice_all = take-length ps

  held_shared : (bs : List (Option Span)) → held bs (shared (length ps) bs) ps ≡ map (λ (b : Option Span). fragment b ps) bs
  unfolding zip_with
  held_shared [] = refl
  held_shared (b ∷ bs) = rw (slice_all, held_shared bs)

  held_any : (bs : List (Option Span)) → held bs (shared (length ps) bs) (if_any bs ps) ≡ map (λ (b : Option Span). fragment b ps) bs
  unfolding zip_with
  held_any [] = refl
  held_any (b ∷ bs) = held_shared (b ∷ bs)

  within_shared : (bs : List (Option Span)) → Within (length ps) (shared (length ps) bs)
  within_shared [] = tt
  within_shared (b ∷ bs) = (le_refl (length ps), within_shared bs)

  within_any : (bs : List (Option Span)) → Within (length (if_any bs ps)) (shared (length ps) bs)
  within_any [] = tt
  within_any (b ∷ bs) = within_shared (b ∷ bs)

-- fragments that own the pieces of a record each, behind those of earlier records
module _ (base : Option Span) (f : Span → List Span) where
  slice_own : (before own after : List Span) → slice (length before) (length before + length own) (before ++ (own ++ after)) ≡ own
  slice_own before own after = rw (take-append-add, drop-append_seam, take-append_seam)

  held_owned : (rs before : List Span) → held (map (λ (x : Span). base) rs) (owned f (length before) rs) (before ++ flat_map f rs) ≡ map (λ (x : Span). fragment base (f x)) rs
  unfolding zip_with owned flat_map
  held_owned [] before = refl
  held_owned (r ∷ rs) before =
      ap₂ ◌∷◌ (ap (fragment base) (slice_own before (f r) (flat_map f rs)))
      (rw (append_assoc before (f r) (flat_map f rs), length-append before (f r)) at (held_owned rs (before ++ f r)))

  within_owned : (rs : List Span) (at k : ℕ) → at + length (flat_map f rs) ≤ k → Within k (owned f at rs)
  unfolding owned flat_map
  within_owned [] at k h = tt
  within_owned (r ∷ rs) at k h =
      let n = length-append (f r) (flat_map f rs) in
      (omega (arith, n), within_owned rs (at + length (f r)) k (omega (arith, n)))

-- what a record gives are its pieces
pub given_is : (b : Choice) → given (giving_of b) ≡ pieces b
given_is None = refl
given_is Whole = refl
given_is WholeWide = refl
given_is Piece = refl
given_is Inverse = refl

-- what holds of a layout that a caller can read back as these fragments
pub record Readable (l : Layout) (fs : List Fragment) : Type 0 where
  pub even : length l.bases ≡ length l.ranges
  pub within : Within (length l.pieces) l.ranges
  pub holds : held l.bases l.ranges l.pieces ≡ fs

-- a layout of fragments that share the pieces ps
sharing : (bs : List (Option Span)) (ps : List Span) → Readable (record { bases = bs; ranges = shared (length ps) bs; pieces = if_any bs ps }) (map (λ (b : Option Span). fragment b ps) bs)
sharing bs ps = record { even = sym (length-map bs (λ (b : Option Span). span 0 (length ps))); within = within_any ps bs; holds = held_any ps bs }

readable_as : {l : Layout} {fs gs : List Fragment} → fs ≡ gs → Readable l fs → Readable l gs
readable_as e r = record { even = r.even; within = r.within; holds = r.holds ∙ e }

-- the layout of each pair is that of its fragments
pub readable : (a b : Choice) (base : Span) (rs : List Span) → Readable (layout (rule_of a b) base rs) (fragments a b base rs)
unfolding bases fragments flat_map
readable None b base rs = readable_as (ap (λ (g : Span → Span → List Span). fragment none (flat_map (g base) rs) ∷ []) (given_is b)) (sharing (none ∷ []) (all_given (giving_of b) base rs))
readable WholeWide b base rs = readable_as (ap (λ (g : Span → Span → List Span). fragment (some base) (flat_map (g base) rs) ∷ []) (given_is b)) (sharing (some base ∷ []) (all_given (giving_of b) base rs))
readable Piece b base rs =
    let ps = all_given (giving_of b) base rs in
    readable_as
    (map_map (λ (x : Option Span). fragment x ps) (λ (x : Span). some x) (map (clipped base) rs)
    ∙ map_map (λ (x : Span). fragment (some x) ps) (clipped base) rs
    ∙ ap (λ (g : Span → Span → List Span). map (λ (r : Span). fragment (some (clipped base r)) (flat_map (g base) rs)) rs) (given_is b))
    (sharing (present_all (map (clipped base) rs)) ps)
readable Inverse b base rs =
    let ps = all_given (giving_of b) base rs in
    readable_as
    (map_map (λ (x : Option Span). fragment x ps) (λ (x : Span). some x) (gaps base rs)
    ∙ ap (λ (g : Span → Span → List Span). map (λ (x : Span). fragment (some x) (flat_map (g base) rs)) (gaps base rs)) (given_is b))
    (sharing (present_all (gaps base rs)) ps)
readable Whole b base rs = whole rs
  where
    whole : (l : List Span) → Readable (layout (rule_of Whole b) base l) (fragments Whole b base l)
    whole [] = sharing (some base ∷ []) []
    whole (r ∷ l) =
        let f = given (giving_of b) base in
        rw (lt-ltb 0 (suc (length l)) (zero-lt-suc (length l)))
        (record {
          even = length-map (r ∷ l) (λ (x : Span). some base) ∙ sym (length_owned f 0 (r ∷ l));
          within = within_owned (some base) f (r ∷ l) 0 (length (flat_map f (r ∷ l))) (omega arith);
          holds = held_owned (some base) f (r ∷ l) [] ∙ ap (λ (g : Span → Span → List Span). map (λ (x : Span). fragment (some base) (g base x)) (r ∷ l)) (given_is b);
        })

-- the first fragments in the columns of a pair are the pair's
pub reads_back : (a b : Choice) (base : Span) (rs : List Span) (c : Columns) →
    read_back (length (layout (rule_of a b) base rs).bases) (holding (layout (rule_of a b) base rs) c) ≡ fragments a b base rs
reads_back a b base rs c =
    let r = readable a b base rs in
    reads (layout (rule_of a b) base rs) c r.even r.within ∙ r.holds

-- as many fragments are laid out as the pair has
pub fragments_count : (a b : Choice) (base : Span) (rs : List Span) → length (layout (rule_of a b) base rs).bases ≡ length (fragments a b base rs)
fragments_count a b base rs =
    let l = layout (rule_of a b) base rs in
    let r = readable a b base rs in
    sym (length_zip (λ (x : Option Span) (y : Span). fragment x (slice y.start y.stop l.pieces)) l.bases l.ranges r.even) ∙ ap length r.holds
