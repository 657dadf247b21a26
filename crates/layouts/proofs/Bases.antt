-- Laws of the fragments' base parts: how many there are, whether there are pieces, one range a record. Assumes nothing.
use Prim.Native.Nat.{ℕ, suc, ◌+◌}
use mathlib.Core.Path.{◌≡◌, refl, sym, ap}
use mathlib.Core.List.{List, [], ◌∷◌, map}
use mathlib.Core.Option.{Option}
use native.Mathlib.Omega.{arith}
use lib.ListN.{length, length-map}
use Rattle.spans.specs.declared.Span.{Span}
use Rattle.fragment_rules.specs.declared.Parting.TheVariants.{EachRecord, EachClip}
use Rattle.layouts.specs.Given.{bases}
use Rattle.layouts.specs.Layout.{if_any, owned}

-- a function of what another gives
pub map_map : {A B C : Type 0} (f : B → C) (g : A → B) (l : List A) → map f (map g l) ≡ map (λ (x : A). f (g x)) l
map_map f g [] = refl
map_map f g (x ∷ l) = rw (map_map f g l)

module _ (base : Span) where
  -- how many base parts there are
  pub count_none : (rs : List Span) → length rs ≡ 0 → 1 ≡ length (bases EachRecord base rs)
  unfolding bases
  count_none [] h = refl
  count_none (r ∷ rs) h = absurd (omega arith)

  pub count_records : (rs : List Span) → (length rs ≡ 0 → ⊥) → length rs ≡ length (bases EachRecord base rs)
  unfolding bases
  count_records [] h = absurd (h refl)
  count_records (r ∷ rs) h = sym (simp length-map)

  pub count_clips : (rs : List Span) → length rs ≡ length (bases EachClip base rs)
  unfolding bases
  count_clips rs = sym (simp length-map)

-- pieces are there if there is a fragment
pub pieces_all : (bs : List (Option Span)) (ps : List Span) → (length bs ≡ 0 → ⊥) → if_any bs ps ≡ ps
pieces_all [] ps h = absurd (h refl)
pieces_all (b ∷ bs) ps h = refl

-- one range a record
pub length_owned : (f : Span → List Span) (at : ℕ) (rs : List Span) → length (owned f at rs) ≡ length rs
unfolding owned
length_owned f at [] = refl
length_owned f at (r ∷ rs) = ap suc (length_owned f (at + length (f r)) rs)
