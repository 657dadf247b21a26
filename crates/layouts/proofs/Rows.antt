-- One turn of each loop over the records: what a definition says of the records that are left, by the first of them and those behind it. Assumes nothing.
use Prim.Native.Nat.{ℕ, ◌+◌}
use mathlib.Core.Path.{◌≡◌, sym, ap, ◌∙◌}
use mathlib.Core.List.{List, [], ◌∷◌, ◌++◌, flat_map, append-nil}
use mathlib.Core.Bool.{Bool, ◌&&◌}
use lib.ListN.{length}
use Rattle.spans.specs.declared.Span.{Span}
use Rattle.fragment_rules.specs.declared.Giving.{Giving}
use Rattle.spans.specs.Spans.{span, stretch}
use Rattle.layouts.specs.Fragments.{walk}
use Rattle.spans.specs.Turn.{gap_end, next_place}
use Rattle.layouts.specs.Given.{given, all_given}
use Rattle.layouts.specs.Layout.{owned}
use Rattle.spans.specs.Fitting.{fitting}
use Rattle.layouts.specs.Judged.{all_fitting}

module _ {left : List Span} where
  module _ {r : Span} {rs : List Span} (e : left ≡ r ∷ rs) where
    pub given_at : (g : Giving) (base : Span) → all_given g base left ≡ given g base r ++ all_given g base rs
    unfolding flat_map
    given_at g base = ap (λ (l : List Span). all_given g base l) e

    pub walk_at : (place stop : ℕ) → walk place stop left ≡ stretch place (gap_end place r) ++ walk (next_place place r) stop rs
    unfolding walk
    walk_at place stop = ap (λ (l : List Span). walk place stop l) e

    pub owned_at : (f : Span → List Span) (at : ℕ) → owned f at left ≡ (span at (at + length (f r)) ∷ []) ++ owned f (at + length (f r)) rs
    unfolding owned
    owned_at f at = ap (λ (l : List Span). owned f at l) e

    pub fitting_at : (base : Span) (ahead : ℕ) → all_fitting base ahead left ≡ fitting base ahead r && all_fitting base r.start rs
    unfolding all_fitting
    fitting_at base ahead = ap (λ (l : List Span). all_fitting base ahead l) e

  module _ (none : left ≡ []) where
    pub given_end : (g : Giving) (base : Span) → all_given g base left ≡ []
    unfolding flat_map
    given_end g base = ap (λ (l : List Span). all_given g base l) none

    pub walk_end : (place stop : ℕ) → walk place stop left ≡ stretch place stop ++ []
    unfolding walk
    walk_end place stop = ap (λ (l : List Span). walk place stop l) none ∙ sym (append-nil (stretch place stop))

    pub owned_end : (f : Span → List Span) (at : ℕ) → owned f at left ≡ []
    unfolding owned
    owned_end f at = ap (λ (l : List Span). owned f at l) none

    pub fitting_end : (base : Span) (ahead : ℕ) → all_fitting base ahead left ≡ Bool.true
    unfolding all_fitting
    fitting_end base ahead = ap (λ (l : List Span). all_fitting base ahead l) none
